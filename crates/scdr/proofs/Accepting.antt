-- What the reader of a record finds: all of the octets under A0, the fields, the duration, the rules.
use mathlib.Core.Path.{◌≡◌, refl, sym, ap, subst, ◌∙◌}
use mathlib.Core.Bool.{Bool, true, false, ◌&&◌}
use Rattle.std.specs.Prelude.{Option, None, Some}
use Rattle.std.proofs.lemmas.Option.{same_Some}
use mathlib.Core.List.{List, [], ◌∷◌}
use Prim.Native.Nat.{ℕ, zero, suc, ◌+◌, ◌-◌, ◌^◌, ◌≤◌}
use native.Mathlib.Nat.{le_of_suc-le-suc}
use native.Mathlib.Omega.{arith}
use lib.Dec.{eqb, ltb→lt}
use lib.ListN.{length, take, drop}
use lib.Seq.{drop-drop}
use denote.Bor.{Bor}
use Rattle.format.specs.Maybe.{bind, guard}
use Rattle.format.proofs.Maybe.{bind_some, guard_some}
use Rattle.ber.specs.Tlv.{tlv_dec}
use Rattle.ber.specs.Table.{Row, Values, row_good, row_dec, rows_at, both, tag}
use Rattle.ber.specs.Read.{read_at, part_at, cut}
use Rattle.ber.specs.Text.{or_none}
use Rattle.ber.proofs.Places.{part_is}
use Rattle.ber.proofs.Readers.{part_length, part_here}
use Rattle.ber.proofs.Records.{whole_is}
use Rattle.ber.proofs.Tables.{rows_then}
use Rattle.container.specs.declared.Container.{Container}
use Rattle.container.specs.List.{containers}
use Rattle.container.proofs.Padded.{padded_length, take_padded}
use Rattle.octets.proofs.Filled.{take_fill, fill_length}
use Rattle.scdr.specs.declared.Record.{Record}
use Rattle.scdr.specs.declared.fields.Wire.{Wire}
use Rattle.scdr.specs.Rules.{shaped, within, duration, duration_from}
use Rattle.scdr.specs.Table.{record_tag, Apn, NodeId, table}
use Rattle.scdr.specs.Layout.{Fields, body, to_record, duration_right, rules, inside, scdr}
use Rattle.scdr.specs.Apn.{walk, walk_in, if_read, apn_place, apn_of, ShowsApn}
use Rattle.scdr.specs.Private.Pieces.{name_rows, rest_rows, fields_at, lasts_of, wire, wire_of}
use Rattle.scdr.specs.Private.Taken.{NameAt}
use Rattle.scdr.proofs.BodyLaw.{body_law}
use Rattle.scdr.proofs.Answering.{shaped_is}
use Rattle.scdr.proofs.Reading.{body_fields}
use Rattle.scdr.proofs.Walks.{finds_rows, finds_here}

-- ---- what was read has the shape of a record

node_most : (o : Option (List ℕ)) → row_good NodeId o → length (or_none o) ≤ 20
node_most None g = omega arith
node_most (Some x) g = g.0

good_shaped : (w : Fields) → body.good w → shaped (to_record w) ≡ true
unfolding body to_record containers
good_shaped (kind, (network, (imsi, (sgsn, (id, (ggsn, (apn, (pdptype, (address, (cs, (opening, (lasts, (change, (cause, (number, (node, end))))))))))))))))
    (_, (_, (_, (gSgsn, (gId, (gGgsn, (gApn, (gType, (gAddress, (gList, (_, (_, (_, (_, (_, (gNode, _)))))))))))))))) =
    shaped_is
    (to_record (kind, (network, (imsi, (sgsn, (id, (ggsn, (apn, (pdptype, (address, (cs, (opening, (lasts, (change, (cause, (number, (node, end)))))))))))))))))
    (fill_length 63 0 apn gApn.0) (padded_length cs gList.2) (fill_length 20 0 (or_none node) (node_most node gNode))
    (ltb→lt sgsn (256 ^ 4) gSgsn.0) (ltb→lt id (2 ^ 32) gId.1) (ltb→lt ggsn (256 ^ 4) gGgsn.0) (ltb→lt pdptype (256 ^ 2) gType)
    (ltb→lt address (256 ^ 4) gAddress.0.0)

-- ---- the fields, the duration and the rules

-- what is asked of the fields: the duration that they say, and the rules
abbrev pub asked : Wire → Option Record
asked w = guard (eqb w.lasts (duration w.cdr) && within w.cdr) w.cdr

timed : (v : Fields) → duration_right v ≡ eqb (lasts_of v) (duration (to_record v))
unfolding duration_right to_record duration
timed (_, (_, (_, (_, (_, (_, (_, (_, (_, (cs, (o, (lasts, _)))))))))))) = ap (λ (l : List Container). eqb lasts (duration_from o.seconds l)) (sym (take_padded cs))

inside_is : (c : List ℕ) → inside.dec c ≡ bind (wire_of c) asked
unfolding inside wire_of
inside_is c =
    ap (λ (o : Option Fields). bind o (λ v. guard (duration_right v && rules (to_record v)) (to_record v))) (body_fields c)
    ∙ go (fields_at c) refl
  where
    go : (o : Option (Fields × ℕ)) → fields_at c ≡ o
        → bind {A = Fields} (bind o (λ x. Some x.0)) (λ v. guard (duration_right v && rules (to_record v)) (to_record v))
        ≡ bind {A = Wire} (bind o (λ x. Some (wire x.0 x.1))) asked
    go None e = refl
    go (Some x) e =
        let d : body.dec c ≡ Some x.0 = rw e at (body_fields c) in
        rw (good_shaped x.0 (body_law.sound c x.0 d).0, timed x.0)

-- a record, in the order in which the code tells it
pub scdr_is : (s : List ℕ) → scdr.dec s ≡ bind (read_at (tlv_dec record_tag) s 0) (λ q. bind (guard (eqb q.1 (length s)) q.0) (λ c. bind (wire_of c) asked))
unfolding scdr
scdr_is s =
    whole_is record_tag inside s
    ∙ (λ i. bind (read_at (tlv_dec record_tag) s 0) (λ q. bind (guard (eqb q.1 (length s)) q.0) (λ c. inside_is c i)))

-- ---- where the access point name lies

-- before its end, as many octets as it has
pub record NameEnds (s : List ℕ) (w : Wire) : Type 0 where
  pub place : ◌≡◌ {A = ℕ × ℕ} (w.name_end - w.cdr.apnlen, w.name_end) (walk (length table) (tag Apn) s 0)
  pub order : w.cdr.apnlen ≤ w.name_end
  pub inside : w.name_end ≤ length s
  pub is : take w.cdr.apnlen (drop (w.name_end - w.cdr.apnlen) s) ≡ take w.cdr.apnlen w.cdr.apn

ends : (c : List ℕ) (b : Values (take 6 table) × ℕ) (a : List ℕ × ℕ) (q : Values rest_rows) → rows_at c (take 6 table) 0 ≡ Some b → read_at (row_dec Apn) c b.1 ≡ Some a
    → NameEnds c (wire (both name_rows rest_rows (both (take 6 table) (Apn ∷ []) b.0 (a.0, tt)) q) a.1)
unfolding to_record
ends c b a q m t =
    let (here, order, inside, is) = finds_here 63 t in
    record {
      place = sym ((finds_rows c (take 6 table) 0 b.1 1 (tag Apn) (a.1 - length a.0, a.1) b.0 m tt here).is (length table) (omega arith));
      order = order;
      inside = inside;
      is = is ∙ sym (take_fill 63 0 a.0);
    }

pub name_ends : (c : List ℕ) (w : Wire) → wire_of c ≡ Some w → NameEnds c w
unfolding wire_of fields_at
name_ends c w e =
    let (x, f, g) = bind_some (fields_at c) (λ x. Some (wire x.0 x.1)) w e in
    let (p, d, h) = bind_some (rows_at c name_rows 0)
    (λ p. bind (rows_at c rest_rows p.1) (λ q. guard (eqb q.1 (length c)) (both name_rows rest_rows p.0 q.0, p.1))) x f in
    let (q, _, k) = bind_some (rows_at c rest_rows p.1) (λ q. guard (eqb q.1 (length c)) (both name_rows rest_rows p.0 q.0, p.1)) x h in
    let (_, l) = guard_some (eqb q.1 (length c)) (both name_rows rest_rows p.0 q.0, p.1) x k in
    let (b, m, n) = bind_some (rows_at c (take 6 table) 0)
    (λ b. bind (rows_at c (Apn ∷ []) b.1) (λ a. Some (both (take 6 table) (Apn ∷ []) b.0 a.0, a.1))) p (sym (rows_then c (take 6 table) (Apn ∷ []) 0) ∙ d) in
    let (y, o, r) = bind_some (rows_at c (Apn ∷ []) b.1) (λ a. Some (both (take 6 table) (Apn ∷ []) b.0 a.0, a.1)) p n in
    let (a, t, u) = bind_some (read_at (row_dec Apn) c b.1) (λ a. Some ((a.0, tt), a.1)) y o in
    subst (NameEnds c) (same_Some (wire x.0 x.1) w g)
    (subst (λ (x : Fields × ℕ). NameEnds c (wire x.0 x.1)) l
    (subst (λ (p : Values name_rows × ℕ). NameEnds c (wire (both name_rows rest_rows p.0 q.0) p.1)) (same_Some (both (take 6 table) (Apn ∷ []) b.0 y.0, y.1) p r)
    (subst (λ (y : Values (Apn ∷ []) × ℕ). NameEnds c (wire (both name_rows rest_rows (both (take 6 table) (Apn ∷ []) b.0 y.0) q.0) y.1)) (same_Some ((a.0, tt), a.1) y u)
    (ends c b a q.0 m t))))

-- a part of a part of s, which stands at a
take_less : (j n : ℕ) (l : List ℕ) → j ≤ n → take j (take n l) ≡ take j l
take_less zero n l h = refl
take_less (suc j) zero l h = absurd (omega arith)
take_less (suc j) (suc n) [] h = refl
take_less (suc j) (suc n) (x ∷ l) h = ap {B = List ℕ} (λ r. x ∷ r) (take_less j n l (le_of_suc-le-suc h))

take_inside : (x y n : ℕ) (l : List ℕ) → x ≤ y → y ≤ n → take (y - x) (drop x (take n l)) ≡ take (y - x) (drop x l)
take_inside zero y n l h k = take_less (y - 0) n l (omega arith)
take_inside (suc x) zero n l h k = absurd (omega arith)
take_inside (suc x) (suc y) zero l h k = absurd (omega arith)
take_inside (suc x) (suc y) (suc n) [] h k = refl
take_inside (suc x) (suc y) (suc n) (c ∷ l) h k =
    let e : suc y - suc x ≡ y - x = omega arith in
    rw e (take_inside x y n l (le_of_suc-le-suc h) (le_of_suc-le-suc k))

part_of_part : (s : List ℕ) (a n x y : ℕ) → x ≤ y → y ≤ n → take (a + y - (a + x)) (drop (a + x) s) ≡ take (y - x) (drop x (take n (drop a s)))
part_of_part s a n x y h k =
    let e : a + y - (a + x) ≡ y - x = omega arith in
    rw (e, ← drop-drop x a s) (sym (take_inside x y n (drop a s) h k))

-- what was found under A0 ends in s, and is no longer than its end
pub read_part : (s : List ℕ) {c : List ℕ} {e : ℕ} → read_at (tlv_dec record_tag) s 0 ≡ Some (c, e) → (length c ≤ e) × (e ≤ length s)
read_part s r = let (p, q) = part_here r in let z = ap length q ∙ part_length p in (omega (arith, p.order, z), p.inside)

pub name_at : {s c : List ℕ} {e : ℕ} {w : Wire} → read_at (tlv_dec record_tag) s 0 ≡ Some (c, e) → wire_of c ≡ Some w → scdr.dec s ≡ Some w.cdr
    → NameAt s w.cdr (e - length c + w.name_end)
unfolding apn_of apn_place
name_at {s} {c} {e} {w} r f d =
    let u = name_ends c w f in
    let (p, q) = part_here r in
    let from = e - length c in
    let start = w.name_end - w.cdr.apnlen in
    let n = part_length p in
    let z : length c ≡ e - from = ap length q ∙ n in
    let m : from + w.name_end - w.cdr.apnlen ≡ from + start = omega (arith, u.order) in
    let j : w.cdr.apnlen ≡ w.name_end - start = omega (arith, u.order) in
    let name = subst (λ (z : ℕ). take z (drop start c) ≡ take w.cdr.apnlen w.cdr.apn) j u.is in
    let walked : walk_in (length table) (tag Apn) s (part_at s 0 record_tag) ≡ (from + start, from + w.name_end) =
    ap (walk_in (length table) (tag Apn) s) (part_is s 0 record_tag p.order p.inside p.is)
    ∙ ap (λ (k : List ℕ). (from + (walk (length table) (tag Apn) k 0).0, from + (walk (length table) (tag Apn) k 0).1)) (sym q)
    ∙ ap (λ (z : ℕ × ℕ). (from + z.0, from + z.1)) (sym u.place) in
    record {
      place = (λ i. (m i, from + w.name_end)) ∙ sym (ap (λ (o : Option Record). if_read o (walk_in (length table) (tag Apn) s (part_at s 0 record_tag))) d ∙ walked);
      order = omega (arith, u.order);
      inside = omega (arith, u.inside, z, p.order, p.inside);
      name = ap (λ (z : ℕ). cut (z, from + w.name_end) s) m ∙ part_of_part s from (e - from) start w.name_end (omega arith) (omega (arith, u.inside, z))
          ∙ ap (λ (k : List ℕ). take (w.name_end - start) (drop start k)) (sym q) ∙ name;
    }

-- where there is no record, the empty part at the start is shown
pub shows_none : (s p : Bor (List ℕ)) → scdr.dec s.now ≡ None → p.now ≡ [] → p.ref_ptr ≡ s.ref_ptr → ShowsApn s p
unfolding apn_of apn_place
shows_none s p d c q =
    let z : s.ref_ptr.1 ≡ 0 + s.ref_ptr.1 = omega arith in
    record {
      order = rw d (omega arith);
      inside = rw d (omega arith);
      place = rw d (q ∙ (λ i. (s.ref_ptr.0, z i)));
      part = rw d c;
      name = rw d c;
    }

-- the test of the rules first, then of the duration
pub and_no : (a : Bool) {b : Bool} → b ≡ false → false ≡ (a && b)
and_no true e = sym e
and_no false e = refl

pub and_yes : (a : Bool) {b : Bool} → b ≡ true → a ≡ (a && b)
and_yes true e = sym e
and_yes false e = refl
