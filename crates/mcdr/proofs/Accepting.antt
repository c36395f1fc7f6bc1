-- What the reader of a record finds: all of the octets under A2, the fields, the rules.
use mathlib.Core.Path.{◌≡◌, refl, sym, ap, subst, ◌∙◌}
use mathlib.Core.Bool.{Bool, true, false, ◌&&◌}
use Rattle.std.specs.Prelude.{Option, None, Some}
use Rattle.std.proofs.lemmas.Option.{none-some, same_Some}
use mathlib.Core.List.{List, [], ◌∷◌, ◌++◌}
use Prim.Native.Nat.{ℕ, zero, suc, ◌^◌, ◌-◌, ◌≤◌, ◌<◌}
use native.Mathlib.Omega.{arith}
use lib.Dec.{T, eqb, ltb→lt}
use lib.ListN.{length}
use Rattle.format.specs.Maybe.{bind, guard}
use Rattle.format.proofs.Maybe.{bind_some}
use Rattle.format.proofs.Tests.{T_true, and_l, and_r}
use Rattle.ber.specs.Tlv.{tlv_dec}
use Rattle.ber.specs.Table.{row_good}
use Rattle.ber.specs.Read.{read_at}
use Rattle.ber.specs.Text.{or_none}
use Rattle.ber.proofs.Records.{whole_is}
use Rattle.calendar.specs.Stamp.{stamp_ok}
use Rattle.octets.proofs.Filled.{fill_length}
use Rattle.mcdr.specs.declared.Change.{Change}
use Rattle.mcdr.specs.declared.MmRecord.{MmRecord}
use Rattle.mcdr.specs.Change.{place_ok, change_ok}
use Rattle.mcdr.specs.Changes.{each_ok, no_changes, padded}
use Rattle.mcdr.specs.Rules.{all_places_ok, shaped, within}
use Rattle.mcdr.specs.Table.{record_tag, Changes, NodeId}
use Rattle.mcdr.specs.Layout.{Fields, body, to_record, rules, inside, mcdr}
use Rattle.mcdr.specs.Private.Pieces.{record_of}
use Rattle.mcdr.proofs.Formats.{good_each}
use Rattle.mcdr.proofs.ChangeFields.{place_ok_lem}
use Rattle.mcdr.proofs.Padded.{padded_length}
use Rattle.mcdr.proofs.BodyLaw.{body_law}
use Rattle.mcdr.proofs.Views.{shape_is}

-- ---- what was read has the shape of a record

node_most : (o : Option (List ℕ)) → row_good NodeId o → length (or_none o) ≤ 20
node_most None g = omega arith
node_most (Some x) g = g.0

none_placed : (n : ℕ) → all_places_ok (no_changes n) ≡ true
unfolding all_places_ok no_changes place_ok
none_placed zero = refl
none_placed (suc n) = none_placed n

all_placed : (cs : List Change) (n : ℕ) → T (each_ok cs) → all_places_ok (cs ++ no_changes n) ≡ true
unfolding all_places_ok each_ok change_ok
all_placed [] n t = none_placed n
all_placed (c ∷ cs) n t =
    let p = and_l (place_ok c.place) (stamp_ok c.time) (and_l (change_ok c) (each_ok cs) t) in
    rw (T_true (place_ok c.place) p, all_placed cs n (and_r (change_ok c) (each_ok cs) t))

list_most : (o : Option (List Change)) → row_good Changes o → length (or_none o) ≤ 15
list_most None g = omega arith
list_most (Some cs) g = (good_each cs g).2

list_placed : (o : Option (List Change)) → row_good Changes o → all_places_ok (padded (or_none o)) ≡ true
list_placed None g = none_placed (15 - 0)
list_placed (Some cs) g = all_placed cs (15 - length cs) (good_each cs g).0

good_shaped : (w : Fields) → body.good w → (to_record w).place.rac < 256 → shaped (to_record w) ≡ true
unfolding body to_record
good_shaped (kind, (imsi, (sgsn, (rac, (lac, (cs, (opening, (duration, (cause, (number, (node, end)))))))))))
    (_, (_, (gSgsn, (_, (gLac, (gList, (_, (gDuration, (_, (_, (gNode, _))))))))))) octet =
    shape_is (to_record (kind, (imsi, (sgsn, (rac, (lac, (cs, (opening, (duration, (cause, (number, (node, end)))))))))))) (record {
      changes = padded_length (or_none cs) (list_most cs gList);
      node = fill_length 20 0 (or_none node) (node_most node gNode);
      sgsn = ltb→lt sgsn (256 ^ 4) gSgsn.0;
      place = place_ok_lem (record { lac = lac; rac = rac }) (ltb→lt lac (256 ^ 2) gLac) octet;
      duration = ltb→lt duration (2 ^ 32) gDuration.1;
      places = list_placed cs gList;
    })

-- ---- the fields and the rules

-- a record, in the order in which the code tells it
pub mcdr_is : (s : List ℕ) → mcdr.dec s ≡ bind (read_at (tlv_dec record_tag) s 0) (λ q. bind (guard (eqb q.1 (length s)) q.0) inside.dec)
unfolding mcdr
mcdr_is s = whole_is record_tag inside s

-- what the fields say has the shape of a record, where an octet is one (the format takes any number for it): the rules decide
pub inside_none : (c : List ℕ) → record_of c ≡ None → inside.dec c ≡ None
unfolding inside record_of
inside_none c e = go (body.dec c) e
  where
    go : (o : Option Fields) → bind {B = MmRecord} o (λ v. Some (to_record v)) ≡ None → bind {B = MmRecord} o (λ v. guard (true && rules (to_record v)) (to_record v)) ≡ None
    go None e = refl
    go (Some v) e = absurd (none-some (to_record v) (sym e))

pub inside_some : (c : List ℕ) (r : MmRecord) → record_of c ≡ Some r → r.place.rac < 256 → inside.dec c ≡ guard (within r) r
unfolding inside record_of
inside_some c r e octet =
    let (v, d, f) = bind_some (body.dec c) (λ v. Some (to_record v)) r e in
    let i = same_Some (to_record v) r f in
    let h = good_shaped v (body_law.sound c v d).0 (subst (λ (r : MmRecord). r.place.rac < 256) (sym i) octet) in
    rw (d, h, i)
