-- Records of either kind: the octets read back, what reads is the octets of one record within the rules and of no other, and none passes 1,024 octets.
-- The record at the front of octets is the one that the value there is.
use mathlib.Core.Path.{◌≡◌, refl, sym, ap, subst, ◌∙◌}
use mathlib.Core.Logic.{◌↔◌}
use mathlib.Core.Bool.{Bool, true, false}
use Rattle.std.specs.Prelude.{Option, None, Some}
use Rattle.std.proofs.lemmas.Option.{same_Some}
use mathlib.Core.List.{List, [], ◌++◌, append-nil}
use Prim.Native.Nat.{ℕ, ◌≤◌, ◌<◌}
use native.Mathlib.Omega.{arith}
use lib.Dec.{T}
use lib.ListN.{length}
use Rattle.format.specs.Maybe.{bind}
use Rattle.format.proofs.Maybe.{bind_some}
use Rattle.format.proofs.Tests.{by}
use Rattle.ber.specs.Tlv.{tlv_enc, tlv_dec}
use Rattle.ber.specs.Field.{first}
use Rattle.ber.proofs.Tlvs.{tlv_length}
use Rattle.scdr.specs.declared.Record.{Record}
use Rattle.scdr.specs.Table as s-table
use Rattle.scdr.specs.Layout as s-layout
use Rattle.scdr.proofs.Theorems as s-theorems
use Rattle.mcdr.specs.declared.MmRecord.{MmRecord}
use Rattle.mcdr.specs.Table as m-table
use Rattle.mcdr.specs.Layout as m-layout
use Rattle.mcdr.proofs.Theorems as m-theorems
use Rattle.cdrs.specs.Cdr.{Cdr, pdp, mm, cdr_enc, cdr_rules, cdr_dec, first_cdr}
use Rattle.cdrs.proofs.Values.{is_mm, kind_tag, value_of, Value, kind_of_lem, kind_alone, value_sound, value_none, first_value}

-- ---- the octets of a record

-- none within the rules passes 1,024 octets
pub at_most_1024 : (r : Cdr) → T (cdr_rules r) → length (cdr_enc r) ≤ 1024
at_most_1024 (pdp r) t = s-theorems.at_most_1024 r t
at_most_1024 (mm r) t = let h = m-theorems.at_most_400 r t in omega arith

-- they are one value
pub is_value : (r : Cdr) → T (cdr_rules r) → Value (cdr_enc r)
unfolding s-layout.scdr m-layout.mcdr
is_value (pdp r) t =
    let e = append-nil (tlv_enc s-table.record_tag ((s-layout.inside).enc r)) in
    let h = s-theorems.at_most_1024 r t in
    let n = tlv_length s-table.record_tag ((s-layout.inside).enc r) in
    record { mm = false; contents = (s-layout.inside).enc r; is = e; short = omega (arith, ap length e) }
is_value (mm r) t =
    let e = append-nil (tlv_enc m-table.record_tag ((m-layout.inside).enc r)) in
    let h = m-theorems.at_most_400 r t in
    let n = tlv_length m-table.record_tag ((m-layout.inside).enc r) in
    record { mm = true; contents = (m-layout.inside).enc r; is = e; short = omega (arith, ap length e) }

-- the tag of each kind
pub pdp_kind : (r : Record) → is_mm (cdr_enc (pdp r)) ≡ false
unfolding s-layout.scdr tlv_enc
pdp_kind r = refl

pub mm_kind : (r : MmRecord) → is_mm (cdr_enc (mm r)) ≡ true
unfolding m-layout.mcdr tlv_enc
mm_kind r = refl

-- ---- the record that octets are

abbrev Whole : List ℕ → Cdr → Type 0
Whole s r = T (cdr_rules r) × (cdr_enc r ≡ s)

whole : (s : List ℕ) (r : Cdr) → cdr_dec s ≡ Some r → Whole s r
unfolding cdr_dec
whole s r e =
    by (is_mm s)
    (λ m.
    let (a, d, f) = bind_some ((m-layout.mcdr).dec s) (λ r. Some (mm r)) r (rw m at e) in
    subst (Whole s) (same_Some (mm a) r f) ((m-theorems.exact s a).0 d))
    (λ m.
    let (a, d, f) = bind_some ((s-layout.scdr).dec s) (λ r. Some (pdp r)) r (rw m at e) in
    subst (Whole s) (same_Some (pdp a) r f) ((s-theorems.exact s a).0 d))

back : (s : List ℕ) (r : Cdr) → Whole s r → cdr_dec s ≡ Some r
unfolding cdr_dec
back s (pdp r) (t, e) = let k : is_mm s ≡ false = sym (ap is_mm e) ∙ pdp_kind r in rw (k, (s-theorems.exact s r).1 (t, e))
back s (mm r) (t, e) = let k : is_mm s ≡ true = sym (ap is_mm e) ∙ mm_kind r in rw (k, (m-theorems.exact s r).1 (t, e))

-- octets read as a record exactly where the record is within the rules and they are its octets
pub exact : (s : List ℕ) (r : Cdr) → (cdr_dec s ≡ Some r) ↔ (T (cdr_rules r) × (cdr_enc r ≡ s))
exact s r = (whole s r, back s r)

-- the octets of a record within the rules read back as that record
pub round_trip : (r : Cdr) → T (cdr_rules r) → cdr_dec (cdr_enc r) ≡ Some r
round_trip r t = back (cdr_enc r) r (t, refl)

-- two records within the rules with the same octets are equal
pub one_record : (a b : Cdr) → T (cdr_rules a) → T (cdr_rules b) → cdr_enc a ≡ cdr_enc b → a ≡ b
one_record a b s t e = same_Some a b (sym (back (cdr_enc b) a (s, e)) ∙ round_trip b t)

-- ---- the record at the front of octets

-- what was read of a value, and what follows it
abbrev pub followed : List ℕ → Option Cdr → Option (Cdr × List ℕ)
followed y o = bind o (λ r. Some (r, y))

value_first : (k : Bool) (c y : List ℕ) → length c < 65536 → first_cdr (tlv_enc (kind_tag k) c ++ y) ≡ followed y (cdr_dec (tlv_enc (kind_tag k) c))
unfolding first_cdr cdr_dec s-layout.scdr m-layout.mcdr
value_first true c y h =
    rw (kind_of_lem true c y, kind_alone true c, first_value m-table.record_tag m-layout.inside c h y) (go ((m-layout.mcdr).dec (tlv_enc m-table.record_tag c)))
  where
    go : (o : Option MmRecord) → bind {A = MmRecord × List ℕ} (bind o (λ a. Some (a, y))) (λ p. Some (mm p.0, p.1)) ≡ followed y (bind o (λ r. Some (mm r)))
    go None = refl
    go (Some r) = refl
value_first false c y h =
    rw (kind_of_lem false c y, kind_alone false c, first_value s-table.record_tag s-layout.inside c h y) (go ((s-layout.scdr).dec (tlv_enc s-table.record_tag c)))
  where
    go : (o : Option Record) → bind {A = Record × List ℕ} (bind o (λ a. Some (a, y))) (λ p. Some (pdp p.0, p.1)) ≡ followed y (bind o (λ r. Some (pdp r)))
    go None = refl
    go (Some r) = refl

-- it is the record that the octets of a value there are
pub front_value : {v : List ℕ} → Value v → (y : List ℕ) → first_cdr (v ++ y) ≡ followed y (cdr_dec v)
front_value {v} w y = let e = w.is in rw e (value_first w.mm w.contents y w.short)

no_first : (s : List ℕ) → value_of s ≡ None → first_cdr s ≡ None
unfolding first_cdr first
no_first s e =
    let d = value_none s e in
    by (is_mm s) (λ m. let k : tlv_dec m-table.record_tag s ≡ None = rw m at d in rw (m, k))
    (λ m. let k : tlv_dec s-table.record_tag s ≡ None = rw m at d in rw (m, k))

-- and there is none where no value is
pub by_value : (s : List ℕ) → first_cdr s ≡ bind (value_of s) (λ q. followed q.1 (cdr_dec q.0))
by_value s = go (value_of s) refl
  where
    go : (o : Option (List ℕ × List ℕ)) → value_of s ≡ o → first_cdr s ≡ bind o (λ q. followed q.1 (cdr_dec q.0))
    go None e = no_first s e
    go (Some q) e = let (w, d) = value_sound s q e in ap first_cdr d ∙ front_value w q.1

pub front : (r : Cdr) (y : List ℕ) → T (cdr_rules r) → first_cdr (cdr_enc r ++ y) ≡ Some (r, y)
front r y t = front_value (is_value r t) y ∙ rw (round_trip r t)

pub front_sound : (s : List ℕ) (p : Cdr × List ℕ) → first_cdr s ≡ Some p → T (cdr_rules p.0) × (s ≡ cdr_enc p.0 ++ p.1)
front_sound s p e =
    let (q, d, f) = bind_some (value_of s) (λ q. followed q.1 (cdr_dec q.0)) p (sym (by_value s) ∙ e) in
    let (r, g, k) = bind_some (cdr_dec q.0) (λ r. Some (r, q.1)) p f in
    let (t, w) = whole q.0 r g in
    subst (λ (p : Cdr × List ℕ). T (cdr_rules p.0) × (s ≡ cdr_enc p.0 ++ p.1)) (same_Some (r, q.1) p k)
    (t, (value_sound s q d).1 ∙ ap (λ (x : List ℕ). x ++ q.1) (sym w))

-- octets are a record where one stands at their front and nothing follows
pub all_front : (s : List ℕ) (r : Cdr) → (cdr_dec s ≡ Some r) ↔ (first_cdr s ≡ Some (r, []))
all_front s r = (
  λ e. let (t, w) = whole s r e in ap first_cdr (sym w ∙ sym (append-nil (cdr_enc r))) ∙ front r [] t,
  λ e. let (t, w) = front_sound s (r, []) e in back s r (t, sym (w ∙ append-nil (cdr_enc r))),
)
