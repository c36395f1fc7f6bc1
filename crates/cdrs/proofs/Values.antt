-- The value at the front of octets that a record of either kind may be, by its tag and its length alone.
use mathlib.Core.Path.{◌≡◌, refl, sym, ap, subst, ◌∙◌}
use mathlib.Core.Bool.{Bool, true, false}
use Rattle.std.specs.Prelude.{Option, None, Some}
use Rattle.std.proofs.lemmas.Option.{none-some, same_Some}
use mathlib.Core.List.{List, [], ◌++◌, append-nil}
use Prim.Native.Nat.{ℕ, ◌≤◌, ◌<◌}
use native.Mathlib.Omega.{arith}
use lib.ListN.{length}
use Rattle.format.specs.Maybe.{bind}
use Rattle.format.specs.Format.{Fmt}
use Rattle.format.proofs.Maybe.{bind_some}
use Rattle.ber.specs.Tlv.{tlv_enc, tlv_dec}
use Rattle.ber.specs.Field.{first, nothing, alone, starts}
use Rattle.ber.proofs.Tlvs.{tlv_complete, tlv_sound, tlv_length, head_2}
use Rattle.scdr.specs.Table as s-table
use Rattle.mcdr.specs.Table as m-table

-- do octets begin as an M-CDR does?
abbrev pub is_mm : List ℕ → Bool
is_mm s = starts m-table.record_tag s

-- the tag of an M-CDR, or of an S-CDR
abbrev pub kind_tag : Bool → ℕ
kind_tag true = m-table.record_tag
kind_tag false = s-table.record_tag

-- the octets of the value at the front of s under the tag of a record, and what follows it
unfoldable pub value_of : List ℕ → Option (List ℕ × List ℕ)
value_of s = bind (tlv_dec (kind_tag (is_mm s)) s) (λ p. Some (tlv_enc (kind_tag (is_mm s)) p.0, p.1))

-- octets that are one value under the tag of a record
pub record Value (v : List ℕ) : Type 0 where
  pub mm : Bool
  pub contents : List ℕ
  pub is : v ≡ tlv_enc (kind_tag mm) contents
  pub short : length contents < 65536

-- the tag tells the kind
pub kind_of_lem : (k : Bool) (c y : List ℕ) → is_mm (tlv_enc (kind_tag k) c ++ y) ≡ k
unfolding tlv_enc
kind_of_lem true c y = refl
kind_of_lem false c y = refl

pub kind_alone : (k : Bool) (c : List ℕ) → is_mm (tlv_enc (kind_tag k) c) ≡ k
unfolding tlv_enc
kind_alone true c = refl
kind_alone false c = refl

-- a value has at least two octets
pub value_long : {v : List ℕ} → Value v → 2 ≤ length v
value_long {v} w =
    omega (arith, ap length w.is, tlv_length (kind_tag w.mm) w.contents, head_2 (length w.contents))

-- a value is found at the front of octets
pub value_front : {v : List ℕ} → Value v → (y : List ℕ) → value_of (v ++ y) ≡ Some (v, y)
unfolding value_of
value_front {v} w y =
    let e = w.is in
    rw (e, kind_of_lem w.mm w.contents y, tlv_complete (kind_tag w.mm) w.contents y w.short)

-- what is found at the front of octets is a value
pub value_sound : (s : List ℕ) (q : List ℕ × List ℕ) → value_of s ≡ Some q → Value q.0 × (s ≡ q.0 ++ q.1)
unfolding value_of
value_sound s q e =
    let (p, d, f) = bind_some (tlv_dec (kind_tag (is_mm s)) s) (λ p. Some (tlv_enc (kind_tag (is_mm s)) p.0, p.1)) q e in
    let (h, w) = tlv_sound (kind_tag (is_mm s)) s p d in
    subst (λ (q : List ℕ × List ℕ). Value q.0 × (s ≡ q.0 ++ q.1)) (same_Some (tlv_enc (kind_tag (is_mm s)) p.0, p.1) q f)
    (record { mm = is_mm s; contents = p.0; is = refl; short = h }, w)

found_none : {A B : Type 0} (o : Option A) (f : A → B) → bind o (λ a. Some (f a)) ≡ None → o ≡ None
found_none None f e = refl
found_none (Some a) f e = absurd (none-some (f a) (sym e))

-- where none is found, none under the tag stands there
pub value_none : (s : List ℕ) → value_of s ≡ None → tlv_dec (kind_tag (is_mm s)) s ≡ None
unfolding value_of
value_none s e = found_none (tlv_dec (kind_tag (is_mm s)) s) (λ p. (tlv_enc (kind_tag (is_mm s)) p.0, p.1)) e

-- ---- a format under a tag, at the front of octets and as all of them

module _ (t : ℕ) {A : Type 0} (x : Fmt A) (c : List ℕ) (h : length c < 65536) where
  -- the contents decide
  pub alone_value : (alone t x).dec (tlv_enc t c) ≡ x.dec c
  unfolding first
  alone_value = rw (ap (tlv_dec t) (sym (append-nil (tlv_enc t c))) ∙ tlv_complete t c [] h) (go (x.dec c))
    where
      go : (o : Option A)
          → bind {A = A × Unit {0}} (bind {A = A × List ℕ} (bind o (λ a. Some (a, []))) (λ p. bind (nothing p.1) (λ b. Some (p.0, b)))) (λ v. Some v.0)
          ≡ o
      go None = refl
      go (Some a) = refl

  pub first_value : (y : List ℕ) → first t x (tlv_enc t c ++ y) ≡ bind ((alone t x).dec (tlv_enc t c)) (λ a. Some (a, y))
  unfolding first
  first_value y = rw (tlv_complete t c y h) (rw alone_value)
