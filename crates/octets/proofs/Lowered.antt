-- One spelling of an access point name: what lowering does to an octet and to a name, and the loop that lowers.
use mathlib.Core.Path.{◌≡◌, refl, sym, ap, ap₂, subst, ◌∙◌}
use mathlib.Core.Bool.{true, false}
use mathlib.Core.List.{List, [], ◌∷◌}
use Prim.Native.Nat.{ℕ, ◌+◌, ◌≤◌, ◌<◌}
use native.Mathlib.Numerals.{add-one}
use native.Mathlib.Omega.{arith}
use lib.Dec.{T}
use lib.ListN.{length, set, get_or, replicate, length-map, length-replicate, get_or-map}
use lib.Seq.{take_all, paste, paste-suc}
use borrow.Author.Tests.{le-leb, lt-leb, ne_eqb}
use Rattle.format.proofs.Tests.{either, both}
use Rattle.octets.specs.Chars.{all_of, apn_char, lower, lowered}
use Rattle.octets.specs.Filled.{fill_to}
use Rattle.octets.proofs.Fronts.{drop_zeros}

-- ---- an octet

pub lower_below : (x : ℕ) → x < 0x41 → lower x ≡ x
unfolding lower
lower_below x h = rw (lt-leb 0x41 x h)

pub lower_above : (x : ℕ) → 0x5A < x → lower x ≡ x
unfolding lower
lower_above x h = rw (le-leb 0x41 x (omega arith), lt-leb x 0x5A h)

pub lower_capital : (x : ℕ) → 0x41 ≤ x → x ≤ 0x5A → lower x ≡ x + 0x20
unfolding lower
lower_capital x h k = rw (le-leb 0x41 x h, le-leb x 0x5A k)

-- a capital is no character of a record
no_capital : (x : ℕ) → 0x41 ≤ x → x ≤ 0x5A → apn_char x ≡ false
unfolding apn_char
no_capital x h k =
    rw (
      lt-leb 0x61 x (omega arith),
      lt-leb x 0x39 (omega arith),
      le-leb 0x30 x (omega arith),
      ne_eqb x 0x2E (λ e. omega arith),
      ne_eqb x 0x2D (λ e. omega arith),
    )

lower_twice : (x : ℕ) → lower (lower x) ≡ lower x
lower_twice x =
    either 0x41 x
    (λ h. either x 0x5A
    (λ k. rw (lower_capital x h k) (lower_above (x + 0x20) (omega arith)))
    (λ k. ap lower (lower_above x k)))
    (λ h. ap lower (lower_below x h))

-- a character of a record is lowered already
lower_char : (x : ℕ) → apn_char x ≡ true → lower x ≡ x
lower_char x e =
    either 0x41 x
    (λ h. either x 0x5A (λ k. absurd (subst T (sym e ∙ no_capital x h k) tt)) (λ k. lower_above x k))
    (λ h. lower_below x h)

-- ---- a name

-- lowering a lowered name changes nothing (02, W5)
pub lowered_twice : (s : List ℕ) → lowered (lowered s) ≡ lowered s
unfolding lowered
lowered_twice [] = refl
lowered_twice (x ∷ s) = ap₂ {C = List ℕ} (λ y ys. y ∷ ys) (lower_twice x) (lowered_twice s)

-- nor does lowering the name of a record or of a node
pub lowered_chars : (s : List ℕ) → all_of apn_char s ≡ true → lowered s ≡ s
unfolding lowered all_of
lowered_chars [] e = refl
lowered_chars (x ∷ s) e =
    let (p, q) = both (apn_char x) (all_of apn_char s) e in
    ap₂ {C = List ℕ} (λ y ys. y ∷ ys) (lower_char x p) (lowered_chars s q)

pub lowered_length : (s : List ℕ) → length (lowered s) ≡ length s
unfolding lowered
lowered_length s = length-map s lower

lowered_at : (s : List ℕ) (i : ℕ) → get_or (lowered s) i 0 ≡ lower (get_or s i 0)
unfolding lowered lower
lowered_at s i = get_or-map lower s i 0

-- ---- the loop: the first i octets are lowered, and zeros stand after them

pub record Lowering (s apn : List ℕ) (i : ℕ) : Type 0 where
  pub most : i ≤ length s
  pub room : length s ≤ 63
  pub is : apn ≡ paste (replicate 63 0) 0 (lowered s) i

pub lowering_none : (s : List ℕ) → length s ≤ 63 → Lowering s (replicate 63 0) 0
lowering_none s h = record { most = omega arith; room = h; is = refl }

pub lowering_more : {s apn : List ℕ} {i x : ℕ} → Lowering s apn i → i < length s → x ≡ lower (get_or s i 0) → Lowering s (set apn i x) (i + 1)
lowering_more {s} {apn} {i} f h e = record {
  most = omega arith;
  room = f.room;
  is =
      let o : 0 + i ≡ i = omega arith in
      rw (f.is, e, add-one i) (ap (set (paste (replicate 63 0) 0 (lowered s) i) i) (sym (lowered_at s i))
      ∙ ap (λ (k : ℕ). set (paste (replicate 63 0) 0 (lowered s) i) k (get_or (lowered s) i 0)) (sym o)
      ∙ paste-suc (replicate 63 0) 0 (lowered s) i 0 (omega (arith, length-replicate {A = ℕ} 63 0, f.room)) (omega (arith, lowered_length s)));
}

pub lowering_end : {s apn : List ℕ} {i : ℕ} → Lowering s apn i → length s ≤ i → apn ≡ fill_to 63 0 (lowered s)
unfolding fill_to
lowering_end {s} {apn} {i} f h =
    let o : 0 + i ≡ length (lowered s) = omega (arith, f.most, lowered_length s) in
    f.is ∙ rw (take_all i (lowered s) (omega (arith, lowered_length s)), o, drop_zeros (length (lowered s)) 63)
