-- Cause 19 exactly with fifteen changes, and the closing: the two ways out of a test, and the rules one by one.
use mathlib.Core.Path.{◌≡◌, refl}
use mathlib.Core.Bool.{Bool, true, false, not, ◌&&◌, ◌||◌, beq}
use Prim.Native.Nat.{ℕ, ◌+◌, ◌≤◌}
use lib.Dec.{leb, eqb}
use borrow.Author.Tests.{eq-eqb, ne_eqb, eqb-true, eqb-false, leb-true, le-leb}
use Rattle.format.proofs.Tests.{by, both}
use Rattle.mcdr.specs.Rules.{full_ok, closing_ok}

module _ (c n : ℕ) where
  pub full_yes : c ≡ 19 → eqb n 15 ≡ full_ok c n
  unfolding full_ok
  full_yes e = rw (eq-eqb c 19 e) (same (eqb n 15))
    where
      same : (b : Bool) → b ≡ beq true b
      same true = refl
      same false = refl

  pub full_no : (c ≡ 19 → ⊥) → not (eqb n 15) ≡ full_ok c n
  unfolding full_ok
  full_no e = rw (ne_eqb c 19 e) (other (eqb n 15))
    where
      other : (b : Bool) → not b ≡ beq false b
      other true = refl
      other false = refl

  pub full_is : (c ≡ 19 → n ≡ 15) → (n ≡ 15 → c ≡ 19) → full_ok c n ≡ true
  unfolding full_ok
  full_is f g =
      by (eqb c 19)
      (λ e. rw (e, eq-eqb n 15 (f (eqb-true c 19 e))))
      (λ e. rw (e, ne_eqb n 15 (λ m. eqb-false c 19 e (g m))))

-- ---- the closing of a record, rule by rule

pub record Closing (c opening duration last : ℕ) : Type 0 where
  pub order : last ≤ opening + duration
  pub full : c ≡ 19 → opening + duration ≡ last
  pub until : opening + duration ≤ 3155759999

module _ (c opening duration last : ℕ) where
  pub closing_rules : closing_ok c opening duration last ≡ true → Closing c opening duration last
  unfolding closing_ok
  closing_rules h =
      let a = leb last (opening + duration) in
      let b = not (eqb c 19) || eqb (opening + duration) last in
      let (h₁, until) = both (a && b) (leb (opening + duration) 3155759999) h in
      let (order, full) = both a b h₁ in
      record {
        order = leb-true last (opening + duration) order;
        full = λ e. eqb-true (opening + duration) last (rw (eq-eqb c 19 e) at full);
        until = leb-true (opening + duration) 3155759999 until;
      }

  pub closing_is : Closing c opening duration last → closing_ok c opening duration last ≡ true
  unfolding closing_ok
  closing_is k =
      by (eqb c 19)
      (λ e. rw (
        le-leb last (opening + duration) k.order,
        e,
        eq-eqb (opening + duration) last (k.full (eqb-true c 19 e)),
        le-leb (opening + duration) 3155759999 k.until,
      ))
      (λ e. rw (le-leb last (opening + duration) k.order, e, le-leb (opening + duration) 3155759999 k.until))
