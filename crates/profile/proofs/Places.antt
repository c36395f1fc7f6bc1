-- The lines of the sets of limits, one after another.
use mathlib.Core.Path.{◌≡◌, refl, sym, ap, ◌∙◌}
use mathlib.Core.Bool.{true, false}
use mathlib.Core.List.{List}
use Prim.Native.Nat.{ℕ, zero, suc, ◌+◌, ◌-◌, ◌≤◌, ◌<◌}
use native.Mathlib.Omega.{arith}
use lib.Dec.{ltb, leb-suc-suc}
use lib.ListN.{length, get_or}
use borrow.Author.Tests.{lt-ltb, le-ltb}
use Rattle.limits.specs.declared.Limits.{Limits}
use Rattle.profile.specs.Cut.{feed, past, begins}
use Rattle.profile.specs.Line.{lines_past}
use Rattle.profile.specs.Sets.{limits_name, limits_ahead, sets_in, limits_in}
use Rattle.profile.specs.Private.Places.{place_of}
use Rattle.profile.proofs.Numbers.{by}

-- ---- how many there are

ahead_few : (n : ℕ) (s : List ℕ) → limits_ahead n s ≤ n
unfolding limits_ahead
ahead_few zero s = omega arith
ahead_few (suc n) s = by (begins limits_name s) (λ t. rw t (omega (arith, ahead_few n (past feed s)))) (λ t. rw t (omega arith))

pub sets_few : (s : List ℕ) → sets_in s ≤ 8
unfolding sets_in
sets_few s = omega (arith, ahead_few 7 (lines_past 2 s))

-- n sets are counted, and t is what is left after them
pub record Counted (s t : List ℕ) (n : ℕ) : Type 0 where
  pub few : n ≤ 8
  pub rest : (m : ℕ) → n + m ≡ 8 → n + limits_ahead m t ≡ sets_in s

pub counted_one : {s t : List ℕ} → t ≡ lines_past 2 s → Counted s t 1
unfolding sets_in
counted_one e = record { few = omega arith; rest = λ m g. let h : m ≡ 7 = omega arith in rw (h, e) (omega arith) }

module _ {s t : List ℕ} {n : ℕ} (c : Counted s t n) where
  pub counted_stop : n < 8 → begins limits_name t ≡ false → n ≡ sets_in s
  unfolding limits_ahead
  counted_stop h e = let g = rw e at (c.rest (suc (7 - n)) (omega arith)) in omega arith

  pub counted_more : n < 8 → begins limits_name t ≡ true → {u : List ℕ} → u ≡ past feed t → Counted s u (n + 1)
  unfolding limits_ahead
  counted_more h e {u} g =
      record {
        few = omega arith;
        rest = λ m k. let f = rw e at (c.rest (suc m) (omega arith)) in let z = ap (limits_ahead m) g in omega arith;
      }

  pub counted_end : 8 ≤ n → n ≡ sets_in s
  unfolding limits_ahead
  counted_end h = omega (arith, c.rest 0 (omega (arith, c.few)))

-- ---- what they say

ltb_suc : (i k : ℕ) → ltb i k ≡ ltb (suc i) (suc k)
ltb_suc i k = sym (leb-suc-suc (suc i) k)

pub limits_long : (n k : ℕ) (s : List ℕ) → length (limits_in n k s) ≡ n
unfolding limits_in
limits_long zero k s = refl
limits_long (suc n) zero s = ap suc (limits_long n zero s)
limits_long (suc n) (suc k) s = ap suc (limits_long n k (past feed s))

pub limits_at_lem : (n k : ℕ) (s : List ℕ) (i : ℕ) (d : Limits) → i < n → get_or (limits_in n k s) i d ≡ place_of k i s
unfolding limits_in place_of lines_past
limits_at_lem zero k s i d h = absurd (omega arith)
limits_at_lem (suc n) zero s zero d h = refl
limits_at_lem (suc n) zero s (suc i) d h = limits_at_lem n zero s i d (omega arith) ∙ rw (le-ltb i 0 (omega arith), le-ltb (suc i) 0 (omega arith))
limits_at_lem (suc n) (suc k) s zero d h = rw (lt-ltb 0 (suc k) (omega arith))
limits_at_lem (suc n) (suc k) s (suc i) d h = limits_at_lem n k (past feed s) i d (omega arith) ∙ rw (ltb_suc i k)
