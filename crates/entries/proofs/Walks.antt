-- One step of a walk over entries: with an entry at the place, and with none.
use mathlib.Core.Path.{◌≡◌, refl}
use Rattle.std.specs.Prelude.{None, Some}
use mathlib.Core.List.{List, [], ◌∷◌}
use Prim.Native.Nat.{ℕ, zero, suc}
use Rattle.entries.specs.Entry.{entry_at}
use Rattle.entries.specs.Steps.{place_of, places_from, stop_from}

module _ (s : List ℕ) (at : ℕ) where
  pub one_more : (p : ℕ × ℕ) → place_of (entry_at s at) ≡ Some p → (n : ℕ) → places_from (suc n) s at ≡ p ∷ places_from n s p.1
  unfolding places_from
  one_more p e n = rw e

  pub goes_on_lem : (p : ℕ × ℕ) → place_of (entry_at s at) ≡ Some p → (n : ℕ) → stop_from (suc n) s at ≡ stop_from n s p.1
  unfolding stop_from
  goes_on_lem p e n = rw e

  pub no_more : place_of (entry_at s at) ≡ None → (n : ℕ) → places_from n s at ≡ []
  unfolding places_from
  no_more e zero = refl
  no_more e (suc n) = rw e

  pub stays : place_of (entry_at s at) ≡ None → (n : ℕ) → stop_from n s at ≡ at
  unfolding stop_from
  stays e zero = refl
  stays e (suc n) = rw e
