-- A number that is made one of four octets, if it fits.
use mathlib.Core.Path.{◌≡◌, sym}
use Rattle.std.specs.Prelude.{None, Some, Result, Ok, Err}
use Rattle.std.specs.Result.{OkIff, result_ok}
use Rattle.std.proofs.lemmas.Option.{none-some}
use Prim.Native.Nat.{ℕ, ◌^◌, ◌<◌}
use native.Mathlib.Omega.{arith}
use lib.Dec.{ltb}
use borrow.Author.Tests.{lt-ltb, le-ltb}
use Rattle.format.specs.Maybe.{guard}

module _ {E : Type 0} where
  pub word_no : (r : Result ℕ E) (v : ℕ) → result_ok r ≡ None → OkIff r (v < 2 ^ 32) v → guard (ltb v (2 ^ 32)) v ≡ None
  word_no (Ok x) v e h = absurd (none-some x (sym e))
  word_no (Err d) v e h = rw (le-ltb v (2 ^ 32) (omega (arith, h)))

  pub word_yes : (r : Result ℕ E) (v x : ℕ) → result_ok r ≡ Some x → OkIff r (v < 2 ^ 32) v → guard (ltb v (2 ^ 32)) v ≡ Some x
  word_yes (Ok y) v x e h = rw (lt-ltb v (2 ^ 32) h.0, ← h.1) e
  word_yes (Err d) v x e h = absurd (none-some x e)
