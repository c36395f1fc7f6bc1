-- A number of at least 1 that may be missing, kept as a plain number: 0 says that there is none.
use Rattle.std.specs.Prelude.{Option, Some}
use Rattle.std.specs.Prelude.{List, ℕ}
use Rattle.format.specs.Maybe.{bind}
use Rattle.ber.specs.Int.{counted}
use Rattle.ber.specs.Field.{maybe, or_zero}

-- the number under the tag at the front of s, or 0 where the tag is not there, and what follows it
unfoldable pub counts : ℕ → List ℕ → Option (ℕ × List ℕ)
counts t s = bind (maybe t counted s) (λ p. Some (or_zero p.0, p.1))
