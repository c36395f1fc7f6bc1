-- The limits at a place, as the code comes to them.
use Rattle.std.specs.Prelude.{cond, List, ℕ, ltb}
use Rattle.limits.specs.declared.Limits.{Limits}
use Rattle.limits.specs.Limits.{no_limits}
use Rattle.profile.specs.Three.{limits_of}
use Rattle.profile.specs.Line.{value_at}

-- of k sets, the first of which is the line at the front
unfoldable pub place_of : ℕ → ℕ → List ℕ → Limits
place_of k i s = cond (ltb i k) (limits_of (value_at i s)) no_limits
