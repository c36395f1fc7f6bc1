-- A part of octets.
use Rattle.std.specs.Prelude.{cond, ◌&&◌, List, [], ℕ, ◌-◌, leb, length, take, drop}

-- from one place to another; none where that is no part
unfoldable pub part_of : ℕ → ℕ → List ℕ → List ℕ
part_of a b s = cond (leb a b && leb b (length s)) (take (b - a) (drop a s)) []
