-- A node made where it lies, from its profile's text.
use Rattle.std.specs.Prelude.{◌≡◌, cond, List, ℕ, Result, Ok, Err}
use Rattle.profile.specs.Text.{read_of}
use Rattle.profile.specs.Profile.{profile_ok}
use Rattle.profile.specs.declared.Profile.{Profile}
use Rattle.profile.specs.declared.fault.BadLine.{BadLine}
use Rattle.node.specs.declared.Node.{Node}
use Rattle.node.specs.Sound.{fresh_node, fresh_of, no_node}
use Rattle.host.specs.declared.Unfit.{Unfit}
use Rattle.host.specs.declared.Unfit.TheVariants.{Line, Range}

-- A text that does not read makes no node, as a profile out of range makes none.
unfoldable pub begun_by : Result Profile BadLine → Result Node Unfit
begun_by (Ok p) = cond (profile_ok p) (Ok (fresh_node p)) (Err Range)
begun_by (Err b) = Err (Line b)

abbrev pub begun : List ℕ → Result Node Unfit
begun s = begun_by (read_of s)

-- The same for a host in C: where there is none, 12, and all zero. The line is the first bad one, or 0.
unfoldable pub began_by : Result Profile BadLine → ℕ × (Node × ℕ)
began_by (Ok p) = ((fresh_of p).0, ((fresh_of p).1, 0))
began_by (Err b) = (12, (no_node, b.line))

pub record Begins (s : List ℕ) (answer : ℕ) (n : Node) (line : ℕ) : Type 0 where
  pub is : ◌≡◌ {A = ℕ × (Node × ℕ)} (answer, (n, line)) (began_by (read_of s))
