-- What was done: events charged one after another, up to a refusal or not.
use Rattle.std.specs.Prelude.{cond, List, [], ◌++◌, ℕ, ◌+◌, eqb}
use Rattle.node.specs.declared.Node.{Node}

pub record Done : Type 0 where
  -- 0, or the number of the refusal at which it stopped
  pub answer : ℕ
  -- the node that the last accepted event handed back
  pub node : Node
  -- what the accepted events wrote, in order: their records, each after its mark
  pub out : List ℕ
  -- how many octets the accepted events have: what is left of the file begins behind them
  pub came : ℕ
  -- how many accepted events these are
  pub events : ℕ
  -- how many octets the last of them has; 0 where there is none
  pub last : ℕ

-- nothing yet
abbrev pub nothing : Node → Done
nothing n = record { answer = 0; node = n; out = []; came = 0; events = 0; last = 0 }

-- of two lengths the later, where there is one
abbrev pub later : ℕ → ℕ → ℕ
later a b = cond (eqb b 0) a b

-- one after the other
abbrev pub joined : Done → Done → Done
joined a b = record {
  answer = b.answer;
  node = b.node;
  out = a.out ++ b.out;
  came = a.came + b.came;
  events = a.events + b.events;
  last = later a.last b.last;
}

-- a, and b behind it unless a was refused
unfoldable pub and_then : Done → Done → Done
and_then a b = cond (eqb a.answer 0) (joined a b) a
