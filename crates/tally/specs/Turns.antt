-- A list that comes in parts: at each turn some of what is left of it is in hand, and its records are counted.
use Rattle.std.specs.Prelude.{ℕ, ◌%◌, ◌^◌, Bool, cond, ◌&&◌, List, [], ◌∷◌, length, take, drop, nat_le}
use Rattle.tally.specs.declared.Tally.{Tally}
use Rattle.tally.specs.Tally.{fits, start, and_then, tallied}

-- as wide as the machine counts
abbrev pub wrapped : Tally → Tally
wrapped t = record { fault = t.fault; at = t.at % 2 ^ 64; count = t.count % 2 ^ 64; number = t.number }

-- what was counted, and then what was counted behind it; after a fault nothing is
unfoldable pub onto : Tally → Tally → Tally
onto t u = cond (fits t.fault) (wrapped (and_then t u)) t

-- from t on, over the next part of a list, which holds its end or does not
unfoldable pub went_on : Bool → ℕ → ℕ → Tally → List ℕ → Tally
went_on ended id ggsn t s = onto t (tallied ended id ggsn start s)

-- A turn: how many octets of what is left are in hand, or all if there are fewer; and whether the end was looked for.
pub record Turn : Type 0 where
  pub hand : ℕ
  pub looked : Bool

-- the end is seen where it was looked for and lies among what is in hand
abbrev pub in_turn : Turn → ℕ → ℕ → Tally → List ℕ → Tally
in_turn k id ggsn t s = went_on (k.looked && nat_le (length s) k.hand) id ggsn t (take k.hand s)

-- turn after turn, over the list s from its start: each behind what the last ones stepped over
unfoldable pub in_turns : List Turn → ℕ → ℕ → Tally → List ℕ → Tally
in_turns [] id ggsn t s = t
in_turns (k ∷ ks) id ggsn t s = in_turns ks id ggsn (in_turn k id ggsn t (drop t.at s)) s
