-- A run: calls one after another, each on the node that the last one handed back.
use Rattle.std.specs.Prelude.{ℕ, zero, suc, Bool, cond, List, [], ◌∷◌, ◌++◌, take}
use Rattle.history.specs.Log.{Accepted}

-- M is the node, I what a call is given, W events, O the records that calls write.
pub record Machine (M I W O : Type 0) : Type 0 where
  -- the events that a call holds, each at its time: none if its octets are no event
  pub holds : I → List (Accepted W)
  -- How many of them the call applied, from the first on. The others are refused.
  pub applies : M → I → ℕ
  -- the node and the records that the call hands back, whatever it answers
  pub after : M → I → M
  pub writes : M → I → List O

-- A call that holds one event applies it exactly when the answer is 0.
abbrev pub if_zero : ℕ → ℕ
if_zero zero = 1
if_zero (suc number) = 0

module _ {M I W O : Type 0} (X : Machine M I W O) where
  abbrev pub applied : M → I → List (Accepted W)
  applied a i = take (X.applies a i) (X.holds i)

  abbrev pub run : M → List I → M
  run a [] = a
  run a (i ∷ is) = run (X.after a i) is

  abbrev pub all_written : M → List I → List O
  all_written a [] = []
  all_written a (i ∷ is) = X.writes a i ++ all_written (X.after a i) is

  -- the accepted events
  abbrev pub log : M → List I → List (Accepted W)
  log a [] = []
  log a (i ∷ is) = applied a i ++ log (X.after a i) is

  -- Of calls to be done one by one, those that are done, up to the first that is not accepted: what one call of several events does.
  abbrev pub up_to_refusal : (M → I → Bool) → M → List I → List I
  up_to_refusal accepts a [] = []
  up_to_refusal accepts a (i ∷ is) = cond (accepts a i) (i ∷ up_to_refusal accepts (X.after a i) is) []
