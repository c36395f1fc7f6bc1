-- A history: how it started, and then what was heard, each thing at its time, in order. `start 5 s ▸ 7 ∶ a ▸ 9 ∶ b` started at
-- 5 with s in force, heard a at 7 and then b at 9. The history of an activation is one; the past of its open record, from the
-- opening on, is one again, and so is a stretch. S is what is in force for the subject, E what it hears.
use Rattle.std.specs.Prelude.{ℕ, ◌+◌, ◌≤◌, List, [], ◌∷◌, ◌++◌}
use Rattle.std.specs.Prelude.{Option}
use Rattle.history.specs.Lists.{count}

infixl 60 ◌▸◌∶◌
pub data History (S E : Type 0) : Type 0 where
  start : ℕ → S → History S E
  ◌▸◌∶◌ : History S E → ℕ → E → History S E

-- What the events of a history yield, in time order: `f h t e` is what e yields, heard at t right after h.
abbrev pub collect : {S E A : Type 0} → (History S E → ℕ → E → List A) → History S E → List A
collect f (start t s) = []
collect f (h ▸ t ∶ e) = collect f h ++ f h t e

abbrev pub events : {S E : Type 0} → History S E → List (ℕ × E)
events h = collect (λ h t e. (t, e) ∷ []) h

-- When it started, and with what in force.
abbrev pub began : {S E : Type 0} → History S E → ℕ
began (start t s) = t
began (h ▸ t ∶ e) = began h

abbrev pub began_with : {S E : Type 0} → History S E → S
began_with (start t s) = s
began_with (h ▸ t ∶ e) = began_with h

-- The time of the last thing heard.
abbrev pub latest : {S E : Type 0} → History S E → ℕ
latest (start t s) = t
latest (h ▸ t ∶ e) = t

-- What is in force now.
abbrev pub standing : {S E : Type 0} → (S → E → S) → History S E → S
standing after (start t s) = s
standing after (h ▸ t ∶ e) = after (standing after h) e

-- The sum of what each event counts: octets up, or octets down.
abbrev pub total : {S E : Type 0} → (E → ℕ) → History S E → ℕ
total counts (start t s) = 0
total counts (h ▸ t ∶ e) = total counts h + counts e

-- The number of events that are changes, each by what was in force.
abbrev pub tally : {S E : Type 0} → (S → E → S) → (S → E → Option ℕ) → History S E → ℕ
tally after change (start t s) = 0
tally after change (h ▸ t ∶ e) = count (change (standing after h) e) (tally after change h)

-- Time does not go back.
abbrev pub InOrder : {S E : Type 0} → History S E → Type 0
InOrder (start t s) = Unit {0}
InOrder (h ▸ t ∶ e) = (latest h ≤ t) × InOrder h
