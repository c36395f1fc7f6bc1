-- What is found in the table by the names of its slots is found in the table itself: history's laws (proofs/Scans.antt) of contexts.
use mathlib.Core.Path.{◌≡◌, sym, ◌∙◌}
use mathlib.Core.Bool.{Bool, false, not}
use mathlib.Core.List.{List, map}
use Prim.Native.Nat.{ℕ}
use Rattle.event.specs.declared.Name.{Name}
use Rattle.context.specs.declared.Context.{Context}
use Rattle.std.specs.Prelude.{None, Some, position}
use Rattle.context.specs.Slots as slots
use Rattle.context.specs.Slots.{slot_of, same_name}
use Rattle.keys.specs.Slots.{naming, is_free}
use Rattle.history.specs.Lists.{All}
use Rattle.history.specs.Slots.{Naming, bears, distinct}
use Rattle.history.proofs.Scans.{First, first_is, none_is, position_through, distinct_through}
use Rattle.node.specs.Step.{taken}

-- how contexts are named
abbrev pub contexts : Naming Name Context
contexts = record { active = taken; name = λ c. c.name; same = same_name }

-- an active context of this name, and a free slot
abbrev pub named : Name → Context → Bool
named m c = bears contexts m c

abbrev pub idle : Context → Bool
idle c = not (taken c)

pub apart : (cs : List Context) → slots.distinct (map slot_of cs) ≡ distinct contexts cs
apart cs = distinct_through slot_of (naming same_name) cs

module _ (cs : List Context) where
  pub named_at : (m : Name) {i : ℕ} → position (slots.bears m) (map slot_of cs) ≡ Some i → First (named m) cs i
  named_at m e = first_is (named m) cs (sym (position_through slot_of (slots.bears m) cs) ∙ e)

  pub none_named : (m : Name) → position (slots.bears m) (map slot_of cs) ≡ None → All (λ c. named m c ≡ false) cs
  none_named m e = none_is (named m) cs (sym (position_through slot_of (slots.bears m) cs) ∙ e)

  pub free_at_lem : {i : ℕ} → position is_free (map slot_of cs) ≡ Some i → First idle cs i
  free_at_lem e = first_is idle cs (sym (position_through slot_of is_free cs) ∙ e)

  pub all_taken_lem : position is_free (map slot_of cs) ≡ None → All (λ c. idle c ≡ false) cs
  all_taken_lem e = none_is idle cs (sym (position_through slot_of is_free cs) ∙ e)
