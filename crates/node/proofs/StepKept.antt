-- A call of one event keeps a sound node sound, whatever it answers, and that is never 13.
use mathlib.Core.Path.{◌≡◌, refl, sym, ◌∙◌}
use mathlib.Core.Bool.{true}
use mathlib.Core.List.{List, ◌++◌}
use Prim.Native.Nat.{ℕ}
use lib.Dec.{eqb}
use borrow.Author.Tests.{eqb-true}
use Rattle.format.proofs.Tests.{by}
use Rattle.event.specs.Fields.{time_of}
use Rattle.event.specs.Rows.{first_fit, rows}
use Rattle.node.specs.declared.Node.{Node}
use Rattle.node.specs.Sound.{sound}
use Rattle.node.specs.Step.{said_of, refusals, outcome, step_of}
use Rattle.node.specs.Held.{Octets, Whole}
use Rattle.node.proofs.RefusalRows.{table_rows, later_rows}
use Rattle.node.proofs.Demands.{not_given, answered}
use Rattle.node.proofs.NodeKept.{sound_kept}

-- a refused call hands the node back, an accepted one the node after it
pub step_kept : (n : Node) (s b : List ℕ) → Whole n → Octets s → Whole (step_of n s b).1.0
unfolding step_of outcome
step_kept n s b w o =
    by (eqb (first_fit (refusals n s b)) 0)
    (λ e. rw e (sound_kept n s b w.held o (eqb-true (first_fit (refusals n s b)) 0 e)))
    (λ e. rw e w)

-- 13 is the answer of no sound node
pub not_13 : (n : Node) (s b : List ℕ) → sound n ≡ true → (step_of n s b).0 ≡ 13 → ⊥
unfolding refusals rows later_rows table_rows first_fit
not_13 n s b ok e = not_given 13 (rows s ++ later_rows n (time_of s) (said_of s) b) refl (rw ok at (sym (answered n s b) ∙ e))
