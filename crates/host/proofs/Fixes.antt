-- The promise of `charging_fresh` leaves nothing open: two results that meet it, of the same text, are equal. `charging_step` promises
-- what node's `step` does, of which node's `steps_fixes` says it.
use mathlib.Core.Path.{◌≡◌, sym, ◌∙◌}
use mathlib.Core.List.{List}
use Prim.Native.Nat.{ℕ}
use Rattle.node.specs.declared.Node.{Node}
use Rattle.host.specs.Begin.{Begins}

-- the answer, the node and the line
pub begins_fixes : {s : List ℕ} {a₁ a₂ l₁ l₂ : ℕ} {n₁ n₂ : Node} → Begins s a₁ n₁ l₁ → Begins s a₂ n₂ l₂
    → ◌≡◌ {A = ℕ × (Node × ℕ)} (a₁, (n₁, l₁)) (a₂, (n₂, l₂))
begins_fixes p q = p.is ∙ sym q.is
