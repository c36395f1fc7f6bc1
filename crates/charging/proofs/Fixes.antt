-- Any two results that meet a promise are equal.
use mathlib.Core.Path.{◌≡◌, sym, ◌∙◌}
use mathlib.Core.Bool.{Bool}
use mathlib.Core.List.{List}
use Prim.Native.Nat.{ℕ}
use Rattle.node.specs.declared.Node.{Node}
use Rattle.charging.specs.declared.Charged.{Charged}
use Rattle.charging.specs.Window.{Charges}

pub charges_fixes : {n : Node} {s : List ℕ} {ended : Bool} {b b₁ b₂ : List ℕ} {r₁ r₂ : Charged} → Charges n s ended b b₁ r₁ → Charges n s ended b b₂ r₂
    → ◌≡◌ {A = Charged × List ℕ} (r₁, b₁) (r₂, b₂)
charges_fixes p q = p.is ∙ sym q.is
