-- Any two results that meet a promise are equal. (`Fills` leaves open what was read.)
use Rattle.std.proofs.Common.{◌≡◌, ℕ, List, sym, ◌∙◌}
use Rattle.window.specs.declared.Place.{Place}
use Rattle.window.specs.Moved.{Moves}

pub moves_fixes : {w w₁ w₂ : List ℕ} {p q₁ q₂ : Place} → Moves w w₁ p q₁ → Moves w w₂ p q₂ → (w₁ ≡ w₂) × (q₁ ≡ q₂)
moves_fixes a b = (a.window ∙ sym b.window, a.place ∙ sym b.place)
