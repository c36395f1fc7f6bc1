-- Any two answers that meet a promise are equal. The promises that are ber's forms have this there.
use mathlib.Core.Path.{◌≡◌, sym, ◌∙◌}
use Rattle.std.specs.Prelude.{Option}
use mathlib.Core.List.{List}
use Prim.Native.Nat.{ℕ}
use Rattle.container.specs.declared.Container.{Container}
use Rattle.container.specs.List.{in_array}

-- whether there is a list, how many it has, and they
pub listed_fixes : (o : Option (List Container)) (a b : Option (ℕ × List Container)) → a ≡ in_array o → b ≡ in_array o → a ≡ b
listed_fixes o a b e f = e ∙ sym f
