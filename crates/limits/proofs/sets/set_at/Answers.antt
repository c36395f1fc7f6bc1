-- `limits::sets::set_at` meets its contract.
use mathlib.Core.Path.{◌≡◌, sym, ap, ◌∙◌}
use Prim.Native.Nat.{ℕ, ◌-◌}
use native.Mathlib.Omega.{arith}
use lib.ListN.{get_or}
use Rattle.std.proofs.lemmas.Grind.{common_steps}
use Rattle.limits.specs.Sets.{no_set}
use Rattle.limits.proofs.Numbers.{at_number, none_at}
use Rattle.limits.proofs.sets.set_at.Goals as goal

pub returns-in-Some : goal.returns-in-Some
returns-in-Some c =
    let a = c.args in
    let e : c.unwrap_or.result ≡ get_or a.sets c.from.result no_set = grind (arith, common_steps) in
    let i : c.from.result ≡ a.number - 1 = omega (arith, c.in-Some.ensures) in
    e ∙ ap (λ (j : ℕ). get_or a.sets j no_set) i ∙ sym (at_number a.number a.sets (omega (arith, c.in-Some.ensures)))

pub returns-in-None : goal.returns-in-None
returns-in-None c =
    c.no_set-in-None.ensures ∙ none_at c.args.number c.args.sets (omega (arith, c.in-None.ensures))
