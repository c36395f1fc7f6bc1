-- `limits::sets::replaced` meets its contract.
use mathlib.Core.Path.{◌≡◌, sym}
use native.Mathlib.Omega.{arith}
use lib.ListN.{length}
use borrow.Author.Rules.{rules}
use Rattle.format.proofs.Arrays.{length_of_map}
use Rattle.limits.specs.Sets.{replaced}
use Rattle.limits.proofs.Numbers.{in_number, past_replaced}
use Rattle.limits.proofs.sets.replaced.Goals as goal

pub returns-then-number-eq0 : goal.returns-then-number-eq0
unfolding replaced
returns-then-number-eq0 c = rw c.if-number-eq0.true

pub returns-then-number-gt8 : goal.returns-then-number-gt8
returns-then-number-gt8 c =
    let long : length c.args.sets ≡ 8 =
    search (rules, length_of_map) in
    past_replaced c.args.number _ c.args.sets (omega (arith, long, c.if-number-gt8.true))

pub returns : goal.returns
returns c = sym (in_number c.args.number _ c.args.sets (omega arith))
