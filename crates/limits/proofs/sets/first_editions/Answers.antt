-- `limits::sets::first_editions` meets its contract.
use mathlib.Core.Path.{◌≡◌, ◌∙◌}
use lib.Dec.{ltb}
use lib.ListN.{length, get_or}
use native.Mathlib.Omega.{arith}
use borrow.Author.Rules.{rules}
use Rattle.format.proofs.Made.{made}
use Rattle.format.proofs.Arrays.{length_of_map}
use Rattle.limits.specs.Limits.{no_limits}
use Rattle.limits.specs.Sets.{given, first_editions}
use Rattle.limits.proofs.Numbers.{given_at, given_length}
use Rattle.limits.proofs.sets.first_editions.Goals as goal

pub returns : goal.returns
returns c =
    let n = c.args.count in
    let ls = c.args.limits in
    let long : length c.args.limits ≡ 8 = search (rules, length_of_map) in
    made _ (λ i. given (ltb i n) (get_or ls i no_limits)) _ 8 (λ i y q l f. search rules) c.from_fn.result (first_editions n ls)
    c.from_fn.ensures.items (given_length n ls ∙ long) (λ i d l. given_at n ls i d no_limits (omega (arith, long)))
