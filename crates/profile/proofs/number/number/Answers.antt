-- `profile::number::number` meets its contract.
use mathlib.Core.Path.{◌∙◌}
use native.Mathlib.Omega.{arith}
use borrow.Author.Tests.{tests}
use Rattle.std.proofs.Common.{rules}
use Rattle.std.proofs.lemmas.Iterator.{YieldsList-from_slice}
use Rattle.std.proofs.lemmas.Iterator.Consumers.{fold_from_yields_List}
use Rattle.profile.proofs.Numbers.{more, fold_more}
use Rattle.profile.proofs.number.number.Goals as goal

pub returns : goal.returns
returns c =
    fold_from_yields_List _ more 0 c.fold.result c.fold.ensures.ran (YieldsList-from_slice c.args.v.now cc) (λ a x b q k. search (rules, tests))
    ∙ fold_more 0 c.args.v.now (omega arith)
