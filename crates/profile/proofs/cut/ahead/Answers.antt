-- `profile::cut::ahead` meets its contract.
use mathlib.Core.Path.{◌∙◌}
use borrow.Author.Tests.{tests}
use Rattle.std.proofs.Common.{rules}
use Rattle.std.proofs.lemmas.Iterator.{YieldsList-from_slice}
use Rattle.std.proofs.lemmas.Iterator.Search.{position_from_yields_List}
use Rattle.profile.proofs.Marks.{is, or_all, ahead_most}
use Rattle.profile.proofs.cut.ahead.Goals as goal

pub returns : goal.returns
returns c =
    let a = c.args in
    let p =
    position_from_yields_List (is a.x) _ _ c.position.result c.position.ensures.ran
    (YieldsList-from_slice a.s.now cc) (λ x b q k. search (rules, tests)) in
    let e = c.unwrap_or.ensures ∙ or_all a.x a.s.now p in
    (e, rw e (ahead_most a.x a.s.now))
