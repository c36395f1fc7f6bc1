-- `octets::chars::all_chars` meets its contract: one law over the class.
use mathlib.Core.Path.{◌∙◌}
use borrow.Author.Tests.{tests}
use Rattle.std.proofs.Common.{rules}
use Rattle.std.proofs.lemmas.Iterator.{YieldsList-from_slice}
use Rattle.std.proofs.lemmas.Iterator.Search.{all_from_yields_List}
use Rattle.octets.specs.Chars.{char_of}
use Rattle.octets.proofs.Passed.{all_is}
use Rattle.octets.proofs.chars.all_chars.Goals as goal

pub returns : goal.returns
returns c =
    let a = c.args in
    all_from_yields_List (char_of a.class) _ _ c.all.result c.all.ensures.ran (YieldsList-from_slice a.s.now cc) (λ x b q k. search (rules, tests))
    ∙ all_is (char_of a.class) a.s.now
