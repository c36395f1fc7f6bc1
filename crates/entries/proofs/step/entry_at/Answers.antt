-- `entries::step::entry_at` meets its contract: a law for each answer.
use mathlib.Core.Path.{◌∙◌}
use native.Mathlib.Omega.{arith}
use Rattle.entries.proofs.Exits.{at_end, other_first, half_mark, other_second, marked}
use Rattle.entries.proofs.step.entry_at.Goals as goal

pub returns-then-s-at : goal.returns-then-s-at
returns-then-s-at c = let a = c.args in at_end a.s.now a.at c.if-s-at.true

pub returns-then-s-at-2 : goal.returns-then-s-at-2
returns-then-s-at-2 c = let a = c.args in other_first a.s.now a.at (omega arith) c.if-s-at-2.true

pub returns-then-s-b : goal.returns-then-s-b
returns-then-s-b c =
    let a = c.args in
    half_mark a.s.now a.at (omega arith) c.if-s-at-2.false c.if-s-b.true

pub returns-then-s-b-ne90 : goal.returns-then-s-b-ne90
returns-then-s-b-ne90 c =
    let a = c.args in
    other_second a.s.now a.at (omega arith) c.if-s-at-2.false (omega arith) c.if-s-b-ne90.true

pub returns : goal.returns
returns c =
    let a = c.args in
    c.value_at.ensures
    ∙ marked a.s.now a.at (omega arith) c.if-s-at-2.false (omega arith) c.if-s-b-ne90.false
