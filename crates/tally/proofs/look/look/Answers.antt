-- `tally::look::look` meets its contract: a law for what the stepper found.
use Rattle.std.proofs.Common.{◌∙◌}
use Rattle.entries.proofs.Stands.{found_fits}
use Rattle.tally.proofs.Looks.{looks}
use Rattle.tally.proofs.look.look.Goals as goal

pub found-requires : goal.found-requires
found-requires c =
    let a = c.args in
    found_fits a.s.now 0 c.in-Found.is c.entry_at.ensures

pub returns-in-Found : goal.returns-in-Found
returns-in-Found c =
    let a = c.args in
    c.found.ensures ∙ looks a.id a.ggsn a.s.now c.entry_at.ensures c.in-Found.is

pub returns-in-End : goal.returns-in-End
returns-in-End c =
    let a = c.args in
    c.stops.ensures ∙ looks a.id a.ggsn a.s.now c.entry_at.ensures c.in-End.is

pub returns-in-NoMark : goal.returns-in-NoMark
returns-in-NoMark c =
    let a = c.args in
    c.stops-in-NoMark.ensures ∙ looks a.id a.ggsn a.s.now c.entry_at.ensures c.in-NoMark.is

pub returns-in-Cut : goal.returns-in-Cut
returns-in-Cut c =
    let a = c.args in
    c.stops-in-Cut.ensures ∙ looks a.id a.ggsn a.s.now c.entry_at.ensures c.in-Cut.is

pub returns-in-NoValue : goal.returns-in-NoValue
returns-in-NoValue c =
    let a = c.args in
    c.stops-in-NoValue.ensures ∙ looks a.id a.ggsn a.s.now c.entry_at.ensures c.in-NoValue.is
