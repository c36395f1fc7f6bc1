-- `tally::look::of_record` meets its contract.
use Rattle.std.proofs.Common.{◌∙◌, arith}
use Rattle.tally.proofs.Looks.{landed, unfit_within}
use Rattle.tally.proofs.look.of_record.Goals as goal

pub returns-in-Err : goal.returns-in-Err
returns-in-Err c =
    let a = c.args in
    c.stops.ensures ∙ landed a.end a.id a.ggsn a.x.now c.contents_of-contents.ensures.is c.say.ensures c.in-Err.is
