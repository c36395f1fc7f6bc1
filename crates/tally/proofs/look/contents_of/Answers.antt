-- `tally::look::contents_of` meets its contract.
use Rattle.std.proofs.Common.{sym, ap, ◌∙◌}
use Rattle.ber.specs.Read.{octets_of}
use Rattle.tally.proofs.Looks.{contents_some, contents_none}
use Rattle.tally.proofs.look.contents_of.Goals as goal

pub returns-in-Some-clause-is : goal.returns-in-Some-clause-is
returns-in-Some-clause-is c = (contents_some c.args.x.now (sym c.part_at.ensures.reads ∙ ap octets_of c.in-Some.is)).0

pub returns-in-Some-clause-fits : goal.returns-in-Some-clause-fits
returns-in-Some-clause-fits c = (contents_some c.args.x.now (sym c.part_at.ensures.reads ∙ ap octets_of c.in-Some.is)).1

pub returns-in-None-clause-is : goal.returns-in-None-clause-is
returns-in-None-clause-is c = contents_none c.args.x.now (sym c.part_at.ensures.reads ∙ ap octets_of c.in-None.is)
