-- `tally::look::found` meets its contract.
use Rattle.std.proofs.Common.{◌∙◌, eq-eqb, ne_eqb}
use Rattle.entries.proofs.Stands.{kind_at}
use Rattle.tally.proofs.Looks.{found_long, found_mm, found_pdp}
use Rattle.tally.proofs.look.found.Goals as goal

pub returns-then-end-from-gt1024 : goal.returns-then-end-from-gt1024
returns-then-end-from-gt1024 c =
    let a = c.args in
    c.stops.ensures ∙ found_long a.id a.ggsn a.s.now a.from a.end c.if-end-from-gt1024.true

pub returns-then-s-from : goal.returns-then-s-from
returns-then-s-from c =
    let a = c.args in
    let t = kind_at a.s.now a.from a.end c.requires.0 c.requires.1 ∙ eq-eqb _ 0xA2 c.if-s-from.true in
    c.past.ensures ∙ found_mm a.id a.ggsn a.s.now a.from a.end c.if-end-from-gt1024.false t

pub returns : goal.returns
returns c =
    let a = c.args in
    let t = kind_at a.s.now a.from a.end c.requires.0 c.requires.1 ∙ ne_eqb _ 0xA2 c.if-s-from.false in
    c.of_record.ensures ∙ found_pdp a.id a.ggsn a.s.now a.from a.end c.if-end-from-gt1024.false t
