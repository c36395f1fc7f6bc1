-- `node::emit::size_of` meets its contract.
use mathlib.Core.Path.{sym}
use Rattle.node.specs.Private.Premises.{ReportFits}
use Rattle.node.proofs.Fits.{apt_grows}
use Rattle.node.proofs.ClosedRecord.{closed_within}
use Rattle.node.proofs.Emits.{has_size, counts_closes, counts_on}
use borrow.Author.Rules.{rules}
use Rattle.node.proofs.emit.size_of.Goals as goal

pub cause_of-requires : goal.cause_of-requires
cause_of-requires c = (apt_grows c.args.p c.args.g c.args.t c.args.c.now c.requires.sound_context).counters

pub closed_by-requires : goal.closed_by-requires
closed_by-requires c = apt_grows c.args.p c.args.g c.args.t c.args.c.now c.requires.sound_context

pub unwrap-requires : goal.unwrap-requires
unwrap-requires c =
    let small : ReportFits c.args.m =
    record { up = search rules; down = search rules } in
    let a = c.args in
    let e = sym c.in-Some.ensures in
    has_size a.p a.g a.c.now a.t a.m e c.closed_by.ensures
    (closed_within a.p a.g a.t a.c.now c.requires.sound_context c.requires.shape.containers a.m c.requires.in_range small _ e) c.record_size.ensures

pub returns-in-Some : goal.returns-in-Some
returns-in-Some c =
    let small : ReportFits c.args.m =
    record { up = search rules; down = search rules } in
    let a = c.args in
    let e = sym c.in-Some.ensures in
    counts_closes a.p a.g a.c.now a.t a.m e c.closed_by.ensures
    (closed_within a.p a.g a.t a.c.now c.requires.sound_context c.requires.shape.containers a.m c.requires.in_range small _ e)
    c.record_size.ensures c.unwrap.ensures

pub returns-in-None : goal.returns-in-None
returns-in-None c = let a = c.args in counts_on a.p a.g a.c.now a.t a.m (sym c.in-None.ensures)
