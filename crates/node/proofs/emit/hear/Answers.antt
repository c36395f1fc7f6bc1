-- `node::emit::hear` meets its contract.
use mathlib.Core.Path.{sym}
use native.Mathlib.Omega.{arith}
use Rattle.node.specs.Private.Premises.{ReportFits}
use Rattle.node.proofs.Fits.{apt_grows}
use Rattle.node.proofs.ClosedRecord.{closed_within}
use Rattle.node.proofs.Emits.{room_closes, turns_closes, turns_on}
use borrow.Author.Rules.{rules}
use Rattle.node.proofs.emit.hear.Goals as goal

pub cause_of-requires : goal.cause_of-requires
cause_of-requires c = (apt_grows c.args.p c.args.g c.args.t c.args.c.now c.requires.sound_context).counters

pub closed_by-requires : goal.closed_by-requires
closed_by-requires c = apt_grows c.args.p c.args.g c.args.t c.args.c.now c.requires.sound_context

pub put_record-next-requires : goal.put_record-next-requires
put_record-next-requires c =
    let small : ReportFits c.args.m =
    record { up = search rules; down = search rules } in
    let a = c.args in
    let e = sym c.in-Some.ensures in (
      rw c.closed_by.ensures (closed_within a.p a.g a.t a.c.now c.requires.sound_context c.requires.shape.containers a.m c.requires.in_range small _ e),
      room_closes a.p a.g a.c.now a.t a.m a.at e c.closed_by.ensures c.requires.m_in_bounds,
    )

pub after_closing-requires : goal.after_closing-requires
after_closing-requires c =
    apt_grows c.args.p c.args.g c.args.t
    c.args.c.now c.requires.sound_context

pub goes_on-requires : goal.goes_on-requires
goes_on-requires c = apt_grows c.args.p c.args.g c.args.t c.args.c.now c.requires.sound_context

pub returns-in-Some : goal.returns-in-Some
returns-in-Some c =
    let a = c.args in
    let e = sym c.in-Some.ensures in
    turns_closes a.p a.g a.c.now a.t a.m e c.closed_by.ensures c.after_closing.ensures
    c.put_record-next.ensures

pub returns-in-None : goal.returns-in-None
returns-in-None c =
    let a = c.args in
    let e = sym c.in-None.ensures in
    turns_on a.p a.g a.c.now a.t a.m e c.goes_on.ensures (omega (arith, c.requires.m_in_bounds))
