-- `node::step::perform` meets its contract: a law for each task.
use mathlib.Core.Path.{refl}
use native.Mathlib.Omega.{arith}
use borrow.Author.Tests.{ne_eqb}
use Rattle.std.proofs.lemmas.Result.{err_from_is_err_and}
use Rattle.node.specs.Step.{settled_by}
use Rattle.node.proofs.Numbered.{numbered}
use Rattle.node.proofs.Ranges.{slotted}
use Rattle.node.proofs.Served.{ready}
use Rattle.node.proofs.Tasks.{does_one, does_one_not, does_all, does_all_not, does_notify, does_open, does_attach, does_replace}
use Rattle.node.proofs.step.perform.Goals as goal

-- a context hears something alone
pub try_slot-requires-clause-sound_slot : goal.try_slot-requires-clause-sound_slot
try_slot-requires-clause-sound_slot c =
    let n = c.args.node.now in
    let f = rw c.in-One.is at c.requires.fit in
    slotted n.profile n.settings _ n.contexts _ (omega (arith, f.0, c.requires.held.size)) (ready n _ f.1 c.requires.held)

pub returns-in_err-written-in-One-clause-refused : goal.returns-in_err-written-in-One-clause-refused
returns-in_err-written-in-One-clause-refused c =
    let f = rw c.in-One.is at c.requires.fit in
    let e = err_from_is_err_and c.from_residual.result c.from_residual.ensures.1 in
    rw (e.1, e.2, c.in-One.is)
    (does_one_not c.args.node.now c.args.event.now _ (omega (arith, f.0, c.requires.held.size)) (numbered _) c.in_err-written-in-One.ensures)

pub returns-in_ok-written-in-One-clause-done : goal.returns-in_ok-written-in-One-clause-done
returns-in_ok-written-in-One-clause-done c =
    let f = rw c.in-One.is at c.requires.fit in
    rw (c.in-One.is, c.accept.ensures)
    (does_one c.args.node.now c.args.event.now _ (omega (arith, f.0, c.requires.held.size)) c.in_ok-written-in-One.ensures)

-- all contexts do
pub try_all-requires-clause-sound_table : goal.try_all-requires-clause-sound_table
try_all-requires-clause-sound_table c = ready c.args.node.now _ (rw c.in-All.is at c.requires.fit) c.requires.held

pub returns-in_err-written-in-All-clause-refused : goal.returns-in_err-written-in-All-clause-refused
returns-in_err-written-in-All-clause-refused c =
    let r = c.from_residual-in_err-written-in-All in
    let e = err_from_is_err_and r.result r.ensures.1 in
    rw (e.1, e.2, c.in-All.is)
    (does_all_not c.args.node.now c.args.event.now (numbered _) c.in_err-written-in-All.ensures)

pub returns-in_ok-written-in-All-clause-done : goal.returns-in_ok-written-in-All-clause-done
returns-in_ok-written-in-All-clause-done c =
    rw (c.in-All.is, c.accept-in-All.ensures) (does_all c.args.node.now c.args.event.now c.in_ok-written-in-All.ensures)

-- a context is opened
pub returns-in-Open-clause-done : goal.returns-in-Open-clause-done
returns-in-Open-clause-done c =
    rw (c.in-Open.is, c.accept-in-Open.ensures) (does_open c.args.node.now c.args.event.now c.args.out.now c.opening.ensures)

-- a subscriber hears something
pub returns-in_err-written-in-Notify-clause-refused : goal.returns-in_err-written-in-Notify-clause-refused
returns-in_err-written-in-Notify-clause-refused c =
    let f = rw c.in-Notify.is at c.requires.fit in
    let r = c.from_residual-in_err-written-in-Notify in
    let e = err_from_is_err_and r.result r.ensures.1 in
    let z = ne_eqb _ 0 (numbered c.in_err-written-in-Notify.field-0.0) in
    rw (e.1, e.2, c.in-Notify.is)
    (does_notify c.args.node.now c.args.event.now _ (omega (arith, f.0, c.requires.held.places)) c.in_err-written-in-Notify.ensures (rw z) (rw z))

pub returns-in_ok-written-in-Notify-clause-done : goal.returns-in_ok-written-in-Notify-clause-done
returns-in_ok-written-in-Notify-clause-done c =
    let f = rw c.in-Notify.is at c.requires.fit in
    rw (c.in-Notify.is, c.accept-in-Notify.ensures)
    (does_notify c.args.node.now c.args.event.now _ (omega (arith, f.0, c.requires.held.places)) c.in_ok-written-in-Notify.ensures refl refl)

-- a subscriber attaches
pub returns-in-Attach-clause-done : goal.returns-in-Attach-clause-done
returns-in-Attach-clause-done c =
    rw (c.in-Attach.is, c.accept-in-Attach.ensures) (does_attach c.args.node.now c.args.event.now c.args.out.now c.attached.ensures)

-- a set of limits is replaced
pub returns-in-Replace-clause-done : goal.returns-in-Replace-clause-done
unfolding settled_by
returns-in-Replace-clause-done c =
    rw (c.in-Replace.is, c.accept-in-Replace.ensures, c.replaced-sets.ensures)
    (does_replace c.args.node.now c.args.event.now c.args.out.now refl)
