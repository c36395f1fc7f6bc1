-- `node::step::step` meets its contract: the task is what the table says, and what is done is what is answered then.
use Rattle.std.proofs.lemmas.Result.{err_from_is_err_and}
use Rattle.node.proofs.Holds.{held_is}
use Rattle.node.proofs.Tasks.{tasked, steps_refused, steps_done}
use Rattle.node.proofs.step.step.Goals as goal

pub returns-in_err-task-clause-refused : goal.returns-in_err-task-clause-refused
returns-in_err-task-clause-refused c =
    let n = c.args.node in
    let e = err_from_is_err_and c.from_residual.result c.from_residual.ensures.1 in
    rw (e.1, e.2)
    (steps_refused (rw (← c.in_err-task.ensures.is) at (tasked n c.args.event.now c.args.out.now (held_is n _ c.well_formed.0))))

pub perform-requires : goal.perform-requires
perform-requires c =
    let n = c.args.node in
    let h = held_is n _ c.well_formed.0 in
    let x = rw (← c.in_ok-task.ensures.is) at (tasked n c.args.event.now c.args.out.now h) in
    record { held = h; fit = x.fit; in_range = c.in_ok-task.ensures.in_range }

pub returns-in_err-written-clause-refused : goal.returns-in_err-written-clause-refused
returns-in_err-written-clause-refused c =
    let n = c.args.node in
    let x = rw (← c.in_ok-task.ensures.is) at (tasked n c.args.event.now c.args.out.now (held_is n _ c.well_formed.0)) in
    let r = c.from_residual-in_err-written in
    let e = err_from_is_err_and r.result r.ensures.1 in
    rw (e.1, e.2) (steps_done x c.in_err-written.ensures.refused)

pub returns-clause-accepted : goal.returns-clause-accepted
returns-clause-accepted c =
    let n = c.args.node in
    let x = rw (← c.in_ok-task.ensures.is) at (tasked n c.args.event.now c.args.out.now (held_is n _ c.well_formed.0)) in
    steps_done x c.in_ok-written.ensures.done
