-- `subscriber::tell::emit` meets its contract.
use Rattle.std.proofs.lemmas.Result.{err_from_is_err_and}
use Rattle.subscriber.proofs.Tellings.{emits_not, emits_done}
use Rattle.subscriber.proofs.tell.emit.Goals as goal

pub returns-in_err-written : goal.returns-in_err-written
returns-in_err-written c =
    let p = err_from_is_err_and c.from_residual.result c.from_residual.ensures.1 in
    rw (p.1, p.2) (emits_not c.args.s.now c.args.next c.in_err-written.ensures)

pub returns : goal.returns
returns c = emits_done c.args.s.now c.args.next c.in_ok-written.ensures
