-- `subscriber::tell::detached` meets its contract.
use Rattle.subscriber.specs.declared.Notice.TheVariants.{Detached}
use Rattle.subscriber.proofs.Tellings.{tells_closes, hears_detached}
use Rattle.subscriber.proofs.tell.detached.Goals as goal

pub returns : goal.returns
returns c =
    let a = c.args in
    tells_closes a.p a.t (Detached a.cause) a.s.now c.requires (hears_detached a.p a.s.now a.t a.cause)
    c.no_subscriber.ensures (rw c.record_of-r.ensures at c.emit.ensures)
