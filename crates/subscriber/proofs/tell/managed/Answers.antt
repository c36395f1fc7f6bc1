-- `subscriber::tell::managed` meets its contract.
use Rattle.subscriber.specs.declared.Notice.TheVariants.{Managed}
use Rattle.subscriber.proofs.Tellings.{tells_closes, hears_managed}
use Rattle.subscriber.proofs.tell.managed.Goals as goal

pub returns : goal.returns
returns c =
    let a = c.args in
    tells_closes a.p a.t Managed a.s.now c.requires (hears_managed a.p a.s.now a.t)
    (rw c.place_of-at.ensures at c.opened-next.ensures) (rw c.record_of-r.ensures at c.emit.ensures)
