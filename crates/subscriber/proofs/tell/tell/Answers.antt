-- `subscriber::tell::tell` meets its contract: it is what each kind of notice makes it.
use Rattle.subscriber.proofs.Tellings.{tells_full, tells_last}
use Rattle.subscriber.proofs.tell.tell.Goals as goal
use Rattle.subscriber.proofs.tell.tell.Goals.{then-s-ge15-via-then-s-ge15, then-s-ge15-via-else-s-ge15+then-s-ge1000000000000000}

pub returns-then-s-ge15 : goal.returns-then-s-ge15
returns-then-s-ge15 c =
    let a = c.args in
    elim c.then-s-ge15.branch [
      | then-s-ge15-via-then-s-ge15 w ↦ tells_full a.p a.t a.m a.s.now w.if-s-ge15.true
      | then-s-ge15-via-else-s-ge15+then-s-ge1000000000000000 w ↦ tells_last a.p a.t a.m a.s.now w.if-s-ge1000000000000000.true
    ]

pub returns-in-Moved : goal.returns-in-Moved
returns-in-Moved c = rw c.in-Moved.is c.moved.ensures

pub returns-in-Managed : goal.returns-in-Managed
returns-in-Managed c = rw c.in-Managed.is c.managed.ensures

pub returns-in-Detached : goal.returns-in-Detached
returns-in-Detached c = rw c.in-Detached.is c.detached.ensures
