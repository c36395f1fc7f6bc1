-- `event::fields::subscriber_ok` meets its contract.
use lib.ListN.{length}
use borrow.Author.Tests.{lt-leb}
use Rattle.event.proofs.Tried.{subscriber_short, subscriber_is}
use Rattle.event.proofs.fields.subscriber_ok.Goals as goal

pub returns-then-s-ge15 : goal.returns-then-s-ge15
returns-then-s-ge15 c = rw c.is_some.ensures (subscriber_is _ c.imsi_size.ensures)

pub returns-else-s-ge15 : goal.returns-else-s-ge15
returns-else-s-ge15 c = let s = c.args.s.now in rw (lt-leb 15 (length s) c.if-s-ge15.false) (subscriber_short s c.if-s-ge15.false)
