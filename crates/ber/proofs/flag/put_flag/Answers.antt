-- `ber::flag::put_flag` meets its contract: FF under the tag, or nothing.
use Rattle.ber.proofs.flag.put_flag.Goals as goal

pub returns-then-on : goal.returns-then-on
returns-then-on c = rw c.if-on.true c.put_octet.ensures

pub returns : goal.returns
returns c = rw c.if-on.false c.put_all.ensures
