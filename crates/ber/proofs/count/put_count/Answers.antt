-- `ber::count::put_count` meets its contract: the number under the tag, or nothing.
use Rattle.ber.proofs.Counts.{unless_zero}
use Rattle.ber.proofs.count.put_count.Goals as goal

pub returns-then-v-eq0 : goal.returns-then-v-eq0
returns-then-v-eq0 c = rw c.if-v-eq0.true c.put_all.ensures

pub returns : goal.returns
returns c = rw (unless_zero c.args.v c.if-v-eq0.false) c.put_int.ensures
