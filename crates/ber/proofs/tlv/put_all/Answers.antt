-- `ber::tlv::put_all` meets its contract: a copy to the front of the part from the place on.
use native.Mathlib.Omega.{arith}
use Rattle.ber.proofs.Writers.{puts, puts_full, put_over}
use Rattle.ber.proofs.tlv.put_all.Goals as goal

pub returns-then-out-at : goal.returns-then-out-at
returns-then-out-at c = puts_full (omega arith)

pub returns : goal.returns
returns c = puts (put_over c.args.out.now c.args.at _ (omega arith) (omega arith) c.copy_from_slice.ensures.after)
