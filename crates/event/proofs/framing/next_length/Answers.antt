-- `event::framing::next_length` meets its contract.
use mathlib.Core.Path.{◌∙◌}
use Rattle.event.proofs.Table.{row_is, row_none}
use Rattle.event.proofs.Framed.{next_of, next_all}
use Rattle.event.proofs.framing.next_length.Goals as goal

pub returns-in-Ok : goal.returns-in-Ok
returns-in-Ok c = rw (c.min.ensures, c.whole.ensures) (next_of c.args.s.now (row_is c.args.s.now c.in-Ok.kind (c.in-Ok.ensures ∙ c.octet.ensures)))

pub returns-in-Err : goal.returns-in-Err
returns-in-Err c = next_all c.args.s.now (row_none c.args.s.now (rw c.octet.ensures at c.in-Err.ensures.1))
