-- `calendar::table::first_day` meets its contract: what the table has at a place is where that month begins.
use native.Mathlib.Omega.{arith}
use Rattle.calendar.proofs.Entries.{look, after_all}
use Rattle.calendar.proofs.table.first_day.Goals as goal

pub returns-then-month-eq1200 : goal.returns-then-month-eq1200
returns-then-month-eq1200 c = after_all c.args.month c.if-month-eq1200.true

-- that it is this month's entry which is read, however its place is spelled
pub returns : goal.returns
returns c = look _ c.first_days.ensures c.args.month (omega arith) (grind arith)
