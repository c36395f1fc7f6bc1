-- `calendar::table::first_days` meets its contract: the table follows the calendar, by one test over all its 1,200 entries, which antt
-- computes.
use mathlib.Core.Path.{refl}
use Rattle.calendar.specs.Month.{month_len}
use Rattle.calendar.proofs.Entries.{days, table_of}
use Rattle.calendar.proofs.table.first_days.Goals as goal

pub returns : goal.returns
unfolding days month_len
returns c = table_of _ refl
