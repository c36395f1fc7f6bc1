-- `calendar::month::days_of` meets its contract: a month's days end where the next one's begin.
use Rattle.calendar.proofs.Months.{ends_later, month_lasts}
use Rattle.calendar.proofs.month.days_of.Goals as goal

pub overflow_sub-result : goal.overflow_sub-result
overflow_sub-result c = ends_later c.args.month c.requires c.first_day-first.ensures.same c.first_day.ensures.same

pub returns : goal.returns
returns c = month_lasts c.args.month c.requires c.first_day-first.ensures.same c.first_day.ensures.same
