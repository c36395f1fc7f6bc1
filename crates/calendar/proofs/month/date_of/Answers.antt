-- `calendar::month::date_of` meets its contract: the quotient is the day's month or the one before, and what is left of the day in its
-- month is its place there.
use Rattle.calendar.proofs.Months.{near_begins, date_near, date_next}
use Rattle.calendar.proofs.month.date_of.Goals as goal

pub overflow_sub-result-else-next-day : goal.overflow_sub-result-else-next-day
overflow_sub-result-else-next-day c = near_begins c.args.day _ c.requires c.saturating_sub.ensures c.first_day.ensures.same

pub returns-then-next-day : goal.returns-then-next-day
returns-then-next-day c = date_next c.args.day _ c.requires c.saturating_sub.ensures c.first_day-next.ensures.same c.if-next-day.true

pub returns-else-next-day : goal.returns-else-next-day
returns-else-next-day c =
    date_near c.args.day _ c.requires c.saturating_sub.ensures c.first_day-next.ensures.same c.if-next-day.false c.first_day.ensures.same
