-- `profile::text::first_bad` meets its contract. The loop's invariant: nothing is wrong with the lines passed.
use mathlib.Core.Path.{sym, ◌∙◌}
use native.Mathlib.Omega.{arith}
use Rattle.profile.proofs.Places.{sets_few}
use Rattle.profile.proofs.Readings.{clean_none, clean_stop, clean_more, clean_end, clean_over}
use Rattle.profile.proofs.text.first_bad.Goals as goal

pub overflow_add-i-end : goal.overflow_add-i-end
overflow_add-i-end c = omega (arith, c.sets_in-sets.ensures, sets_few c.args.s.now)

pub loop-i-init : goal.loop-i-init
loop-i-init c = clean_none _ c.sets_in-sets.ensures

pub returns-in-Some : goal.returns-in-Some
returns-in-Some c = clean_stop c.loop-i.invariant c.loop-i-test.true c.row_fault.ensures c.in-Some.is

pub loop-i-preserved : goal.loop-i-preserved
loop-i-preserved c =
    clean_more c.loop-i.invariant c.loop-i-test.true c.row_fault.ensures c.in_default.is c.past-t.ensures

pub returns-then-is_empty : goal.returns-then-is_empty
returns-then-is_empty c = clean_end c.loop-i.invariant c.loop-i-test.false (sym c.is_empty.ensures ∙ c.if-is_empty.true)

pub returns-else-is_empty : goal.returns-else-is_empty
returns-else-is_empty c = clean_over c.loop-i.invariant c.loop-i-test.false (sym c.is_empty.ensures ∙ c.if-is_empty.false)
