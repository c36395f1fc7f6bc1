-- `profile::text::row_fault` meets its contract.
use Rattle.profile.proofs.Readings.{row_first, row_set, row_offset, row_last}
use Rattle.profile.proofs.text.row_fault.Goals as goal

pub returns-then-i-eq0 : goal.returns-then-i-eq0
returns-then-i-eq0 c = row_first _ _ _ c.if-i-eq0.true c.line_fault.ensures

pub returns-then-i-sets : goal.returns-then-i-sets
returns-then-i-sets c = row_set _ _ _ c.if-i-eq0.false c.if-i-sets.true c.line_fault-then-i-sets.ensures

pub returns-then-i-sets-eq1 : goal.returns-then-i-sets-eq1
returns-then-i-sets-eq1 c = row_offset _ _ _ c.if-i-sets-eq1.true c.line_fault-then-i-sets-eq1.ensures

pub returns-else-i-sets-eq1 : goal.returns-else-i-sets-eq1
returns-else-i-sets-eq1 c = row_last _ _ _ c.if-i-sets.false c.if-i-sets-eq1.false c.line_fault-else-i-sets-eq1.ensures
