-- `profile::sets::sets_in` meets its contract. The loop's invariant: so many sets are counted.
use mathlib.Core.Path.{◌≡◌, sym, ◌∙◌}
use native.Mathlib.Omega.{arith}
use Rattle.profile.proofs.Places.{counted_one, counted_stop, counted_more, counted_end}
use Rattle.profile.proofs.sets.sets_in.Goals as goal

pub loop-n-init : goal.loop-n-init
loop-n-init c = counted_one c.lines_past-t.ensures

pub returns-then-not-begins : goal.returns-then-not-begins
returns-then-not-begins c =
    counted_stop c.loop-n.invariant c.loop-n-test.true
    (sym c.begins.ensures ∙ c.if-not-begins.true)

pub loop-n-preserved : goal.loop-n-preserved
loop-n-preserved c =
    counted_more c.loop-n.invariant c.loop-n-test.true
    (sym c.begins.ensures ∙ c.if-not-begins.false) c.past-t.ensures

pub returns : goal.returns
returns c = let e : 8 ≡ c.loop-n.n = omega arith in e ∙ counted_end c.loop-n.invariant c.loop-n-test.false
