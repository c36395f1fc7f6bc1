-- `limits::sets::sets_ok` meets its contract. The loop's invariant: what is left to look at decides.
use mathlib.Core.Path.{◌≡◌, sym, ◌∙◌}
use native.Mathlib.Numerals.{unary_clauses}
use native.Mathlib.Omega.{arith}
use lib.ListN.{length}
use borrow.Author.Rules.{rules}
use borrow.Author.Tests.{le-leb, lt-leb}
use Rattle.format.proofs.Arrays.{length_of_map}
use Rattle.limits.specs.Sets.{sets_ok}
use Rattle.limits.proofs.Numbers.{looked_no, looked_more, looked_end, never_ok, as_many}
use Rattle.limits.proofs.sets.sets_ok.Goals as goal

pub loop-i-init : goal.loop-i-init
loop-i-init c = simp unary_clauses

pub returns-then-not-fits : goal.returns-then-not-fits
returns-then-not-fits c =
    let long : length c.args.sets ≡ 8 =
    search (rules, length_of_map) in
    let l = c.loop-i in
    let z = long in
    never_ok c.args.count c.args.sets
    (sym l.invariant ∙ looked_no c.args.count c.args.sets l.i _ (omega arith) (sym c.fits.ensures ∙ c.if-not-fits.true))

pub loop-i-preserved : goal.loop-i-preserved
loop-i-preserved c =
    let long : length c.args.sets ≡ 8 =
    search (rules, length_of_map) in
    let l = c.loop-i in
    let z = long in
    looked_more c.args.count c.args.sets l.i _ (omega arith) (sym c.fits.ensures ∙ c.if-not-fits.false) ∙ l.invariant

pub returns-then-count-ge1 : goal.returns-then-count-ge1
returns-then-count-ge1 c =
    let long : length c.args.sets ≡ 8 =
    search (rules, length_of_map) in
    let l = c.loop-i in
    let z = long in
    rw (le-leb 1 c.args.count c.if-count-ge1.true) at
    (as_many c.args.count c.args.sets l.i (omega arith) (sym l.invariant ∙ looked_end c.args.count c.args.sets l.i (omega arith)))

pub returns-else-count-ge1 : goal.returns-else-count-ge1
unfolding sets_ok
returns-else-count-ge1 c = rw (lt-leb 1 c.args.count c.if-count-ge1.false)
