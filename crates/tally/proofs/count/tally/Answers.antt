-- `tally::count::tally` meets its contract: what was counted and what is left give the whole, and a step goes over four octets or more.
use Rattle.std.proofs.Common.{sym, ◌∙◌, arith}
use Rattle.tally.proofs.Tallies.{tally_start, tally_end, tally_within, tally_refused, tally_moves, tally_one, tally_named, tally_other}
use Rattle.tally.proofs.count.tally.Goals as goal

pub loop-k-init : goal.loop-k-init
loop-k-init c = tally_start

pub overflow_sub-s : goal.overflow_sub-s
overflow_sub-s c = omega (arith, c.loop-k.invariant.within)

pub slice_bounds-look-count : goal.slice_bounds-look-count
slice_bounds-look-count c = omega (arith, c.loop-k.invariant.within)

pub slice_bounds-look-start : goal.slice_bounds-look-start
slice_bounds-look-start c = omega (arith, c.loop-k.invariant.within)

pub slice_bounds-look-end : goal.slice_bounds-look-end
slice_bounds-look-end c = omega (arith, c.loop-k.invariant.within)

pub overflow_add-at : goal.overflow_add-at
overflow_add-at c =
    let r = sym c.is_ready.ensures ∙ c.loop-k-test.true in
    omega (arith, tally_within c.loop-k.invariant r c.look-k.ensures)

pub returns-then-not-fits : goal.returns-then-not-fits
returns-then-not-fits c =
    let r = sym c.is_ready.ensures ∙ c.loop-k-test.true in
    let f = sym c.fits.ensures ∙ c.if-not-fits.true in
    c.stops.ensures ∙ tally_refused c.loop-k.invariant r c.look-k.ensures f

pub overflow_add-at-in-loop-k : goal.overflow_add-at-in-loop-k
overflow_add-at-in-loop-k c =
    let r = sym c.is_ready.ensures ∙ c.loop-k-test.true in
    omega (arith, tally_within c.loop-k.invariant r c.look-k.ensures)

pub overflow_add-count : goal.overflow_add-count
overflow_add-count c =
    let i = c.loop-k.invariant in
    let r = sym c.is_ready.ensures ∙ c.loop-k-test.true in
    let f = sym c.fits.ensures ∙ c.if-not-fits.false in
    let l = c.look-k.ensures in
    omega (arith, i.few, tally_one i r l f, tally_moves i r l f, tally_within i r l)

pub loop-k-smaller-then-k-ne0 : goal.loop-k-smaller-then-k-ne0
loop-k-smaller-then-k-ne0 c =
    let r = sym c.is_ready.ensures ∙ c.loop-k-test.true in
    let f = sym c.fits.ensures ∙ c.if-not-fits.false in
    let l = c.look-k.ensures in
    omega (arith, tally_moves c.loop-k.invariant r l f, tally_within c.loop-k.invariant r l)

pub loop-k-preserved-then-k-ne0 : goal.loop-k-preserved-then-k-ne0
loop-k-preserved-then-k-ne0 c =
    let r = sym c.is_ready.ensures ∙ c.loop-k-test.true in
    let f = sym c.fits.ensures ∙ c.if-not-fits.false in
    tally_named c.loop-k.invariant r c.look-k.ensures f c.if-k-ne0.true

pub loop-k-smaller : goal.loop-k-smaller
loop-k-smaller c =
    let r = sym c.is_ready.ensures ∙ c.loop-k-test.true in
    let f = sym c.fits.ensures ∙ c.if-not-fits.false in
    let l = c.look-k.ensures in
    omega (arith, tally_moves c.loop-k.invariant r l f, tally_within c.loop-k.invariant r l)

pub loop-k-preserved : goal.loop-k-preserved
loop-k-preserved c =
    let r = sym c.is_ready.ensures ∙ c.loop-k-test.true in
    let f = sym c.fits.ensures ∙ c.if-not-fits.false in
    tally_other c.loop-k.invariant r c.look-k.ensures f c.if-k-ne0.false

pub returns : goal.returns
returns c = tally_end c.loop-k.invariant (sym c.is_ready.ensures ∙ c.loop-k-test.false)
