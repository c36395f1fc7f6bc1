-- `node::pairs::tell` meets its contract: come to a pair, what is done of all pairs is what was done of those before it, and then what is done of
-- the others.
use mathlib.Core.Path.{◌≡◌, refl, sym, ap, ◌∙◌}
use Prim.Native.Nat.{◌/◌}
use native.Mathlib.Omega.{arith}
use lib.ListN.{length}
use Rattle.node.specs.Refusal.{answer_of}
use Rattle.node.proofs.Tellings.{due_at, telling_none, counters_fit, sums_fit, full_ready, tells_so}
use Rattle.node.proofs.Tellings.{telling_end, telling_7, telling_on, telling_11, telling_closed, telling_same}
use Rattle.node.proofs.pairs.tell.Goals as goal

pub loop-k-init : goal.loop-k-init
loop-k-init c = (refl, telling_none c.requires _ _ c.volume_left-left.ensures)

pub counted-requires : goal.counted-requires
counted-requires c = counters_fit c.requires c.loop-k.invariant.1

pub returns-then-accepted-k-ge-MOST_ACCEPTED : goal.returns-then-accepted-k-ge-MOST_ACCEPTED
returns-then-accepted-k-ge-MOST_ACCEPTED c =
    tells_so (telling_7 c.requires c.loop-k.invariant.1 c.loop-k-test.true c.if-accepted-k-ge-MOST_ACCEPTED.true)
    (ap answer_of c.stopped.ensures.0, c.stopped.ensures.1) c.counted.ensures

pub overflow_add-up : goal.overflow_add-up
overflow_add-up c =
    let due = due_at (λ i. omega (arith, c.type_inv.volumes i)) c.loop-k-test.true c.if-accepted-k-ge-MOST_ACCEPTED.false in
    omega (arith, (sums_fit c.requires c.loop-k.invariant.1 due).0)

pub overflow_add-down : goal.overflow_add-down
overflow_add-down c =
    let due = due_at (λ i. omega (arith, c.type_inv.volumes i)) c.loop-k-test.true c.if-accepted-k-ge-MOST_ACCEPTED.false in
    omega (arith, (sums_fit c.requires c.loop-k.invariant.1 due).1)

pub loop-k-preserved-then-u-d : goal.loop-k-preserved-then-u-d
loop-k-preserved-then-u-d c =
    let due = due_at (λ i. omega (arith, c.type_inv.volumes i)) c.loop-k-test.true c.if-accepted-k-ge-MOST_ACCEPTED.false in
    (c.loop-k.invariant.0, telling_on c.requires c.loop-k.invariant.1 due c.if-u-d.true)

pub overflow_add-up-in-loop-k : goal.overflow_add-up-in-loop-k
overflow_add-up-in-loop-k c =
    let due = due_at (λ i. omega (arith, c.type_inv.volumes i)) c.loop-k-test.true c.if-accepted-k-ge-MOST_ACCEPTED.false in
    omega (arith, (sums_fit c.requires c.loop-k.invariant.1 due).0)

pub overflow_add-down-in-loop-k : goal.overflow_add-down-in-loop-k
overflow_add-down-in-loop-k c =
    let due = due_at (λ i. omega (arith, c.type_inv.volumes i)) c.loop-k-test.true c.if-accepted-k-ge-MOST_ACCEPTED.false in
    omega (arith, (sums_fit c.requires c.loop-k.invariant.1 due).1)

pub slice_bounds-close-count : goal.slice_bounds-close-count
slice_bounds-close-count c = omega (arith, c.loop-k.invariant.1.within)

pub slice_bounds-close-start : goal.slice_bounds-close-start
slice_bounds-close-start c = omega (arith, c.loop-k.invariant.1.within)

pub close-n-requires : goal.close-n-requires
close-n-requires c =
    let due = due_at (λ i. omega (arith, c.type_inv.volumes i)) c.loop-k-test.true c.if-accepted-k-ge-MOST_ACCEPTED.false in
    full_ready c.requires c.loop-k.invariant.1 due c.if-u-d.false

pub counted-requires-then-n-eq0 : goal.counted-requires-then-n-eq0
counted-requires-then-n-eq0 c = counters_fit c.requires c.loop-k.invariant.1

pub returns-then-n-eq0 : goal.returns-then-n-eq0
returns-then-n-eq0 c =
    let due = due_at (λ i. omega (arith, c.type_inv.volumes i)) c.loop-k-test.true c.if-accepted-k-ge-MOST_ACCEPTED.false in
    tells_so (telling_11 c.requires c.loop-k.invariant.1 due c.if-u-d.false c.close-n.ensures c.if-n-eq0.true)
    (ap answer_of c.stopped-then-n-eq0.ensures.0, c.stopped-then-n-eq0.ensures.1) c.counted-then-n-eq0.ensures

pub reopened-last-requires : goal.reopened-last-requires
reopened-last-requires c =
    let due = due_at (λ i. omega (arith, c.type_inv.volumes i)) c.loop-k-test.true c.if-accepted-k-ge-MOST_ACCEPTED.false in
    let z = (full_ready c.requires c.loop-k.invariant.1 due c.if-u-d.false).can in (z.place, z.closed)

pub overflow_add-at : goal.overflow_add-at
overflow_add-at c =
    let due = due_at (λ i. omega (arith, c.type_inv.volumes i)) c.loop-k-test.true c.if-accepted-k-ge-MOST_ACCEPTED.false in
    let m = (telling_closed c.requires c.loop-k.invariant.1 due c.if-u-d.false c.close-n.ensures c.if-n-eq0.false c.reopened-last.ensures).within in
    let n = telling_same c.requires c.loop-k.invariant.1 due c.if-u-d.false c.close-n.ensures in
    omega (arith, m, n, c.loop-k.invariant.0, c.well_formed)

pub loop-k-preserved : goal.loop-k-preserved
loop-k-preserved c =
    let due = due_at (λ i. omega (arith, c.type_inv.volumes i)) c.loop-k-test.true c.if-accepted-k-ge-MOST_ACCEPTED.false in (
      telling_same c.requires c.loop-k.invariant.1 due c.if-u-d.false c.close-n.ensures ∙ c.loop-k.invariant.0,
      telling_closed c.requires c.loop-k.invariant.1 due c.if-u-d.false c.close-n.ensures c.if-n-eq0.false c.reopened-last.ensures,
    )

pub counted-requires-2 : goal.counted-requires-2
counted-requires-2 c = counters_fit c.requires c.loop-k.invariant.1

pub returns : goal.returns
returns c =
    let e : c.loop-k.k ≡ length c.args.volumes.now / 2 = omega arith in
    let o = c.stopped-2.ensures in
    tells_so (telling_end c.requires c.loop-k.invariant.1 (omega arith)) (ap answer_of o.0, (o.1.0 ∙ sym e, o.1.1)) c.counted-2.ensures
