-- `charging::charge` meets its contract.
use mathlib.Core.Path.{refl, sym, ◌∙◌}
use Prim.Native.Nat.{◌+◌, ◌^◌, ◌<◌}
use native.Mathlib.Omega.{arith}
use lib.ListN.{length}
use Rattle.node.proofs.Numbered.{numbered}
use Rattle.charging.proofs.Goes.{going_none, going_length, going_wide, going_end, next_lies, goes_refused, goes_written, goes_more}
use borrow.Author.Rules.{rules}
use Rattle.charging.proofs.charge.Goals as goal

pub loop-n-init : goal.loop-n-init
loop-n-init c = let a = c.args in going_none a.node a.held.now a.ended a.out.now

pub overflow_sub-out : goal.overflow_sub-out
overflow_sub-out c = omega (arith, c.loop-n.invariant.room, going_length c.loop-n.invariant)

pub overflow_add-end : goal.overflow_add-end
overflow_add-end c =
    let going = sym c.is_ready.ensures ∙ c.loop-n-test.true in
    let lies = next_lies c.loop-n.invariant going c.next_length-n.ensures in
    search rules

pub overflow_add-full : goal.overflow_add-full
overflow_add-full c =
    let going = sym c.is_ready.ensures ∙ c.loop-n-test.true in
    let wide = going_wide c.loop-n.invariant going in
    search rules

pub slice_bounds-step-end : goal.slice_bounds-step-end
slice_bounds-step-end c =
    let going = sym c.is_ready.ensures ∙ c.loop-n-test.true in
    let lies = next_lies c.loop-n.invariant going c.next_length-n.ensures in
    search rules

pub slice_bounds-step-end-in-loop-n : goal.slice_bounds-step-end-in-loop-n
slice_bounds-step-end-in-loop-n c =
    let going = sym c.is_ready.ensures ∙ c.loop-n-test.true in
    let wide = going_wide c.loop-n.invariant going in
    search rules

pub overflow_add-events : goal.overflow_add-events
overflow_add-events c =
    let going = sym c.is_ready.ensures ∙ c.loop-n-test.true in
    let lies = next_lies c.loop-n.invariant going c.next_length-n.ensures in
    let small : c.loop-n.came + c.next_length-n.result < 2 ^ 64 = omega arith in
    let few = c.loop-n.invariant.few in
    record { fits = omega arith }

pub overflow_add-written : goal.overflow_add-written
overflow_add-written c =
    let going = sym c.is_ready.ensures ∙ c.loop-n-test.true in
    let same = going_length c.loop-n.invariant in
    let small : length c.loop-n.out < 2 ^ 64 = omega arith in
    let w = goes_written c.loop-n.invariant going c.next_length-n.ensures c.in-Ok.ensures.accepted refl in
    record { fits = omega arith }

pub loop-n-smaller : goal.loop-n-smaller
loop-n-smaller c =
    let going = sym c.is_ready.ensures ∙ c.loop-n-test.true in
    let lies = next_lies c.loop-n.invariant going c.next_length-n.ensures in
    omega arith

pub loop-n-preserved : goal.loop-n-preserved
loop-n-preserved c =
    let going = sym c.is_ready.ensures ∙ c.loop-n-test.true in
    goes_more c.loop-n.invariant going c.next_length-n.ensures c.in-Ok.ensures.accepted refl

pub returns-in-Err : goal.returns-in-Err
returns-in-Err c =
    let going = sym c.is_ready.ensures ∙ c.loop-n-test.true in
    rw c.into.ensures (goes_refused c.loop-n.invariant going c.next_length-n.ensures c.in-Err.ensures.refused (numbered c.in-Err.refusal))

pub returns : goal.returns
returns c = going_end c.loop-n.invariant (sym c.is_ready.ensures ∙ c.loop-n-test.false)
