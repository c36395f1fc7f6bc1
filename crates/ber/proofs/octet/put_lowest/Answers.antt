-- `ber::octet::put_lowest` meets its contract: what is still to write, and then the buffer from there on, make the whole.
use mathlib.Core.Path.{refl, ◌∙◌}
use native.Mathlib.Omega.{arith}
use lib.ListN.{length-set}
use Rattle.ber.proofs.Numbers.{lowest_turn, lowest_ends}
use Rattle.ber.proofs.octet.put_lowest.Goals as goal

pub loop-i-init : goal.loop-i-init
loop-i-init c = (omega arith, refl, refl)

pub overflow_cast-out : goal.overflow_cast-out
overflow_cast-out c = omega arith

pub bounds-out-i : goal.bounds-out-i
bounds-out-i c = omega arith

pub loop-i-preserved : goal.loop-i-preserved
loop-i-preserved c =
    let i = c.loop-i in
    (simp length-set (omega arith), simp length-set i.invariant.1, lowest_turn i.i i.w i.out (omega arith) (omega arith) ∙ i.invariant.2)

pub shape_of-out : goal.shape_of-out
shape_of-out c = c.loop-i.invariant.1

pub returns : goal.returns
returns c = let i = c.loop-i in lowest_ends i.i i.w i.out (omega arith) ∙ i.invariant.2
