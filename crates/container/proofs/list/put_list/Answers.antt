-- `container::list::put_list` meets its contract. The loop's invariant: the containers passed have their forms, which stand at the front
-- of the array; each is written into the part after them.
use mathlib.Core.Path.{◌≡◌, refl, sym, ap, ◌∙◌}
use mathlib.Core.Bool.{◌&&◌}
use native.Mathlib.Omega.{arith}
use lib.Dec.{leb}
use lib.ListN.{take}
use lib.Seq.{length-take-le, take-take}
use Rattle.ber.proofs.Writers.{puts_is}
use Rattle.ber.proofs.Runs.{filling_none, filling_room, filling_more, filling_bad, filling_ok, filling_all, filling_inside}
use Rattle.ber.proofs.Ready.{puts_not, ready, filled_count}
use Rattle.container.specs.Container.{no_container}
use Rattle.container.specs.List.{all_formed, containers}
use Rattle.container.proofs.Lists.{listing, writing, few, many, right}
use Rattle.container.proofs.list.put_list.Goals as goal
use Rattle.container.proofs.list.put_list.Goals.{then-n-lt1-via-then-n-lt1, then-n-lt1-via-else-n-lt1+then-n-gt15}

pub returns-then-n-lt1 : goal.returns-then-n-lt1
returns-then-n-lt1 c =
    let a = c.args in
    puts_not (leb 1 a.n && leb a.n 15 && all_formed no_container (take a.n a.v.now)) _
    (elim c.then-n-lt1.branch [
      | then-n-lt1-via-then-n-lt1 w ↦ few a.n _ w.if-n-lt1.true
      | then-n-lt1-via-else-n-lt1+then-n-gt15 w ↦ many a.n _ (omega arith) w.if-n-gt15.true
    ])

pub loop-c-init : goal.loop-c-init
loop-c-init c = filling_none listing writing _ _ _ refl c.no_container-last.ensures

pub returns-in_err-end : goal.returns-in_err-end
returns-in_err-end c =
    let a = c.args in
    let k = length-take-le a.n a.v.now (omega arith) in
    rw c.from_residual.ensures
    (puts_not (leb 1 a.n && leb a.n 15 && all_formed no_container (take a.n a.v.now)) _
    (right a.n _ (omega arith) (omega arith)
    ∙ ap (all_formed no_container) (sym (take-take a.n a.n a.v.now (omega arith)))
    ∙ filling_bad listing writing c.loop-c.invariant _ (omega arith) (omega arith) c.in_err-end.ensures a.n (omega arith) (omega arith)))

pub overflow_add-end : goal.overflow_add-end
overflow_add-end c =
    let k = length-take-le c.args.n c.args.v.now (omega arith) in
    omega (arith, filling_room listing writing c.loop-c.invariant _ (omega arith) (omega arith) c.in_ok-end.ensures)

pub loop-c-preserved : goal.loop-c-preserved
loop-c-preserved c =
    let k = length-take-le c.args.n c.args.v.now (omega arith) in
    filling_more listing writing c.loop-c.invariant _ (omega arith) (omega arith) c.in_ok-end.ensures

pub slice_bounds-list-end-2 : goal.slice_bounds-list-end-2
slice_bounds-list-end-2 c =
    let k = length-take-le c.args.n c.args.v.now (omega arith) in
    filling_inside listing writing c.loop-c.invariant c.args.n (omega arith) (omega arith)

pub slice_bounds-put_tlv-end : goal.slice_bounds-put_tlv-end
slice_bounds-put_tlv-end c =
    let k = length-take-le c.args.n c.args.v.now (omega arith) in
    filled_count (filling_all listing writing c.loop-c.invariant c.args.n (omega arith) (omega arith))

pub returns : goal.returns
unfolding containers
returns c =
    let a = c.args in
    let k = length-take-le a.n a.v.now (omega arith) in
    let e : c.loop-c.c-index ≡ a.n = omega arith in
    let w = take-take a.n a.n a.v.now (omega arith) in
    let f = rw w at (filling_all listing writing c.loop-c.invariant a.n e (omega arith)) in
    puts_is
    (ready (leb 1 a.n && leb a.n 15 && all_formed no_container (take a.n a.v.now)) a.tag
    (right a.n _ (omega arith) (omega arith) ∙ rw w at (filling_ok listing writing c.loop-c.invariant a.n e)) f.front (omega (arith, f.most)))
    c.put_tlv.ensures
