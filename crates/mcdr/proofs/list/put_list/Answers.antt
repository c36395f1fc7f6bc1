-- `mcdr::list::put_list` meets its contract. The loop's invariant: the changes passed stand at the front of the array; each is written into
-- the part after them.
use mathlib.Core.Path.{◌≡◌, refl, sym, ap, ◌∙◌}
use native.Mathlib.Omega.{arith}
use lib.Seq.{length-take-le, take-take}
use Rattle.ber.specs.Tlv.{tlv_form}
use Rattle.ber.proofs.Tlvs.{tlv_yes}
use Rattle.ber.proofs.Writers.{puts_is, puts_none}
use Rattle.ber.proofs.Ready.{filled_count}
use Rattle.ber.proofs.Runs.{filling_none, filling_room, filling_more, filling_bad, filling_ok, filling_all, filling_inside}
use Rattle.mcdr.specs.Change.{no_change}
use Rattle.mcdr.specs.Changes.{changes}
use Rattle.mcdr.proofs.Lists.{listing, writing, form_none, form_many, form_bad, form_some}
use Rattle.mcdr.proofs.list.put_list.Goals as goal

pub returns-then-n-eq0 : goal.returns-then-n-eq0
returns-then-n-eq0 c = let a = c.args in puts_is (form_none a.tag a.n a.v.now c.if-n-eq0.true) c.put_all.ensures

pub returns-then-n-gt15 : goal.returns-then-n-gt15
returns-then-n-gt15 c = let a = c.args in puts_is (form_many a.tag a.n a.v.now c.if-n-eq0.false c.if-n-gt15.true) puts_none

pub loop-c-init : goal.loop-c-init
loop-c-init c = (no_change, filling_none listing writing _ _ no_change refl refl)

pub slice_bounds-put_change-count : goal.slice_bounds-put_change-count
slice_bounds-put_change-count c =
    let k = length-take-le c.args.n c.args.v.now (omega arith) in
    omega (arith, filling_inside listing writing c.loop-c.invariant.1 _ refl (omega arith), c.loop-c.invariant.1.size)

pub slice_bounds-list-start : goal.slice_bounds-list-start
slice_bounds-list-start c =
    let k = length-take-le c.args.n c.args.v.now (omega arith) in
    omega (arith, filling_inside listing writing c.loop-c.invariant.1 _ refl (omega arith), c.loop-c.invariant.1.size)

pub slice_bounds-list-end : goal.slice_bounds-list-end
slice_bounds-list-end c =
    let k = length-take-le c.args.n c.args.v.now (omega arith) in
    omega (arith, filling_inside listing writing c.loop-c.invariant.1 _ refl (omega arith), c.loop-c.invariant.1.size)

pub returns-in_err-end : goal.returns-in_err-end
returns-in_err-end c =
    let a = c.args in
    let k = length-take-le a.n a.v.now (omega arith) in
    rw c.from_residual.ensures
    (puts_is (form_bad a.tag a.n a.v.now c.if-n-eq0.false (omega arith)
    (ap (writing.all no_change) (sym (take-take a.n a.n a.v.now (omega arith)))
    ∙ filling_bad listing writing c.loop-c.invariant.1 _ (omega arith) (omega arith) c.in_err-end.ensures a.n (omega arith) (omega arith))) puts_none)

pub overflow_add-end : goal.overflow_add-end
overflow_add-end c =
    let k = length-take-le c.args.n c.args.v.now (omega arith) in
    omega (arith, filling_room listing writing c.loop-c.invariant.1 _ (omega arith) (omega arith) c.in_ok-end.ensures)

pub loop-c-preserved : goal.loop-c-preserved
loop-c-preserved c =
    let k = length-take-le c.args.n c.args.v.now (omega arith) in
    (_, filling_more listing writing c.loop-c.invariant.1 _ (omega arith) (omega arith) c.in_ok-end.ensures)

pub slice_bounds-list-end-2 : goal.slice_bounds-list-end-2
slice_bounds-list-end-2 c =
    let k = length-take-le c.args.n c.args.v.now (omega arith) in
    filling_inside listing writing c.loop-c.invariant.1 c.args.n (omega arith) (omega arith)

pub slice_bounds-put_tlv-end : goal.slice_bounds-put_tlv-end
slice_bounds-put_tlv-end c =
    let k = length-take-le c.args.n c.args.v.now (omega arith) in
    filled_count (filling_all listing writing c.loop-c.invariant.1 c.args.n (omega arith) (omega arith))

pub returns : goal.returns
unfolding changes
returns c =
    let a = c.args in
    let k = length-take-le a.n a.v.now (omega arith) in
    let e : c.loop-c.c-index ≡ a.n = omega arith in
    let w = take-take a.n a.n a.v.now (omega arith) in
    let f = rw w at (filling_all listing writing c.loop-c.invariant.1 a.n e (omega arith)) in
    puts_is
    (ap (tlv_form a.tag) f.front ∙ tlv_yes a.tag _ (omega (arith, f.most))
    ∙ form_some a.tag a.n a.v.now c.if-n-eq0.false (omega arith) (rw w at (filling_ok listing writing c.loop-c.invariant.1 a.n e)))
    c.put_tlv.ensures
