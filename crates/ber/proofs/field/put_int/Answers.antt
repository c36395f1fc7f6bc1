-- `ber::field::put_int` meets its contract: with room for the whole, the two octets of tag and length, and after them as many of the
-- lowest octets as the number takes.
use mathlib.Core.Path.{sym, ap}
use native.Mathlib.Omega.{arith}
use lib.ListN.{length}
use Rattle.ber.specs.Int.{lowest}
use Rattle.ber.proofs.Numbers.{lowest_length, lowest_value}
use Rattle.ber.proofs.Writers.{puts, puts_full, puts_room, puts_lost, put_is, put_room, put_after}
use Rattle.ber.proofs.field.put_int.Goals as goal

pub returns-then-out-at : goal.returns-then-out-at
returns-then-out-at c =
    let a = c.args in
    let w = c.width-n in
    let e = lowest_value a.tag a.v w.result (omega arith) w.ensures.0 w.ensures.1 in
    puts_full (omega (arith, ap length e, lowest_length w.result a.v))

pub returns-in_err-a : goal.returns-in_err-a
returns-in_err-a c = absurd (puts_lost (omega arith) c.in_err-a.ensures)

pub slice_bounds-put_lowest-count : goal.slice_bounds-put_lowest-count
slice_bounds-put_lowest-count c = let p = puts_room (omega arith) c.in_ok-a.ensures in omega (arith, p.end, p.same)

pub slice_bounds-put_lowest-start : goal.slice_bounds-put_lowest-start
slice_bounds-put_lowest-start c = let p = puts_room (omega arith) c.in_ok-a.ensures in omega (arith, p.end, p.same)

pub put_lowest-requires : goal.put_lowest-requires
put_lowest-requires c = put_room _ (omega arith) (puts_room (omega arith) c.in_ok-a.ensures)

pub overflow_add-result : goal.overflow_add-result
overflow_add-result c = let p = puts_room (omega arith) c.in_ok-a.ensures in omega (arith, p.end, p.same)

pub returns : goal.returns
returns c =
    let a = c.args in
    let w = c.width-n in
    let e = lowest_value a.tag a.v w.result (omega arith) w.ensures.0 w.ensures.1 in
    let p = puts_room (omega arith) c.in_ok-a.ensures in
    puts (put_is e (put_after (lowest w.result a.v) (sym (lowest_length w.result a.v)) (omega arith) p c.put_lowest.ensures))
