-- `entries::count::count` meets its contract: what was counted and what is left make the whole, and each entry has four octets or more.
use native.Mathlib.Omega.{arith}
use Rattle.entries.proofs.Stands.{found_place, found_stands, other_place}
use Rattle.entries.proofs.Counting.{counted_start, counted_more, counted_end}
use Rattle.entries.proofs.count.count.Goals as goal

pub loop-e-init : goal.loop-e-init
loop-e-init c = counted_start c.args.s.now

pub returns-in_default : goal.returns-in_default
returns-in_default c =
    let l = c.loop-e in
    let f = c.entry_at in
    counted_end l.invariant (other_place c.args.s.now l.at f.result c.in_default.not-Found f.ensures)

pub overflow_add-n : goal.overflow_add-n
overflow_add-n c =
    let l = c.loop-e in
    let s = c.args.s.now in
    let w = found_stands s l.at c.in-Found.is c.entry_at.ensures in
    omega (arith, w.long, w.inside, l.invariant.few)

pub loop-e-smaller : goal.loop-e-smaller
loop-e-smaller c =
    let l = c.loop-e in
    let s = c.args.s.now in
    let w = found_stands s l.at c.in-Found.is c.entry_at.ensures in
    omega (arith, w.long, w.inside)

pub loop-e-preserved : goal.loop-e-preserved
loop-e-preserved c =
    let l = c.loop-e in
    let s = c.args.s.now in
    counted_more l.invariant (found_place s l.at c.in-Found.is c.entry_at.ensures)
