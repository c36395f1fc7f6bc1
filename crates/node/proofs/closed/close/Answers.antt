-- `node::closed::close` meets its contract.
use native.Mathlib.Omega.{arith}
use Rattle.node.specs.Meaning.{report}
use Rattle.node.specs.Hear.{closed_by}
use Rattle.node.proofs.FullRecords.{marks_short, marks_full, marks_done, marks_second, marks_within}
use Rattle.node.proofs.closed.close.Goals as goal

pub returns-then-out-lt2 : goal.returns-then-out-lt2
returns-then-out-lt2 c = let a = c.args in marks_short (closed_by a.p a.c a.t (report a.up a.down) 16) c.if-out-lt2.true

pub full_record-r-requires : goal.full_record-r-requires
full_record-r-requires c = c.requires.can

pub returns-in_default : goal.returns-in_default
returns-in_default c =
    let a = c.args in
    let h = c.if-out-lt2.false in
    let r = c.full_record-r.ensures in
    let w = rw r at c.write_record.ensures.writes in
    marks_full (closed_by a.p a.c a.t (report a.up a.down) 16) a.out.now h c.requires.within w c.in_default.is

pub bounds-out-1 : goal.bounds-out-1
bounds-out-1 c =
    let a = c.args in
    let h = c.if-out-lt2.false in
    let r = c.full_record-r.ensures in
    let w = rw r at c.write_record.ensures.writes in
    marks_second (closed_by a.p a.c a.t (report a.up a.down) 16) a.out.now h c.requires.within w c.in-Ok.is

pub overflow_add-result : goal.overflow_add-result
overflow_add-result c =
    let a = c.args in
    let h = c.if-out-lt2.false in
    let r = c.full_record-r.ensures in
    let w = rw r at c.write_record.ensures.writes in
    omega (arith, marks_within (closed_by a.p a.c a.t (report a.up a.down) 16) a.out.now h c.requires.within w c.in-Ok.is)

pub returns : goal.returns
returns c =
    let a = c.args in
    let h = c.if-out-lt2.false in
    let r = c.full_record-r.ensures in
    let w = rw r at c.write_record.ensures.writes in
    marks_done (closed_by a.p a.c a.t (report a.up a.down) 16) a.out.now h c.requires.within w c.in-Ok.is
