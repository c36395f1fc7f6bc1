-- `subscriber::marked::mark` meets its contract.
use mathlib.Core.Path.{sym, ◌∙◌}
use native.Mathlib.Omega.{arith}
use Rattle.std.proofs.lemmas.Result.{err_from_is_err_and}
use Rattle.subscriber.proofs.Marks.{marks_short, marks_none, marks_not, marks_done, marks_second, marks_within}
use Rattle.subscriber.proofs.marked.mark.Goals as goal

pub returns-then-within : goal.returns-then-within
returns-then-within c = marks_short c.args.r.now c.if-out-lt2.true (sym c.within.ensures ∙ c.if-within.true)

pub returns-then-out-lt2 : goal.returns-then-out-lt2
returns-then-out-lt2 c = marks_none c.args.r.now (sym c.within.ensures ∙ c.if-within.false)

pub returns-in_err-n : goal.returns-in_err-n
returns-in_err-n c =
    let a = c.args in
    let p = err_from_is_err_and c.from_residual.result c.from_residual.ensures.1 in
    rw (p.1, p.2) (marks_not a.r.now a.out.now c.if-out-lt2.false c.write_record.ensures c.in_err-n.was)

pub bounds-out-1 : goal.bounds-out-1
bounds-out-1 c =
    let a = c.args in
    marks_second a.r.now a.out.now c.if-out-lt2.false c.write_record.ensures c.in_ok-n.was

pub overflow_add-result : goal.overflow_add-result
overflow_add-result c =
    let a = c.args in
    omega (arith, marks_within a.r.now a.out.now c.if-out-lt2.false c.write_record.ensures c.in_ok-n.was)

pub returns : goal.returns
returns c =
    let a = c.args in
    marks_done a.r.now a.out.now c.if-out-lt2.false c.write_record.ensures c.in_ok-n.was
