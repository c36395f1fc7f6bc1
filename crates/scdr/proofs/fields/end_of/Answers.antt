-- `scdr::fields::end_of` meets its contract: five fields one after another.
use mathlib.Core.Path.{refl}
use Rattle.ber.specs.Table.{tag}
use Rattle.ber.proofs.Counts.{counts_back, number_kept}
use Rattle.scdr.specs.Table.{Number}
use Rattle.scdr.specs.Private.Pieces.{end_of}
use Rattle.scdr.proofs.fields.end_of.Goals as goal

pub returns-in_err-opening : goal.returns-in_err-opening
unfolding end_of
returns-in_err-opening c =
    let a = c.args in
    rw (← c.stamp_at.ensures, c.in_err-opening.was) c.from_residual.ensures

pub returns-in_err-lasts : goal.returns-in_err-lasts
unfolding end_of
returns-in_err-lasts c =
    let a = c.args in
    rw (← c.stamp_at.ensures, c.in_ok-opening.was, ← c.int_at.ensures, c.in_err-lasts.was) c.from_residual-in_err-lasts.ensures

pub returns-in_err-change : goal.returns-in_err-change
unfolding end_of
returns-in_err-change c =
    let a = c.args in
    rw (← c.stamp_at.ensures, c.in_ok-opening.was, ← c.int_at.ensures, c.in_ok-lasts.was, ← c.flag_at.ensures, c.in_err-change.was) c.from_residual-in_err-change.ensures

pub returns-in_err-cause : goal.returns-in_err-cause
unfolding end_of
returns-in_err-cause c =
    let a = c.args in
    rw (← c.stamp_at.ensures, c.in_ok-opening.was, ← c.int_at.ensures, c.in_ok-lasts.was, ← c.flag_at.ensures, c.in_ok-change.was, ← c.octet_at.ensures, c.in_err-cause.was) c.from_residual-in_err-cause.ensures

pub returns-in_err-number : goal.returns-in_err-number
unfolding end_of
returns-in_err-number c =
    let a = c.args in
    rw (← c.stamp_at.ensures, c.in_ok-opening.was, ← c.int_at.ensures, c.in_ok-lasts.was, ← c.flag_at.ensures, c.in_ok-change.was, ← c.octet_at.ensures, c.in_ok-cause.was, counts_back (tag Number) a.s.now c.in_ok-cause.at, ← c.count_at.ensures, c.in_err-number.was) c.from_residual-in_err-number.ensures

pub returns : goal.returns
unfolding end_of
returns c =
    let a = c.args in
    rw (← c.stamp_at.ensures, c.in_ok-opening.was, ← c.int_at.ensures, c.in_ok-lasts.was, ← c.flag_at.ensures, c.in_ok-change.was, ← c.octet_at.ensures, c.in_ok-cause.was, counts_back (tag Number) a.s.now c.in_ok-cause.at, ← c.count_at.ensures, c.in_ok-number.was, number_kept c.in_ok-number.number) refl
