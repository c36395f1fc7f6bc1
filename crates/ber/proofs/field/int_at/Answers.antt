-- `ber::field::int_at` meets its contract: the contents are a number's, or not.
use mathlib.Core.Path.{refl}
use Rattle.ber.specs.Int.{int}
use Rattle.ber.proofs.Readers.{first_at}
use Rattle.ber.proofs.field.int_at.Goals as goal

pub returns-in_err-contents : goal.returns-in_err-contents
returns-in_err-contents c =
    let a = c.args in
    rw (first_at a.tag int a.s.now a.at, ← c.part_at.ensures.reads, c.in_err-contents.was) c.from_residual.ensures

pub returns-in_err-int_value : goal.returns-in_err-int_value
returns-in_err-int_value c =
    let a = c.args in
    rw (first_at a.tag int a.s.now a.at, ← c.part_at.ensures.reads, c.in_ok-contents.was, ← c.int_value.ensures, c.in_err-int_value.was)
    c.from_residual-in_err-int_value.ensures

pub returns : goal.returns
returns c =
    let a = c.args in
    rw (first_at a.tag int a.s.now a.at, ← c.part_at.ensures.reads, c.in_ok-contents.was, ← c.int_value.ensures, c.in_ok-int_value.was) refl
