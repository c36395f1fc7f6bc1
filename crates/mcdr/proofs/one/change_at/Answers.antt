-- `mcdr::one::change_at` meets its contract: the contents are a change's, or not.
use mathlib.Core.Path.{refl}
use Rattle.ber.proofs.Readers.{first_at}
use Rattle.mcdr.specs.Change.{change_tag, change}
use Rattle.mcdr.proofs.one.change_at.Goals as goal

pub returns-in_err-contents : goal.returns-in_err-contents
returns-in_err-contents c =
    let a = c.args in
    rw (first_at change_tag change a.s.now a.at, ← c.part_at.ensures.reads, c.in_err-contents.was) c.from_residual.ensures

pub returns-in_err-change_of : goal.returns-in_err-change_of
returns-in_err-change_of c =
    let a = c.args in
    rw (first_at change_tag change a.s.now a.at, ← c.part_at.ensures.reads, c.in_ok-contents.was, ← c.change_of.ensures, c.in_err-change_of.was)
    c.from_residual-in_err-change_of.ensures

pub returns : goal.returns
returns c =
    let a = c.args in
    rw (first_at change_tag change a.s.now a.at, ← c.part_at.ensures.reads, c.in_ok-contents.was, ← c.change_of.ensures, c.in_ok-change_of.was) refl
