-- `ber::length::two_at` meets its contract: a law for each answer.
use mathlib.Core.Path.{◌∙◌, sym}
use native.Mathlib.Omega.{arith}
use Rattle.ber.proofs.Places.{no_size, two_end, two_cut, two_there}
use Rattle.ber.proofs.length.two_at.Goals as goal

pub returns-in_err-h : goal.returns-in_err-h
returns-in_err-h c = let a = c.args in c.from_residual.ensures ∙ no_size a.s.now (two_end a.s.now a.at c.in_err-h.ensures.lookup.3)

pub returns-in_err-l : goal.returns-in_err-l
returns-in_err-l c = let a = c.args in c.from_residual-in_err-l.ensures ∙ no_size a.s.now (two_cut a.s.now a.at c.in_ok-h.ensures.lookup.3.0 c.in_err-l.ensures.lookup.3)

pub returns : goal.returns
returns c =
    let a = c.args in
    let h = c.in_ok-h.ensures.lookup in
    let l = c.in_ok-l.ensures.lookup in
    rw (c.then_some.ensures, c.from.ensures, c.from-2.ensures)
    (sym (two_there a.s.now a.at h.3.0 l.3.0 _ _ (h.3.1 0) (l.3.1 0) (omega (arith, c.from.ensures)) (omega (arith, c.from-2.ensures))))
