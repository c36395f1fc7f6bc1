-- `ber::length::one_at` meets its contract: a law for each answer.
use mathlib.Core.Path.{◌∙◌, sym}
use native.Mathlib.Omega.{arith}
use Rattle.ber.proofs.Places.{no_size, one_end, one_there}
use Rattle.ber.proofs.length.one_at.Goals as goal

pub returns-in_err-n : goal.returns-in_err-n
returns-in_err-n c = let a = c.args in c.from_residual.ensures ∙ no_size a.s.now (one_end a.s.now a.at c.in_err-n.ensures.lookup.3)

pub returns : goal.returns
returns c =
    let a = c.args in
    let l = c.in_ok-n.ensures.lookup in
    rw (c.then_some.ensures, c.from.ensures) (sym (one_there a.s.now a.at l.3.0 _ (l.3.1 0) (omega (arith, c.from.ensures))))
