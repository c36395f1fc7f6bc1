-- `ber::length::len_at` meets its contract: a law for each answer.
use mathlib.Core.Path.{ap, sym, ◌∙◌}
use Rattle.std.specs.Prelude.{Option}
use mathlib.Core.List.{List}
use Prim.Native.Nat.{ℕ}
use native.Mathlib.Omega.{arith}
use Rattle.ber.specs.Read.{len_at, found}
use Rattle.ber.proofs.Places.{size_is, no_size, len_end, len_short, len_one_lem, len_two_lem, len_other}
use Rattle.ber.proofs.length.len_at.Goals as goal

pub returns-in_err-l : goal.returns-in_err-l
unfolding len_at
returns-in_err-l c = let a = c.args in c.from_residual.ensures ∙ no_size a.s.now (len_end a.s.now a.at c.in_err-l.ensures.lookup.3)

pub returns-in-129 : goal.returns-in-129
unfolding len_at
returns-in-129 c =
    let a = c.args in
    c.one_at.ensures ∙ ap (λ (o : Option (ℕ × List ℕ)). found a.s.now o) (sym (len_one_lem a.s.now a.at c.in_ok-l.ensures.lookup.3.0 (omega (arith, c.in_ok-l.ensures.lookup.3.1 0))))

pub returns-in-130 : goal.returns-in-130
unfolding len_at
returns-in-130 c =
    let a = c.args in
    c.two_at.ensures ∙ ap (λ (o : Option (ℕ × List ℕ)). found a.s.now o) (sym (len_two_lem a.s.now a.at c.in_ok-l.ensures.lookup.3.0 (omega (arith, c.in_ok-l.ensures.lookup.3.1 0))))

pub returns-in_default : goal.returns-in_default
unfolding len_at
returns-in_default c =
    let a = c.args in
    let l = c.in_ok-l.ensures.lookup in
    size_is a.s.now (omega (arith, l.3.0)) (len_short a.s.now a.at l.3.0 _ (c.from.ensures ∙ l.3.1 0) (omega arith))

pub returns-in_default-2 : goal.returns-in_default-2
unfolding len_at
returns-in_default-2 c =
    let a = c.args in
    let l = c.in_ok-l.ensures.lookup in
    no_size a.s.now (len_other a.s.now a.at l.3.0 (omega (arith, l.3.1 0)) (omega (arith, l.3.1 0)) (omega (arith, l.3.1 0)))
