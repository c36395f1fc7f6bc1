-- `tally::say::say_number` meets its contract.
use Rattle.std.proofs.Common.{ℕ, sym, ap, ◌∙◌}
use Rattle.std.specs.Prelude.{Option, Some, Result, Ok}
use Rattle.tally.specs.Say.{say_number}
use Rattle.tally.proofs.Seeks.{stops_at}
use Rattle.tally.proofs.Says.{err_is, says_unfit, number_some, number_none}
use Rattle.tally.proofs.say.say_number.Goals as goal

pub returns-in_err-p : goal.returns-in_err-p
unfolding say_number
returns-in_err-p c =
    let a = c.args in
    err_is _ _ c.from_residual.ensures.1 ∙ says_unfit a.c.now 0x95 a.at _ c.seek.ensures c.in_err-p.was

pub returns-in-Some : goal.returns-in-Some
unfolding say_number
returns-in-Some c =
    let a = c.args in
    let k = stops_at a.c.now 0x95 a.at c.seek.ensures c.in_ok-p.was in
    rw k.is (ap {B = Result (Option ℕ) ℕ} (λ (n : ℕ). Ok (Some n)) (number_some a.c.now 0x95 _ k.inside (sym c.count_at.ensures ∙ c.in-Some.is)))

pub returns-in-None : goal.returns-in-None
unfolding say_number
returns-in-None c =
    let a = c.args in
    let k = stops_at a.c.now 0x95 a.at c.seek.ensures c.in_ok-p.was in
    rw k.is (ap {B = Result (Option ℕ) ℕ} (λ (n : ℕ). Ok (Some n)) (number_none a.c.now 0x95 _ k.inside (sym c.count_at.ensures ∙ c.in-None.is)))
