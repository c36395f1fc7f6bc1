-- `ber::field::const_at` meets its contract: the octet that is there is v, or not.
use mathlib.Core.Bool.{true}
use mathlib.Core.List.{[], ◌∷◌}
use lib.Dec.{eqb}
use Rattle.format.specs.Maybe.{guard}
use Rattle.format.specs.Format.{octet, exactly}
use Rattle.ber.proofs.Readers.{first_as, exactly_dec, guard_place}
use Rattle.ber.proofs.field.const_at.Goals as goal

pub returns-in_err-x : goal.returns-in_err-x
returns-in_err-x c =
    let a = c.args in
    rw (first_as a.tag (octet (λ x. true)) (exactly (a.v ∷ [])) (λ x. guard (eqb x a.v) tt) (exactly_dec a.v) a.s.now a.at, ← c.octet_at.ensures, c.in_err-x.was)
    c.from_residual.ensures

pub returns : goal.returns
returns c =
    let a = c.args in
    rw (
      first_as a.tag (octet (λ x. true)) (exactly (a.v ∷ [])) (λ x. guard (eqb x a.v) tt) (exactly_dec a.v) a.s.now a.at,
      ← c.octet_at.ensures,
      c.in_ok-x.was,
      c.then_some.ensures,
    ) (guard_place _ tt c.in_ok-x.next)
