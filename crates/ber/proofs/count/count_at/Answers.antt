-- `ber::count::count_at` meets its contract: where the tag is, a number that is not 0.
use mathlib.Core.Path.{◌∙◌, sym, refl}
use lib.Dec.{leb}
use Rattle.format.specs.Maybe.{guard}
use Rattle.ber.specs.Int.{int, counted}
use Rattle.ber.proofs.Readers.{first_as, guard_is}
use Rattle.ber.proofs.Counts.{counts_there, counts_none, counted_is}
use Rattle.ber.proofs.count.count_at.Goals as goal

pub returns-then-not-tag_at : goal.returns-then-not-tag_at
returns-then-not-tag_at c =
    let a = c.args in
    rw (counts_none a.tag a.s.now a.at (sym c.tag_at.ensures ∙ c.if-not-tag_at.true), c.then_some.ensures) (guard_is _ _)

pub returns-in_err-v : goal.returns-in_err-v
returns-in_err-v c =
    let a = c.args in
    rw (
      counts_there a.tag a.s.now a.at (sym c.tag_at.ensures ∙ c.if-not-tag_at.false),
      first_as a.tag int counted (λ n. guard (leb 1 n) n) (λ z. refl) a.s.now a.at,
      ← c.int_at.ensures,
      c.in_err-v.was,
    ) c.from_residual.ensures

pub returns : goal.returns
returns c =
    let a = c.args in
    rw (
      counts_there a.tag a.s.now a.at (sym c.tag_at.ensures ∙ c.if-not-tag_at.false),
      first_as a.tag int counted (λ n. guard (leb 1 n) n) (λ z. refl) a.s.now a.at,
      ← c.int_at.ensures,
      c.in_ok-v.was,
      c.then_some-2.ensures,
    ) (counted_is c.in_ok-v.v c.in_ok-v.next)
