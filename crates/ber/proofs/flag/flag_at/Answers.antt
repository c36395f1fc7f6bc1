-- `ber::flag::flag_at` meets its contract: where the tag is, FF.
use mathlib.Core.Path.{◌∙◌, refl, sym}
use mathlib.Core.List.{[], ◌∷◌}
use Rattle.ber.proofs.Readers.{flag_there, flag_none, guard_is}
use Rattle.ber.proofs.flag.flag_at.Goals as goal

pub returns-then-not-tag_at : goal.returns-then-not-tag_at
returns-then-not-tag_at c =
    let a = c.args in
    rw (flag_none a.tag (255 ∷ []) a.s.now a.at (sym c.tag_at.ensures ∙ c.if-not-tag_at.true), c.then_some.ensures) (guard_is _ _)

pub returns-in_err-next : goal.returns-in_err-next
returns-in_err-next c =
    let a = c.args in
    rw (flag_there a.tag (255 ∷ []) a.s.now a.at (sym c.tag_at.ensures ∙ c.if-not-tag_at.false), ← c.const_at.ensures, c.in_err-next.was)
    c.from_residual.ensures

pub returns : goal.returns
returns c =
    let a = c.args in
    rw (flag_there a.tag (255 ∷ []) a.s.now a.at (sym c.tag_at.ensures ∙ c.if-not-tag_at.false), ← c.const_at.ensures, c.in_ok-next.was) refl
