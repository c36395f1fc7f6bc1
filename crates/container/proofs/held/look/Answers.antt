-- `container::held::look` meets its contract: a place that is not used, and one that is.
use mathlib.Core.Path.{refl, sym, ◌∙◌}
use Rattle.format.proofs.Maybe.{then_some_guard}
use Rattle.container.specs.List.{is_blank}
use Rattle.container.specs.Private.Stepwise.{looked}
use Rattle.container.proofs.held.look.Goals as goal

pub returns-then-not-used : goal.returns-then-not-used
unfolding looked
returns-then-not-used c =
    rw (c.if-not-used.true) (c.then_some.ensures ∙ rw c.is_blank.ensures (then_some_guard (is_blank c.args.c) c.args.s))

pub returns-then-not-precedes : goal.returns-then-not-precedes
unfolding looked
returns-then-not-precedes c = rw (c.if-not-used.false, sym c.precedes.ensures, c.if-not-precedes.true) refl

pub returns : goal.returns
unfolding looked
returns c = rw (c.if-not-used.false, sym c.precedes.ensures, c.if-not-precedes.false, c.rest_of-2.ensures, c.rest_of.ensures) refl
