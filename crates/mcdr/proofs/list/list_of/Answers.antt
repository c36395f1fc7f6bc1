-- `mcdr::list::list_of` meets its contract: a law for each answer. The loop's invariant: what was read so far and what is left
-- are the whole.
use mathlib.Core.Path.{refl, sym, ap, ◌∙◌}
use native.Mathlib.Omega.{arith}
use Rattle.ber.proofs.Runs.{sofar_none, sofar_more, list_lost, list_long, list_done, in_places}
use Rattle.mcdr.specs.Change.{no_change}
use Rattle.mcdr.specs.Changes.{changes, no_changes}
use Rattle.mcdr.proofs.Lists.{listing, list_is, array_is}
use Rattle.mcdr.proofs.list.list_of.Goals as goal

pub loop-at-init : goal.loop-at-init
unfolding no_changes
loop-at-init c = (no_change, sofar_none listing c.args.s.now _ no_change refl (rw c.no_change-v.ensures) refl)

pub returns-then-n-eq15 : goal.returns-then-n-eq15
returns-then-n-eq15 c =
    let s = c.args.s.now in
    rw (list_is s, list_long listing s 1 c.loop-at.invariant.1 c.loop-at-test.true (omega (arith, c.if-n-eq15.true))) refl

pub returns-in_err-c : goal.returns-in_err-c
returns-in_err-c c =
    let s = c.args.s.now in
    rw (list_is s, list_lost listing s 1 c.loop-at.invariant.1 c.loop-at-test.true (omega (arith, c.loop-at.invariant.1.most, c.if-n-eq15.false)) (sym c.change_at.ensures ∙ c.in_err-c.was)) c.from_residual.ensures

pub loop-at-preserved : goal.loop-at-preserved
loop-at-preserved c =
    let s = c.args.s.now in
    (c.in_ok-c.c, sofar_more listing s c.loop-at.invariant.1 c.loop-at-test.true (omega (arith, c.loop-at.invariant.1.most, c.if-n-eq15.false)) (sym c.change_at.ensures ∙ c.in_ok-c.was))

pub returns : goal.returns
returns c =
    let s = c.args.s.now in
    c.then_some.ensures ∙ list_done listing s 1 c.loop-at.invariant.1 (omega (arith, c.loop-at-test.false))
    ∙ ap (in_places listing) (sym (list_is s)) ∙ array_is (changes.dec s)
