-- `container::held::left_after` meets its contract. The loop's invariant: the volumes so far are off the limit.
use Rattle.std.proofs.Common.{◌≡◌, take, ◌-◌, length, rules, arith, ap, sym, ◌∙◌}
use Rattle.std.proofs.lemmas.List.{take_min}
use Rattle.std.proofs.Math.Seq.{take_all}
use Rattle.container.specs.Container.{no_container}
use Rattle.container.specs.Open.{volume_of}
use Rattle.container.proofs.Opens.{volume_next}
use Rattle.container.proofs.held.left_after.Goals as goal

pub loop-c-init : goal.loop-c-init
unfolding volume_of
loop-c-init c = omega arith

pub loop-c-preserved : goal.loop-c-preserved
loop-c-preserved c = omega (arith, volume_next _ c.loop-c.c-index no_container c.loop-c-test.true, c.loop-c.invariant, c.rest_of.ensures, c.rest_of-left.ensures)

pub returns : goal.returns
returns c =
    let whole : length c.args.v ≡ 15 = search rules in
    let used : take c.min.result c.args.v ≡ take c.args.n c.args.v = rw (c.min.ensures, sym whole) (take_min c.args.n c.args.v) in
    c.loop-c.invariant ∙ ap (λ v. c.args.limit - volume_of v) (take_all c.loop-c.c-index _ c.loop-c-test.false ∙ used)
