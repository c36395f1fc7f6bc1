-- `container::qos_profile::put_qos` meets its contract: the five fields fill the array, which goes under the tag.
use mathlib.Core.Path.{◌∙◌, refl, sym}
use native.Mathlib.Omega.{arith}
use borrow.Author.Tests.{not-true, not-false}
use Rattle.format.proofs.Tests.{true_T}
use Rattle.ber.proofs.Writers.{puts_is}
use Rattle.ber.proofs.Ready.{puts_not, ready, filled_count}
use Rattle.container.specs.Qos.{qos_ok}
use Rattle.container.proofs.qos_profile.put_qos.Goals as goal

pub returns-then-not-qos_ok : goal.returns-then-not-qos_ok
returns-then-not-qos_ok c = puts_not (qos_ok c.args.q) _ (sym c.qos_ok.ensures ∙ not-true _ c.if-not-qos_ok.true-raw)

pub put_fields-requires : goal.put_fields-requires
put_fields-requires c = (refl, true_T _ (sym c.qos_ok.ensures ∙ not-false _ c.if-not-qos_ok.false-raw))

pub returns-in_err-end : goal.returns-in_err-end
returns-in_err-end c = absurd c.in_err-end.ensures

pub slice_bounds-b-end : goal.slice_bounds-b-end
slice_bounds-b-end c = c.in_ok-end.ensures.inside

pub slice_bounds-put_tlv-end : goal.slice_bounds-put_tlv-end
slice_bounds-put_tlv-end c = filled_count c.in_ok-end.ensures

pub returns : goal.returns
returns c =
    let a = c.args in
    let f = c.in_ok-end.ensures in
    puts_is (ready (qos_ok a.q) a.tag (sym c.qos_ok.ensures ∙ not-false _ c.if-not-qos_ok.false-raw) f.front (omega (arith, f.most)))
    c.put_tlv.ensures
