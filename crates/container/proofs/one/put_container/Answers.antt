-- `container::one::put_container` meets its contract: its fields fill the array's front, which goes under the tag.
use mathlib.Core.Path.{◌∙◌, refl, sym}
use native.Mathlib.Omega.{arith}
use Rattle.format.proofs.Tests.{true_T}
use Rattle.ber.proofs.Writers.{puts_is}
use Rattle.ber.proofs.Ready.{puts_not, ready, filled_count}
use Rattle.container.specs.Container.{container_tag, formed}
use Rattle.container.proofs.Fields.{formed_yes, formed_bad, formed_untold}
use Rattle.container.proofs.one.put_container.Goals as goal
use Rattle.container.proofs.one.put_container.Goals.{then-not-container_ok-via-then-not-container_ok, then-not-container_ok-via-else-not-container_ok+then-not-is_told}

pub returns-then-not-container_ok : goal.returns-then-not-container_ok
returns-then-not-container_ok c =
    let a = c.args in
    puts_not (formed a.last a.c) _
    (elim c.then-not-container_ok.branch [
      | then-not-container_ok-via-then-not-container_ok w ↦
          formed_bad a.last a.c (sym c.container_ok.ensures ∙ w.if-not-container_ok.true)
      | then-not-container_ok-via-else-not-container_ok+then-not-is_told w ↦
          formed_untold a.last a.c (sym c.container_ok.ensures ∙ w.if-not-container_ok.false) (sym w.is_told.ensures ∙ w.if-not-is_told.true)
    ])

pub put_fields-requires : goal.put_fields-requires
put_fields-requires c =
    let a = c.args in (
      refl,
      true_T _ (formed_yes a.last a.c (sym c.container_ok.ensures ∙ c.if-not-container_ok.false)
          (sym c.is_told.ensures ∙ c.if-not-is_told.false)),
    )

pub returns-in_err-end : goal.returns-in_err-end
returns-in_err-end c = absurd c.in_err-end.ensures

pub slice_bounds-b-end : goal.slice_bounds-b-end
slice_bounds-b-end c = c.in_ok-end.ensures.inside

pub slice_bounds-put_tlv-end : goal.slice_bounds-put_tlv-end
slice_bounds-put_tlv-end c = filled_count c.in_ok-end.ensures

pub returns : goal.returns
returns c =
    let a = c.args in
    let f = c.in_ok-end.ensures in
    let is-formed =
    formed_yes a.last a.c (sym c.container_ok.ensures ∙ c.if-not-container_ok.false)
    (sym c.is_told.ensures ∙ c.if-not-is_told.false) in
    puts_is (ready (formed a.last a.c) container_tag is-formed f.front (omega (arith, f.most))) c.put_tlv.ensures
