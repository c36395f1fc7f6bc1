-- `mcdr::one::put_change` meets its contract: its fields fill the array's front, which goes under the tag.
use mathlib.Core.Path.{◌∙◌, refl, sym}
use native.Mathlib.Omega.{arith}
use Rattle.format.proofs.Tests.{true_T}
use Rattle.ber.proofs.Writers.{puts_is}
use Rattle.ber.proofs.Ready.{puts_not, ready, filled_count}
use Rattle.calendar.specs.Stamp.{stamp_ok}
use Rattle.mcdr.specs.Change.{change_tag}
use Rattle.mcdr.proofs.one.put_change.Goals as goal

pub returns-then-not-stamp_within : goal.returns-then-not-stamp_within
returns-then-not-stamp_within c = puts_not (stamp_ok c.args.c.time) _ (sym c.stamp_within.ensures ∙ c.if-not-stamp_within.true)

pub put_fields-requires : goal.put_fields-requires
put_fields-requires c = (refl, true_T _ (sym c.stamp_within.ensures ∙ c.if-not-stamp_within.false))

pub returns-in_err-end : goal.returns-in_err-end
returns-in_err-end c = absurd c.in_err-end.ensures

pub slice_bounds-b-end : goal.slice_bounds-b-end
slice_bounds-b-end c = c.in_ok-end.ensures.inside

pub slice_bounds-put_tlv-end : goal.slice_bounds-put_tlv-end
slice_bounds-put_tlv-end c = filled_count c.in_ok-end.ensures

pub returns : goal.returns
returns c =
    let f = c.in_ok-end.ensures in
    puts_is (ready (stamp_ok c.args.c.time) change_tag
    (sym c.stamp_within.ensures ∙ c.if-not-stamp_within.false) f.front (omega (arith, f.most))) c.put_tlv.ensures
