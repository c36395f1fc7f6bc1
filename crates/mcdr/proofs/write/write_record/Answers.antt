-- `mcdr::write::write_record` meets its contract: outside the rules, without room, and written.
use mathlib.Core.Path.{sym, ◌∙◌, refl}
use Rattle.format.proofs.Tests.{true_T}
use Rattle.ber.proofs.Writers.{puts_is}
use Rattle.ber.proofs.Ready.{filled_count, ready_as, made_ready}
use Rattle.mcdr.specs.Rules.{within}
use Rattle.mcdr.proofs.Answering.{writes_outside, octets_form, writes_put}
use Rattle.mcdr.proofs.write.write_record.Goals as goal

pub returns-then-not-within : goal.returns-then-not-within
returns-then-not-within c = writes_outside c.args.r.now _ (sym c.within.ensures ∙ c.if-not-within.true)

pub put_body-requires : goal.put_body-requires
put_body-requires c = (refl, true_T (within c.args.r.now) (sym c.within.ensures ∙ c.if-not-within.false))

pub unwrap-n-requires : goal.unwrap-n-requires
unwrap-n-requires c = made_ready _ _ _ c.put_body.result c.put_body.ensures

pub slice_bounds-b-end : goal.slice_bounds-b-end
slice_bounds-b-end c = (ready_as _ _ _ c.put_body.result c.put_body.ensures c.unwrap-n.ensures).inside

pub slice_bounds-put_tlv-end : goal.slice_bounds-put_tlv-end
slice_bounds-put_tlv-end c = filled_count (ready_as _ _ _ c.put_body.result c.put_body.ensures c.unwrap-n.ensures)

pub returns : goal.returns
returns c =
    let f = ready_as _ _ _ c.put_body.result c.put_body.ensures c.unwrap-n.ensures in
    rw c.ok_or.ensures.value
    (writes_put c.args.r.now c.put_tlv.result (sym c.within.ensures ∙ c.if-not-within.false) (puts_is (octets_form c.args.r.now f.most f.front) c.put_tlv.ensures))
