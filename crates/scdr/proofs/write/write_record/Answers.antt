-- `scdr::write::write_record` meets its contract: outside the rules, without room, and written.
use mathlib.Core.Path.{sym, subst, ◌∙◌, refl}
use lib.Dec.{T}
use Rattle.format.proofs.Tests.{true_T}
use Rattle.ber.proofs.Writers.{puts_is}
use Rattle.ber.proofs.Ready.{filled_count, ready_as, made_ready}
use Rattle.scdr.specs.Rules.{within}
use Rattle.scdr.proofs.Answering.{writes_outside, octets_form, octets_short, writes_put}
use Rattle.scdr.proofs.write.write_record.Goals as goal

pub returns-then-not-within-clause-writes : goal.returns-then-not-within-clause-writes
returns-then-not-within-clause-writes c = writes_outside c.args.r.now _ (sym c.within.ensures ∙ c.if-not-within.true)

pub returns-then-not-within-clause-short : goal.returns-then-not-within-clause-short
returns-then-not-within-clause-short c = λ w. absurd (subst T (sym c.within.ensures ∙ c.if-not-within.true) w)

pub put_body-requires : goal.put_body-requires
put_body-requires c = (refl, true_T (within c.args.r.now) (sym c.within.ensures ∙ c.if-not-within.false))

pub unwrap-n-requires : goal.unwrap-n-requires
unwrap-n-requires c = made_ready _ _ _ c.put_body.result c.put_body.ensures

pub slice_bounds-b-end : goal.slice_bounds-b-end
slice_bounds-b-end c = (ready_as _ _ _ c.put_body.result c.put_body.ensures c.unwrap-n.ensures).inside

pub slice_bounds-put_tlv-end : goal.slice_bounds-put_tlv-end
slice_bounds-put_tlv-end c = filled_count (ready_as _ _ _ c.put_body.result c.put_body.ensures c.unwrap-n.ensures)

pub returns-clause-writes : goal.returns-clause-writes
returns-clause-writes c =
    let f = ready_as _ _ _ c.put_body.result c.put_body.ensures c.unwrap-n.ensures in
    rw c.ok_or.ensures.value
    (writes_put c.args.r.now c.put_tlv.result (sym c.within.ensures ∙ c.if-not-within.false) (puts_is (octets_form c.args.r.now f.most f.front) c.put_tlv.ensures))

pub returns-clause-short : goal.returns-clause-short
returns-clause-short c = λ _. octets_short c.args.r.now (ready_as _ _ _ c.put_body.result c.put_body.ensures c.unwrap-n.ensures).most
