-- `mcdr::fields::read_fields` meets its contract: eleven fields one after another, to the end.
use mathlib.Core.Path.{refl, sym, ◌∙◌}
use borrow.Author.Tests.{eq-eqb, ne_eqb}
use Rattle.ber.proofs.Readers.{place_none, place_some}
use Rattle.octets.proofs.Filled.{fill_over}
use Rattle.mcdr.proofs.Reading.{record_is}
use Rattle.mcdr.proofs.fields.read_fields.Goals as goal

pub returns-in_err-at-clause-reads : goal.returns-in_err-at-clause-reads
returns-in_err-at-clause-reads c =
    let a = c.args in
    rw (record_is a.s.now, place_none _ (sym c.const_at.ensures ∙ c.in_err-at.was)) c.from_residual.ensures

pub returns-in_err-imsi-clause-reads : goal.returns-in_err-imsi-clause-reads
returns-in_err-imsi-clause-reads c =
    let a = c.args in
    rw (record_is a.s.now, place_some _ _ (sym c.const_at.ensures ∙ c.in_ok-at.was), ← c.imsi_at.ensures, c.in_err-imsi.was) c.from_residual-in_err-imsi.ensures

pub returns-in_err-sgsn-clause-reads : goal.returns-in_err-sgsn-clause-reads
returns-in_err-sgsn-clause-reads c =
    let a = c.args in
    rw (record_is a.s.now, place_some _ _ (sym c.const_at.ensures ∙ c.in_ok-at.was), ← c.imsi_at.ensures, c.in_ok-imsi.was, ← c.address_at.ensures, c.in_err-sgsn.was) c.from_residual-in_err-sgsn.ensures

pub returns-in_err-rac-clause-reads : goal.returns-in_err-rac-clause-reads
returns-in_err-rac-clause-reads c =
    let a = c.args in
    rw (record_is a.s.now, place_some _ _ (sym c.const_at.ensures ∙ c.in_ok-at.was), ← c.imsi_at.ensures, c.in_ok-imsi.was, ← c.address_at.ensures, c.in_ok-sgsn.was, ← c.octet_at.ensures, c.in_err-rac.was) c.from_residual-in_err-rac.ensures

pub returns-in_err-lac-clause-reads : goal.returns-in_err-lac-clause-reads
returns-in_err-lac-clause-reads c =
    let a = c.args in
    rw (record_is a.s.now, place_some _ _ (sym c.const_at.ensures ∙ c.in_ok-at.was), ← c.imsi_at.ensures, c.in_ok-imsi.was, ← c.address_at.ensures, c.in_ok-sgsn.was, ← c.octet_at.ensures, c.in_ok-rac.was, ← c.two_octets_at.ensures, c.in_err-lac.was) c.from_residual-in_err-lac.ensures

pub returns-in_err-count-clause-reads : goal.returns-in_err-count-clause-reads
returns-in_err-count-clause-reads c =
    let a = c.args in
    rw (record_is a.s.now, place_some _ _ (sym c.const_at.ensures ∙ c.in_ok-at.was), ← c.imsi_at.ensures, c.in_ok-imsi.was, ← c.address_at.ensures, c.in_ok-sgsn.was, ← c.octet_at.ensures, c.in_ok-rac.was, ← c.two_octets_at.ensures, c.in_ok-lac.was, ← c.list_at.ensures, c.in_err-count.was) c.from_residual-in_err-count.ensures

pub returns-in_err-opening-clause-reads : goal.returns-in_err-opening-clause-reads
returns-in_err-opening-clause-reads c =
    let a = c.args in
    rw (record_is a.s.now, place_some _ _ (sym c.const_at.ensures ∙ c.in_ok-at.was), ← c.imsi_at.ensures, c.in_ok-imsi.was, ← c.address_at.ensures, c.in_ok-sgsn.was, ← c.octet_at.ensures, c.in_ok-rac.was, ← c.two_octets_at.ensures, c.in_ok-lac.was, ← c.list_at.ensures, c.in_ok-count.was, ← c.stamp_at.ensures, c.in_err-opening.was) c.from_residual-in_err-opening.ensures

pub returns-in_err-duration-clause-reads : goal.returns-in_err-duration-clause-reads
returns-in_err-duration-clause-reads c =
    let a = c.args in
    rw (record_is a.s.now, place_some _ _ (sym c.const_at.ensures ∙ c.in_ok-at.was), ← c.imsi_at.ensures, c.in_ok-imsi.was, ← c.address_at.ensures, c.in_ok-sgsn.was, ← c.octet_at.ensures, c.in_ok-rac.was, ← c.two_octets_at.ensures, c.in_ok-lac.was, ← c.list_at.ensures, c.in_ok-count.was, ← c.stamp_at.ensures, c.in_ok-opening.was, ← c.word_at.ensures, c.in_err-duration.was) c.from_residual-in_err-duration.ensures

pub returns-in_err-cause-clause-reads : goal.returns-in_err-cause-clause-reads
returns-in_err-cause-clause-reads c =
    let a = c.args in
    rw (record_is a.s.now, place_some _ _ (sym c.const_at.ensures ∙ c.in_ok-at.was), ← c.imsi_at.ensures, c.in_ok-imsi.was, ← c.address_at.ensures, c.in_ok-sgsn.was, ← c.octet_at.ensures, c.in_ok-rac.was, ← c.two_octets_at.ensures, c.in_ok-lac.was, ← c.list_at.ensures, c.in_ok-count.was, ← c.stamp_at.ensures, c.in_ok-opening.was, ← c.word_at.ensures, c.in_ok-duration.was, ← c.octet_at-2.ensures, c.in_err-cause.was) c.from_residual-in_err-cause.ensures

pub returns-in_err-number-clause-reads : goal.returns-in_err-number-clause-reads
returns-in_err-number-clause-reads c =
    let a = c.args in
    rw (record_is a.s.now, place_some _ _ (sym c.const_at.ensures ∙ c.in_ok-at.was), ← c.imsi_at.ensures, c.in_ok-imsi.was, ← c.address_at.ensures, c.in_ok-sgsn.was, ← c.octet_at.ensures, c.in_ok-rac.was, ← c.two_octets_at.ensures, c.in_ok-lac.was, ← c.list_at.ensures, c.in_ok-count.was, ← c.stamp_at.ensures, c.in_ok-opening.was, ← c.word_at.ensures, c.in_ok-duration.was, ← c.octet_at-2.ensures, c.in_ok-cause.was, ← c.count_at.ensures, c.in_err-number.was) c.from_residual-in_err-number.ensures

pub returns-in_err-node-clause-reads : goal.returns-in_err-node-clause-reads
returns-in_err-node-clause-reads c =
    let a = c.args in
    rw (record_is a.s.now, place_some _ _ (sym c.const_at.ensures ∙ c.in_ok-at.was), ← c.imsi_at.ensures, c.in_ok-imsi.was, ← c.address_at.ensures, c.in_ok-sgsn.was, ← c.octet_at.ensures, c.in_ok-rac.was, ← c.two_octets_at.ensures, c.in_ok-lac.was, ← c.list_at.ensures, c.in_ok-count.was, ← c.stamp_at.ensures, c.in_ok-opening.was, ← c.word_at.ensures, c.in_ok-duration.was, ← c.octet_at-2.ensures, c.in_ok-cause.was, ← c.count_at.ensures, c.in_ok-number.was, ← c.text_at.ensures.reads, c.in_err-node.was) c.from_residual-in_err-node.ensures

pub returns-then-at-s-clause-reads : goal.returns-then-at-s-clause-reads
returns-then-at-s-clause-reads c =
    let a = c.args in
    rw (record_is a.s.now, place_some _ _ (sym c.const_at.ensures ∙ c.in_ok-at.was), ← c.imsi_at.ensures, c.in_ok-imsi.was, ← c.address_at.ensures, c.in_ok-sgsn.was, ← c.octet_at.ensures, c.in_ok-rac.was, ← c.two_octets_at.ensures, c.in_ok-lac.was, ← c.list_at.ensures, c.in_ok-count.was, ← c.stamp_at.ensures, c.in_ok-opening.was, ← c.word_at.ensures, c.in_ok-duration.was, ← c.octet_at-2.ensures, c.in_ok-cause.was, ← c.count_at.ensures, c.in_ok-number.was, ← c.text_at.ensures.reads, c.in_ok-node.was, ne_eqb _ _ c.if-at-s.true) refl

pub returns-clause-reads : goal.returns-clause-reads
returns-clause-reads c =
    let a = c.args in
    rw (record_is a.s.now, place_some _ _ (sym c.const_at.ensures ∙ c.in_ok-at.was), ← c.imsi_at.ensures, c.in_ok-imsi.was, ← c.address_at.ensures, c.in_ok-sgsn.was, ← c.octet_at.ensures, c.in_ok-rac.was, ← c.two_octets_at.ensures, c.in_ok-lac.was, ← c.list_at.ensures, c.in_ok-count.was, ← c.stamp_at.ensures, c.in_ok-opening.was, ← c.word_at.ensures, c.in_ok-duration.was, ← c.octet_at-2.ensures, c.in_ok-cause.was, ← c.count_at.ensures, c.in_ok-number.was, ← c.text_at.ensures.reads, c.in_ok-node.was, eq-eqb _ _ c.if-at-s.false, c.copy_from_slice.ensures.after, fill_over 20 0 c.in_ok-node.node.now) refl
