-- `scdr::fields::read_fields` meets its contract: its fields one after another, to the end.
use mathlib.Core.Path.{refl}
use borrow.Author.Tests.{eq-eqb, ne_eqb}
use Rattle.octets.proofs.Filled.{fill_over}
use Rattle.scdr.proofs.Reading.{wire_is}
use Rattle.scdr.proofs.fields.read_fields.Goals as goal

pub returns-in_err-network : goal.returns-in_err-network
returns-in_err-network c =
    let a = c.args in
    rw (wire_is a.s.now, ← c.front_of.ensures, c.in_err-network.was) c.from_residual.ensures

pub returns-in_err-ggsn : goal.returns-in_err-ggsn
returns-in_err-ggsn c =
    let a = c.args in
    rw (wire_is a.s.now, ← c.front_of.ensures, c.in_ok-network.was, ← c.address_at.ensures, c.in_err-ggsn.was) c.from_residual-in_err-ggsn.ensures

pub returns-in_err-name : goal.returns-in_err-name
returns-in_err-name c =
    let a = c.args in
    rw (wire_is a.s.now, ← c.front_of.ensures, c.in_ok-network.was, ← c.address_at.ensures, c.in_ok-ggsn.was, ← c.octets_at.ensures.reads, c.in_err-name.was) c.from_residual-in_err-name.ensures

pub returns-in_err-pdptype : goal.returns-in_err-pdptype
returns-in_err-pdptype c =
    let a = c.args in
    rw (wire_is a.s.now, ← c.front_of.ensures, c.in_ok-network.was, ← c.address_at.ensures, c.in_ok-ggsn.was, ← c.octets_at.ensures.reads, c.in_ok-name.was, ← c.two_octets_at.ensures, c.in_err-pdptype.was) c.from_residual-in_err-pdptype.ensures

pub returns-in_err-address : goal.returns-in_err-address
returns-in_err-address c =
    let a = c.args in
    rw (wire_is a.s.now, ← c.front_of.ensures, c.in_ok-network.was, ← c.address_at.ensures, c.in_ok-ggsn.was, ← c.octets_at.ensures.reads, c.in_ok-name.was, ← c.two_octets_at.ensures, c.in_ok-pdptype.was, ← c.address_in_at.ensures, c.in_err-address.was) c.from_residual-in_err-address.ensures

pub returns-in_err-count : goal.returns-in_err-count
returns-in_err-count c =
    let a = c.args in
    rw (wire_is a.s.now, ← c.front_of.ensures, c.in_ok-network.was, ← c.address_at.ensures, c.in_ok-ggsn.was, ← c.octets_at.ensures.reads, c.in_ok-name.was, ← c.two_octets_at.ensures, c.in_ok-pdptype.was, ← c.address_in_at.ensures, c.in_ok-address.was, ← c.list_at.ensures, c.in_err-count.was) c.from_residual-in_err-count.ensures

pub returns-in_err-opening : goal.returns-in_err-opening
returns-in_err-opening c =
    let a = c.args in
    rw (wire_is a.s.now, ← c.front_of.ensures, c.in_ok-network.was, ← c.address_at.ensures, c.in_ok-ggsn.was, ← c.octets_at.ensures.reads, c.in_ok-name.was, ← c.two_octets_at.ensures, c.in_ok-pdptype.was, ← c.address_in_at.ensures, c.in_ok-address.was, ← c.list_at.ensures, c.in_ok-count.was, ← c.end_of.ensures, c.in_err-opening.was) c.from_residual-in_err-opening.ensures

pub returns-in_err-node : goal.returns-in_err-node
returns-in_err-node c =
    let a = c.args in
    rw (wire_is a.s.now, ← c.front_of.ensures, c.in_ok-network.was, ← c.address_at.ensures, c.in_ok-ggsn.was, ← c.octets_at.ensures.reads, c.in_ok-name.was, ← c.two_octets_at.ensures, c.in_ok-pdptype.was, ← c.address_in_at.ensures, c.in_ok-address.was, ← c.list_at.ensures, c.in_ok-count.was, ← c.end_of.ensures, c.in_ok-opening.was, ← c.text_at.ensures.reads, c.in_err-node.was) c.from_residual-in_err-node.ensures

pub returns-then-at-s : goal.returns-then-at-s
returns-then-at-s c =
    let a = c.args in
    rw (wire_is a.s.now, ← c.front_of.ensures, c.in_ok-network.was, ← c.address_at.ensures, c.in_ok-ggsn.was, ← c.octets_at.ensures.reads, c.in_ok-name.was, ← c.two_octets_at.ensures, c.in_ok-pdptype.was, ← c.address_in_at.ensures, c.in_ok-address.was, ← c.list_at.ensures, c.in_ok-count.was, ← c.end_of.ensures, c.in_ok-opening.was, ← c.text_at.ensures.reads, c.in_ok-node.was, ne_eqb _ _ c.if-at-s.true) refl

pub returns : goal.returns
returns c =
    let a = c.args in
    rw (
      wire_is a.s.now,
      ← c.front_of.ensures,
      c.in_ok-network.was,
      ← c.address_at.ensures,
      c.in_ok-ggsn.was,
      ← c.octets_at.ensures.reads,
      c.in_ok-name.was,
      ← c.two_octets_at.ensures,
      c.in_ok-pdptype.was,
      ← c.address_in_at.ensures,
      c.in_ok-address.was,
      ← c.list_at.ensures,
      c.in_ok-count.was,
      ← c.end_of.ensures,
      c.in_ok-opening.was,
      ← c.text_at.ensures.reads,
      c.in_ok-node.was,
      eq-eqb _ _ c.if-at-s.false,
      c.copy_from_slice.ensures.after,
      c.copy_from_slice-2.ensures.after,
      fill_over 63 0 c.in_ok-name.name.now,
      fill_over 20 0 c.in_ok-node.node.now,
    ) refl
