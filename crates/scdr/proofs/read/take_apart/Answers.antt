-- `scdr::read::take_apart` meets its contract: a law for each answer.
use mathlib.Core.Path.{sym, ap, ◌≡◌, ◌∙◌}
use Rattle.std.specs.Prelude.{Some}
use native.Mathlib.Omega.{arith}
use borrow.Author.Tests.{eq-eqb, ne_eqb}
use Rattle.ber.specs.Read.{octets_of}
use Rattle.scdr.specs.Layout.{scdr}
use Rattle.scdr.proofs.Accepting.{scdr_is, name_at, name_ends, read_part}
use Rattle.scdr.proofs.read.take_apart.Goals as goal

pub returns-in_err-contents : goal.returns-in_err-contents
returns-in_err-contents c = rw (c.from_residual.ensures, scdr_is c.args.s.now, ← c.part_at.ensures.reads, c.in_err-contents.was)

pub returns-then-end-s : goal.returns-then-end-s
returns-then-end-s c = rw (scdr_is c.args.s.now, ← c.part_at.ensures.reads, c.in_ok-contents.was, ne_eqb _ _ c.if-end-s.true)

pub returns-in_err-wire : goal.returns-in_err-wire
returns-in_err-wire c =
    rw (
      c.from_residual-in_err-wire.ensures,
      scdr_is c.args.s.now,
      ← c.part_at.ensures.reads,
      c.in_ok-contents.was,
      eq-eqb _ _ c.if-end-s.false,
      ← c.read_fields.ensures,
      c.in_err-wire.was,
    )

pub returns-then-not-passes : goal.returns-then-not-passes
returns-then-not-passes c =
    rw (
      scdr_is c.args.s.now,
      ← c.part_at.ensures.reads,
      c.in_ok-contents.was,
      eq-eqb _ _ c.if-end-s.false,
      ← c.read_fields.ensures,
      c.in_ok-wire.was,
      ← c.passes.ensures,
      c.if-not-passes.true,
    )

pub overflow_sub-result : goal.overflow_sub-result
overflow_sub-result c = (read_part c.args.s.now (sym c.part_at.ensures.reads ∙ ap octets_of c.in_ok-contents.was)).0

pub overflow_add-result : goal.overflow_add-result
overflow_add-result c =
    let (a, b) = read_part c.args.s.now (sym c.part_at.ensures.reads ∙ ap octets_of c.in_ok-contents.was) in
    let u = name_ends c.in_ok-contents.contents.now c.in_ok-wire.wire (sym c.read_fields.ensures ∙ c.in_ok-wire.was) in
    omega (arith, a, b, u.inside)

pub returns : goal.returns
returns c =
    let d : scdr.dec c.args.s.now ≡ Some c.in_ok-wire.wire.cdr =
    rw (
      scdr_is c.args.s.now,
      ← c.part_at.ensures.reads,
      c.in_ok-contents.was,
      eq-eqb _ _ c.if-end-s.false,
      ← c.read_fields.ensures,
      c.in_ok-wire.was,
      ← c.passes.ensures,
      c.if-not-passes.false,
    ) in
    (d, name_at (sym c.part_at.ensures.reads ∙ ap octets_of c.in_ok-contents.was) (sym c.read_fields.ensures ∙ c.in_ok-wire.was) d)
