-- `mcdr::read::read_record` meets its contract: a law for each answer.
use mathlib.Core.Path.{refl, sym, ◌∙◌}
use borrow.Author.Tests.{eq-eqb, ne_eqb}
use Rattle.ber.proofs.Readers.{guard_is}
use Rattle.mcdr.proofs.Accepting.{mcdr_is, inside_none, inside_some}
use Rattle.mcdr.proofs.read.read_record.Goals as goal

pub returns-in_err-contents : goal.returns-in_err-contents
returns-in_err-contents c = rw (mcdr_is c.args.s.now, ← c.part_at.ensures.reads, c.in_err-contents.was) c.from_residual.ensures

pub returns-then-end-s : goal.returns-then-end-s
returns-then-end-s c = rw (mcdr_is c.args.s.now, ← c.part_at.ensures.reads, c.in_ok-contents.was, ne_eqb _ _ c.if-end-s.true) refl

pub returns-in_err-cdr : goal.returns-in_err-cdr
returns-in_err-cdr c =
    let n = inside_none c.in_ok-contents.contents.now (sym c.read_fields.ensures.reads ∙ c.in_err-cdr.was) in
    rw (mcdr_is c.args.s.now, ← c.part_at.ensures.reads, c.in_ok-contents.was, eq-eqb _ _ c.if-end-s.false, n) c.from_residual-in_err-cdr.ensures

pub returns : goal.returns
returns c =
    let y = inside_some c.in_ok-contents.contents.now c.in_ok-cdr.cdr (sym c.read_fields.ensures.reads ∙ c.in_ok-cdr.was) c.in_ok-cdr.ensures.octet in
    rw (
      mcdr_is c.args.s.now,
      ← c.part_at.ensures.reads,
      c.in_ok-contents.was,
      eq-eqb _ _ c.if-end-s.false,
      y,
      c.then_some.ensures,
      c.within.ensures,
    ) (guard_is _ _)
