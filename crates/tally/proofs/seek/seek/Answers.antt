-- `tally::seek::seek` meets its contract: what is left to look through gives the same, and each field has two octets or more.
use Rattle.std.proofs.Common.{refl, sym, ap, ◌∙◌, arith}
use Rattle.ber.specs.Read.{octets_of}
use Rattle.ber.specs.Tlv.{tlv_dec}
use Rattle.ber.proofs.Readers.{read_missing, part_here}
use Rattle.tally.proofs.Seeks.{part_long, seeking_unfit, seeking_here, seeking_next, seeking_end}
use Rattle.tally.proofs.seek.seek.Goals as goal

pub loop-at-init : goal.loop-at-init
loop-at-init c = record { is = refl }

pub returns-in_default : goal.returns-in_default
returns-in_default c =
    seeking_unfit c.loop-at.invariant c.loop-at-test.true
    (read_missing (tlv_dec _) _ _ (omega (arith, c.loop-at-test.true)) (sym c.part_at.ensures.reads ∙ ap octets_of c.in_default.is))

pub returns-then-t-tag : goal.returns-then-t-tag
returns-then-t-tag c =
    seeking_here c.loop-at.invariant c.loop-at-test.true (part_here (sym c.part_at.ensures.reads ∙ ap octets_of c.in-Some.is)).0 c.if-t-tag.true

pub loop-at-smaller : goal.loop-at-smaller
loop-at-smaller c =
    let w = (part_here (sym c.part_at.ensures.reads ∙ ap octets_of c.in-Some.is)).0 in
    omega (arith, part_long w, w.inside, c.loop-at-test.true)

pub loop-at-preserved : goal.loop-at-preserved
loop-at-preserved c =
    seeking_next c.loop-at.invariant c.loop-at-test.true (part_here (sym c.part_at.ensures.reads ∙ ap octets_of c.in-Some.is)).0 c.if-t-tag.false

pub returns : goal.returns
returns c = seeking_end c.loop-at.invariant c.loop-at-test.false
