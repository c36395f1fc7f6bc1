-- `tally::count::onto` meets its contract.
use Rattle.std.proofs.Common.{sym, ◌∙◌, eq-eqb, ne_eqb}
use Rattle.tally.specs.Tally.{and_then}
use Rattle.tally.specs.Turns.{onto}
use Rattle.tally.proofs.count.onto.Goals as goal

pub returns-then-not-fits : goal.returns-then-not-fits
unfolding onto
returns-then-not-fits c = rw (sym c.fits.ensures ∙ c.if-not-fits.true)

pub returns-then-not-fits-2 : goal.returns-then-not-fits-2
unfolding onto and_then
returns-then-not-fits-2 c =
    c.stops.ensures
    ∙ rw (
      sym c.fits.ensures ∙ c.if-not-fits.false,
      sym c.fits-2.ensures ∙ c.if-not-fits-2.true,
      c.wrapping_add_usize-at.ensures.value,
    )

pub returns-then-u-eq0 : goal.returns-then-u-eq0
unfolding onto and_then
returns-then-u-eq0 c =
    rw (
      sym c.fits.ensures ∙ c.if-not-fits.false,
      sym c.fits-2.ensures ∙ c.if-not-fits-2.false,
      eq-eqb _ 0 c.if-u-eq0.true,
      c.wrapping_add_usize-at.ensures.value,
      c.wrapping_add_usize-count.ensures.value,
    )

pub returns : goal.returns
unfolding onto and_then
returns c =
    rw (
      sym c.fits.ensures ∙ c.if-not-fits.false,
      sym c.fits-2.ensures ∙ c.if-not-fits-2.false,
      ne_eqb _ 0 c.if-u-eq0.false,
      c.wrapping_add_usize-at.ensures.value,
      c.wrapping_add_usize-count.ensures.value,
    )
