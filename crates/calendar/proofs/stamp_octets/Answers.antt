-- `calendar::stamp_octets` meets its contract: past the first test the time is in range, so its date is one of the calendar's, and the
-- octets are the definition's.
use mathlib.Core.Path.{refl, sym}
use native.Mathlib.Omega.{arith}
use Rattle.format.proofs.Tests.{true_T}
use Rattle.calendar.proofs.Stamps.{day_known, zone_known, form_of, stamped_yes}
use Rattle.calendar.proofs.stamp_octets.Goals as goal

pub date_of-requires : goal.date_of-requires
date_of-requires c = day_known c.args.t (true_T _ (sym c.if-not-stamp_within.ensures))

pub octets_of-requires : goal.octets_of-requires
octets_of-requires c =
    let d = c.date_of.ensures in
    (d.known, d.small, omega arith, zone_known c.args.t (true_T _ (sym c.if-not-stamp_within.ensures)))

pub returns : goal.returns
returns c =
    let t = c.args.t in
    let d = c.date_of.ensures in
    stamped_yes t (sym c.if-not-stamp_within.ensures) (form_of t d.month d.place refl c.octets_of.ensures)
