-- `calendar::stamp_of` meets its contract: what it puts together of the octets' parts is what they say by the definition, and each way
-- out is a law of proofs/Stamps.antt.
use mathlib.Core.Path.{sym, ap, ◌∙◌}
use Prim.Native.Nat.{ℕ, ◌-◌}
use native.Mathlib.Omega.{arith}
use borrow.Author.Rules.{rules}
use Rattle.format.proofs.Tests.{true_T}
use Rattle.calendar.proofs.Stamps.{zone_known, read_length, read_late, read_day, read_clock, read_out, read}
use Rattle.calendar.proofs.stamp_of.Goals as goal

pub returns-then-s-ne9 : goal.returns-then-s-ne9
returns-then-s-ne9 c = read_length c.args.s.now c.if-s-ne9.true

pub returns-then-month-ge1200 : goal.returns-then-month-ge1200
returns-then-month-ge1200 c = read_late c.args.s.now (omega arith)

pub returns-then-place-days : goal.returns-then-place-days
returns-then-place-days c =
    let place = c.saturating_sub-place.ensures ∙ ap (λ (n : ℕ). n - 1) c.of_bcd.ensures.same in
    read_day c.args.s.now c.month_named-month.ensures.same c.days_of-days.ensures.count place c.if-place-days.true

pub returns-then-second-ge86400 : goal.returns-then-second-ge86400
returns-then-second-ge86400 c = read_clock c.args.s.now c.second_of-second.ensures.same c.if-second-ge86400.true

pub returns-then-not-stamp_within : goal.returns-then-not-stamp_within
returns-then-not-stamp_within c =
    let place = c.saturating_sub-place.ensures ∙ ap (λ (n : ℕ). n - 1) c.of_bcd.ensures.same in
    read_out c.args.s.now c.month_named-month.ensures.same c.days_of-days.ensures.first place c.second_of-second.ensures.same c.zone_of.ensures
    (sym c.if-not-stamp_within.ensures)

pub octets_of-octets-requires : goal.octets_of-octets-requires
octets_of-octets-requires c =
    (search rules, omega (arith, c.days_of-days.ensures.short, c.if-place-days.false), search rules, zone_known _ (true_T _ (sym c.if-not-stamp_within.ensures)))

pub returns : goal.returns
returns c =
    let place = c.saturating_sub-place.ensures ∙ ap (λ (n : ℕ). n - 1) c.of_bcd.ensures.same in
    c.then_some.ensures
    ∙ read c.args.s.now c.month_named-month.ensures.same c.days_of-days.ensures.first place c.second_of-second.ensures.same c.zone_of.ensures
    (omega arith) c.days_of-days.ensures.count c.if-place-days.false (omega arith) (sym c.if-not-stamp_within.ensures) c.octets_of-octets.ensures
    c.is_same.result c.is_same.ensures
