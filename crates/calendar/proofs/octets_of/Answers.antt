-- `calendar::octets_of` meets its contract: each number has two digits, and the nine octets are the definition's.
use native.Mathlib.Omega.{arith}
use borrow.Author.Rules.{rules}
use Rattle.calendar.proofs.Stamps.{away_known, nine}
use Rattle.calendar.proofs.octets_of.Goals as goal

pub to_bcd-requires-7 : goal.to_bcd-requires-7
to_bcd-requires-7 c = omega (arith, away_known c.args.zone (search rules))

pub returns : goal.returns
returns c =
    let a = c.args in
    nine a.date.month a.date.place a.second a.zone c.away_of-size.ensures
    c.to_bcd.ensures
    c.to_bcd-2.ensures
    c.to_bcd-3.ensures
    c.to_bcd-4.ensures
    c.to_bcd-5.ensures
    c.to_bcd-6.ensures
    c.sign_of.ensures
    c.to_bcd-7.ensures
    c.to_bcd-8.ensures
