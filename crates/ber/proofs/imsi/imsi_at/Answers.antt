-- `ber::imsi::imsi_at` meets its contract: three to eight octets, filled up, that are an IMSI, or not.
use mathlib.Core.Path.{◌≡◌, ◌∙◌, sym, ap}
use Rattle.ber.specs.Imsi.{fill, imsi_val, imsi_room}
use Rattle.ber.specs.Read.{octets_of}
use Rattle.ber.proofs.Readers.{guard_into}
use Rattle.ber.proofs.Imsis.{recorded, imsi_first, imsi_out, imsi_test, filled_up}
use Rattle.ber.proofs.Texts.{octets_fit}
use Rattle.ber.proofs.imsi.imsi_at.Goals as goal

pub returns-in_err-digits : goal.returns-in_err-digits
returns-in_err-digits c =
    let a = c.args in
    rw (imsi_first a.tag a.s.now a.at, ← c.octets_at.ensures.reads, c.in_err-digits.was) c.from_residual.ensures

pub returns-in_err-size : goal.returns-in_err-size
unfolding fill
returns-in_err-size c =
    let a = c.args in
    let x = c.in_ok-digits.digits.now in
    let room : imsi_room (imsi_val x) ≡ c.imsi_size.result = sym (c.imsi_size.ensures ∙ rw c.copy_from_slice.ensures.after (ap imsi_room (filled_up x))) in
    rw (imsi_first a.tag a.s.now a.at, ← c.octets_at.ensures.reads, c.in_ok-digits.was, imsi_out x (room ∙ c.in_err-size.was))
    c.from_residual-in_err-size.ensures

pub returns : goal.returns
unfolding fill
returns c =
    let a = c.args in
    let x = c.in_ok-digits.digits.now in
    let room : imsi_room (imsi_val x) ≡ c.imsi_size.result = sym (c.imsi_size.ensures ∙ rw c.copy_from_slice.ensures.after (ap imsi_room (filled_up x))) in
    rw (
      imsi_first a.tag a.s.now a.at,
      ← c.octets_at.ensures.reads,
      c.in_ok-digits.was,
      c.then_some.ensures,
      c.copy_from_slice.ensures.after,
      filled_up x,
      imsi_test x c.in_ok-size.size (room ∙ c.in_ok-size.was),
    ) (guard_into (recorded x) (imsi_val x) c.in_ok-digits.next)
