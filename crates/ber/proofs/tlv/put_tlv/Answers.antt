-- `ber::tlv::put_tlv` meets its contract: with room for the whole, tag, length and contents are put one after another.
use mathlib.Core.Path.{sym, ap, ◌∙◌}
use mathlib.Core.List.{List, ◌∷◌, ◌++◌}
use Prim.Native.Nat.{ℕ}
use native.Mathlib.Omega.{arith}
use lib.ListN.{length}
use Rattle.std.specs.Prelude.{Option, Some}
use Rattle.ber.specs.Tlv.{tlv_enc}
use Rattle.ber.proofs.Tlvs.{tlv_yes, tlv_no, tlv_length, head_length}
use Rattle.ber.proofs.Writers.{puts_full, puts_none, puts_is, puts_room, puts_then, puts_next, puts_lost, holds_take}
use Rattle.ber.proofs.tlv.put_tlv.Goals as goal
use Rattle.ber.proofs.tlv.put_tlv.Goals.{then-out-at-via-then-out-at, then-out-at-via-else-out-at+then-out-at-2}

pub returns-then-src-lt128 : goal.returns-then-src-lt128
returns-then-src-lt128 c = c.put_short.ensures

pub returns-in_err-l : goal.returns-in_err-l
returns-in_err-l c = rw c.from_residual.ensures (puts_is (sym (tlv_no c.args.tag c.args.src.now c.in_err-l.ensures)) puts_none)

pub returns-then-out-at : goal.returns-then-out-at
returns-then-out-at c =
    let a = c.args in
    let l = c.in_ok-l.ensures.1 in
    let e = holds_take l in
    let h = head_length (length a.src.now) e in
    puts_is (sym (tlv_yes a.tag a.src.now c.in_ok-l.ensures.0)) (puts_full
    (elim c.then-out-at.branch [
      | then-out-at-via-then-out-at w ↦ omega arith
      | then-out-at-via-else-out-at+then-out-at-2 w ↦ omega (arith, h, l.size, ap length e, tlv_length a.tag a.src.now)
    ]))

pub returns-in_err-a : goal.returns-in_err-a
returns-in_err-a c = absurd (puts_lost (omega arith) c.in_err-a.ensures)

pub returns-in_err-b : goal.returns-in_err-b
returns-in_err-b c =
    let p = puts_room (omega arith) c.in_ok-a.ensures in
    let l = c.in_ok-l.ensures.1 in
    let d = c.deref.ensures.0 ∙ holds_take l in
    absurd (puts_lost (omega (arith, p.end, p.same, l.size, ap length d)) c.in_err-b.ensures)

pub returns : goal.returns
unfolding tlv_enc
returns c =
    let a = c.args in
    let l = c.in_ok-l.ensures in
    let d = c.deref.ensures.0 ∙ holds_take l.1 in
    let n = ap length d in
    let m = l.1.size in
    let p = puts_room (omega arith) c.in_ok-a.ensures in
    let q = puts_then (omega (arith, n, m)) p c.in_ok-b.ensures in
    let r = puts_next c.put_all-3.result (omega (arith, n, m)) q c.put_all-3.ensures in
    puts_is (ap {B = Option (List ℕ)} (λ (z : List ℕ). Some (a.tag ∷ (z ++ a.src.now))) d ∙ sym (tlv_yes a.tag a.src.now l.0)) r
