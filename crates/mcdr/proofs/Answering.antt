-- The answers of the test of the rules and of the writer.
use mathlib.Core.Path.{◌≡◌, ap, ◌∙◌}
use mathlib.Core.Bool.{Bool, true, false, ◌&&◌}
use Rattle.std.specs.Prelude.{Option, None, Some, Result, Err, IsSomeAnd}
use Rattle.std.specs.Option.{ok_or}
use mathlib.Core.List.{List}
use Prim.Native.Nat.{ℕ, ◌^◌, ◌≤◌, ◌<◌}
use native.Mathlib.Omega.{arith}
use lib.Dec.{leb}
use lib.ListN.{length, drop}
use Rattle.ber.specs.Imsi.{imsi_ok}
use Rattle.ber.specs.Tlv.{tlv_form}
use Rattle.ber.specs.Write.{Puts}
use Rattle.ber.specs.Private.Wrote.{Wrote}
use Rattle.ber.specs.Private.Filled.{Filled}
use Rattle.ber.proofs.Ready.{filled_of}
use Rattle.ber.proofs.Tlvs.{tlv_yes}
use Rattle.ber.specs.declared.written.NotWritten.{NotWritten}
use Rattle.ber.specs.declared.written.NotWritten.TheVariants.{OutsideRules, NoRoom}
use Rattle.ber.proofs.Records.{Answers, answer_outside, answer_full, answer_done}
use Rattle.calendar.specs.Stamp.{stamp_ok}
use Rattle.octets.specs.Names.{node_ok}
use Rattle.mcdr.specs.declared.MmRecord.{MmRecord}
use Rattle.mcdr.specs.Changes.{changes_ok, last_time, blanks}
use Rattle.mcdr.specs.Rules.{used, list_rule, cause_ok, full_ok, closing_ok, number_ok, within}
use Rattle.mcdr.specs.Table.{record_tag}
use Rattle.mcdr.specs.Layout.{body, of_record, mcdr}
use Rattle.mcdr.specs.Answers.{write_of, Writes}
use Rattle.mcdr.proofs.Views.{Within}
use Rattle.mcdr.proofs.Closings.{closing_rules}
use Rattle.mcdr.proofs.Theorems.{Held, body_short, octets_are}

-- ---- the rules, each as its function finds it

pub rules_found : (r : MmRecord) {a b c d e f g h k : Bool} {last : ℕ} → a ≡ imsi_ok r.imsi → b ≡ stamp_ok r.opening
    → c ≡ (leb r.count 15 && changes_ok r.opening.zone r.opening.seconds r.place (used r)) → k ≡ blanks (drop r.count r.changes)
    → d ≡ cause_ok r.cause → e ≡ full_ok r.cause r.count → last ≡ last_time r.opening.seconds (used r)
    → f ≡ closing_ok r.cause r.opening.seconds r.duration last → g ≡ number_ok r.cause r.number → h ≡ node_ok r.nodeid r.nodelen
    → (a && b && (c && k) && d && e && f && g && h) ≡ within r
unfolding within list_rule
rules_found r p q s t u v l w x y = rw (p, q, s, t, u, v, w, l, x, y)

-- ---- the writer

pub writes_outside : (r : MmRecord) (b : List ℕ) → within r ≡ false → Writes r b b (Err OutsideRules)
unfolding write_of
writes_outside r b e = record { is = (answer_outside {x = mcdr.enc r} e).is }

pub octets_form : (r : MmRecord) → length (body.enc (of_record r)) ≤ 400 → {x : List ℕ} → x ≡ body.enc (of_record r) → tlv_form record_tag x ≡ Some (mcdr.enc r)
octets_form r most e = ap (tlv_form record_tag) e ∙ tlv_yes record_tag (body.enc (of_record r)) (omega arith) ∙ ap {B = Option (List ℕ)} Some (octets_are r)

-- a record's fields in an array that has room for any
pub body_filled : (r : MmRecord) {b b' : List ℕ} {o : Option ℕ} → Within r → length r.changes ≡ 15 → length r.nodeid ≡ 20 → r.sgsn < 2 ^ 32
    → length b ≡ 400 → Wrote (body.enc (of_record r)) b b' 0 o → IsSomeAnd o (λ n. Filled (body.enc (of_record r)) 400 b' n)
body_filled r i l n s room w =
    let k = closing_rules r.cause r.opening.seconds r.duration (last_time r.opening.seconds (used r)) i.closing in
    let h : Held r = record { changes = l; node = n; sgsn = s; duration = omega (arith, k.until) } in
    filled_of room w (omega (arith, body_short r i h))

-- what the code answers, once the test passed
pub writes_put : (r : MmRecord) {b b' : List ℕ} (o : Option ℕ) → within r ≡ true → Puts (Some (mcdr.enc r)) b b' 0 o → Writes r b b' (ok_or o NoRoom)
unfolding write_of
writes_put r None w p = record { is = (answer_full w p).is }
writes_put r (Some n) w p = record { is = (answer_done w p).is }

-- the promise is that of any record's writer
pub writes_answers : {r : MmRecord} {b b' : List ℕ} {a : Result ℕ NotWritten} → Writes r b b' a → Answers (within r) (mcdr.enc r) b b' a
unfolding write_of
writes_answers p = record { is = p.is }

pub answers_writes : {r : MmRecord} {b b' : List ℕ} {a : Result ℕ NotWritten} → Answers (within r) (mcdr.enc r) b b' a → Writes r b b' a
unfolding write_of
answers_writes p = record { is = p.is }
