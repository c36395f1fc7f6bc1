-- The answers of the test of the rules, of the writer and of the reader.
use mathlib.Core.Path.{◌≡◌, sym, ap, ◌∙◌}
use mathlib.Core.Bool.{Bool, true, false, ◌&&◌}
use Rattle.std.specs.Prelude.{Option, None, Some, Result, Err, IsSomeAnd}
use Rattle.std.specs.Option.{ok_or}
use Rattle.std.specs.Result.{result_ok}
use mathlib.Core.List.{List, append-nil}
use Prim.Native.Nat.{ℕ, ◌+◌, ◌^◌, ◌≤◌, ◌<◌}
use native.Mathlib.Omega.{arith}
use lib.Dec.{T, leb}
use lib.ListN.{length, take, drop}
use borrow.Author.Tests.{le-ltb, lt-ltb, eq-eqb}
use Rattle.format.proofs.Tests.{by, either, true_T}
use Rattle.ber.specs.Imsi.{imsi_ok}
use Rattle.ber.specs.Tlv.{tlv_enc, tlv_form, head}
use Rattle.ber.specs.Write.{Puts}
use Rattle.ber.specs.Private.Wrote.{Wrote}
use Rattle.ber.specs.Private.Filled.{Filled}
use Rattle.ber.proofs.Ready.{filled_of}
use Rattle.ber.proofs.Tlvs.{tlv_yes, tlv_length, head_4}
use Rattle.ber.specs.declared.written.NotWritten.{NotWritten}
use Rattle.ber.specs.declared.written.NotWritten.TheVariants.{OutsideRules, NoRoom}
use Rattle.ber.proofs.Records.{Answers, answer_outside, answer_full, answer_done, answer_room, answer_none}
use Rattle.calendar.specs.Stamp.{stamp_ok}
use Rattle.container.specs.List.{list_ok, blanks}
use Rattle.scdr.specs.declared.Record.{Record}
use Rattle.octets.specs.Names.{apn_ok, node_ok}
use Rattle.scdr.specs.Rules.{list_rule, cause_ok, number_ok, change_ok, shaped, within}
use Rattle.scdr.specs.Table.{record_tag}
use Rattle.scdr.specs.Layout.{body, of_record, rules, inside, scdr}
use Rattle.scdr.specs.Answers.{write_of, Writes, size_of, Sizes}
use Rattle.scdr.proofs.Theorems.{at_most_1024}

-- ---- the rules

pub within_is : (r : Record) {a b c d e f g h k : Bool} → a ≡ imsi_ok r.imsi → b ≡ apn_ok r.apn r.apnlen → c ≡ stamp_ok r.opening
    → d ≡ (leb r.count 15 && list_ok r.opening (take r.count r.containers)) → k ≡ blanks (drop r.count r.containers)
    → e ≡ cause_ok r.cause → f ≡ number_ok r.cause r.number → g ≡ change_ok r.change r.number → h ≡ node_ok r.nodeid r.nodelen
    → (a && b && c && (d && k) && e && f && g && h) ≡ within r
unfolding within list_rule
within_is r p q s t u v w x y = rw (p, q, s, t, u, v, w, x, y)

-- what the code knows of any record that it holds
pub shaped_is : (r : Record) → length r.apn ≡ 63 → length r.containers ≡ 15 → length r.nodeid ≡ 20 → r.sgsn < 2 ^ 32 → r.charging < 2 ^ 32
    → r.ggsn < 2 ^ 32 → r.pdptype < 2 ^ 16 → r.address < 2 ^ 32 → shaped r ≡ true
unfolding shaped
shaped_is r a b c d e f g h =
    rw (
      eq-eqb (length r.apn) 63 a,
      eq-eqb (length r.containers) 15 b,
      eq-eqb (length r.nodeid) 20 c,
      lt-ltb r.sgsn (2 ^ 32) d,
      lt-ltb r.charging (2 ^ 32) e,
      lt-ltb r.ggsn (2 ^ 32) f,
      lt-ltb r.pdptype (2 ^ 16) g,
      lt-ltb r.address (2 ^ 32) h,
    )

-- ---- the writer

pub writes_outside : (r : Record) (b : List ℕ) → within r ≡ false → Writes r b b (Err OutsideRules)
unfolding write_of
writes_outside r b e = record { is = (answer_outside {x = scdr.enc r} e).is }

pub octets_are : (r : Record) → tlv_enc record_tag (body.enc (of_record r)) ≡ scdr.enc r
unfolding scdr inside
octets_are r = sym (append-nil (tlv_enc record_tag (body.enc (of_record r))))

octets_length : (r : Record) → length (scdr.enc r) ≡ head (length (body.enc (of_record r))) + length (body.enc (of_record r))
octets_length r = sym (ap length (octets_are r)) ∙ tlv_length record_tag (body.enc (of_record r))

-- a record's octets without tag and length
body_short : (r : Record) → T (rules r) → length (body.enc (of_record r)) ≤ 1020
body_short r t =
    let n = length (body.enc (of_record r)) in
    let m = at_most_1024 r t in
    either n 1020 (λ h. h) (λ h. let e : head n ≡ 4 = rw (head, le-ltb n 128 (omega arith), le-ltb n 256 (omega arith)) in absurd (omega (arith, octets_length r)))

module _ (r : Record) (most : length (body.enc (of_record r)) ≤ 1020) where
  pub octets_short : length (scdr.enc r) ≤ 1024
  octets_short = omega (arith, octets_length r, head_4 (length (body.enc (of_record r))))

  pub octets_form : {x : List ℕ} → x ≡ body.enc (of_record r) → tlv_form record_tag x ≡ Some (scdr.enc r)
  octets_form e = ap (tlv_form record_tag) e ∙ tlv_yes record_tag (body.enc (of_record r)) (omega arith) ∙ ap {B = Option (List ℕ)} Some (octets_are r)

-- a record's fields in an array that has room for any
pub body_filled : (r : Record) {b b' : List ℕ} {o : Option ℕ} → T (rules r) → length b ≡ 1020 → Wrote (body.enc (of_record r)) b b' 0 o
    → IsSomeAnd o (λ n. Filled (body.enc (of_record r)) 1020 b' n)
body_filled r t room w = filled_of room w (body_short r t)

-- what the code answers, once the test passed
pub writes_put : (r : Record) {b b' : List ℕ} (o : Option ℕ) → within r ≡ true → Puts (Some (scdr.enc r)) b b' 0 o → Writes r b b' (ok_or o NoRoom)
unfolding write_of
writes_put r None w p = record { is = (answer_full w p).is }
writes_put r (Some n) w p = record { is = (answer_done w p).is }

-- the promise is that of any record's writer
pub writes_answers : {r : Record} {b b' : List ℕ} {a : Result ℕ NotWritten} → Writes r b b' a → Answers (within r) (scdr.enc r) b b' a
unfolding write_of
writes_answers p = record { is = p.is }

pub answers_writes : {r : Record} {b b' : List ℕ} {a : Result ℕ NotWritten} → Answers (within r) (scdr.enc r) b b' a → Writes r b b' a
unfolding write_of
answers_writes p = record { is = p.is }

-- ---- the size: what the writer answers where every record has room

pub sizes : (r : Record) {b b' : List ℕ} {a : Result ℕ NotWritten} → (T (within r) → length (scdr.enc r) ≤ 1024) → length b ≡ 1024
    → Writes r b b' a → Sizes r (result_ok a)
unfolding size_of
sizes r {b} {b'} {a} m l p =
    by (within r)
    (λ w.
    let k = m (true_T (within r) w) in
    let q = answer_room (writes_answers p) w (omega arith) in
    rw q.0 (record { is = rw w; most = k }))
    (λ w. rw (answer_none (writes_answers p) w) (record { is = rw w; most = tt }))
