-- What counting has to do with reading: of a list that reads in full it is the count and the number that reading it all gives.
use Rattle.std.proofs.Common.{◌≡◌, ℕ, suc, ◌+◌, ◌-◌, ◌<◌, ◌≤◌, Bool, true, false, cond, T, List, [], ◌∷◌, length, drop, sym, refl, ap, ◌∙◌, ap₂, arith, length-append, drop-drop, le-leb}
use Rattle.std.specs.Prelude.{Some}
use Rattle.std.proofs.lemmas.Option.{none-some, same_Some}
use lib.Seq.{take-append_seam, drop-append_seam}
use Rattle.format.proofs.Tests.{by}
use Rattle.ber.specs.Tlv.{tlv_enc}
use Rattle.ber.proofs.Tlvs.{tlv_complete, tlv_length}
use Rattle.scdr.specs.declared.Record.{Record}
use Rattle.scdr.specs.Table as s-table
use Rattle.scdr.specs.Layout.{inside, scdr}
use Rattle.mcdr.specs.declared.MmRecord.{MmRecord}
use Rattle.cdrs.specs.Cdr.{Cdr, pdp, mm, cdr_enc, cdr_rules}
use Rattle.cdrs.specs.List.{list_enc, record_list}
use Rattle.cdrs.proofs.Values.{is_mm}
use Rattle.cdrs.proofs.Cdrs.{at_most_1024, pdp_kind, mm_kind}
use Rattle.cdrs.proofs.Listed.{AllRight, reads_list}
use Rattle.entries.specs.declared.Entry.{Entry}
use Rattle.entries.specs.declared.Entry.TheVariants.{Found, End, NoMark, Cut, NoValue}
use Rattle.entries.specs.Entry.{entry_at}
use Rattle.entries.specs.Steps.{place_of}
use Rattle.entries.specs.Read.{octets_in}
use Rattle.entries.proofs.Theorems.{front_found}
use Rattle.tally.specs.declared.Tally.{Tally}
use Rattle.tally.specs.Say.{other, carries, say_of}
use Rattle.tally.specs.Look.{past, counts, within, contents_of, said, look_on, look_of}
use Rattle.tally.specs.Tally.{fits, start, and_then, tallied, count_of}
use Rattle.tally.specs.Named.{is_named, of_name, last_number, count_read}
use Rattle.tally.proofs.Looks.{found_mm, found_pdp}
use Rattle.tally.proofs.Tallies.{then_counts, then_none, going, stop, step, so_far}
use Rattle.tally.proofs.Records.{says_name}

-- ---- a record at the front of a list

-- where a step over a record lands that ends at e
abbrev lands_on : ℕ → ℕ → ℕ → Cdr → Tally
lands_on id ggsn e (pdp r) = cond (is_named id ggsn r) (counts e r.number) (past e)
lands_on id ggsn e (mm r) = past e

found_at_lem : (x : Entry) (p : ℕ × ℕ) → place_of x ≡ Some p → x ≡ Found p.0 p.1
found_at_lem (Found a e) p d = ap (λ (z : ℕ × ℕ). Found z.0 z.1) (same_Some (a, e) p d)
found_at_lem End p d = absurd (none-some p d)
found_at_lem (NoMark q) p d = absurd (none-some p d)
found_at_lem (Cut q) p d = absurd (none-some p d)
found_at_lem (NoValue q) p d = absurd (none-some p d)

-- the contents of an S-CDR are its fields
inside_short : (r : Record) → T (cdr_rules (pdp r)) → length (inside.enc r) < 65536
unfolding scdr
inside_short r t =
    let c = inside.enc r in
    omega (arith, at_most_1024 (pdp r) t, length-append (tlv_enc s-table.record_tag c) [], tlv_length s-table.record_tag c)

contents_enc : (r : Record) → T (cdr_rules (pdp r)) → contents_of (cdr_enc (pdp r)) ≡ inside.enc r
unfolding scdr
contents_enc r t = ap within (tlv_complete s-table.record_tag (inside.enc r) [] (inside_short r t))

said_if : (b : Bool) (e n : ℕ) → said e (cond b (carries n) other) ≡ cond b (counts e n) (past e)
said_if true e n = refl
said_if false e n = refl

module _ (id ggsn : ℕ) where
  found_front : (s : List ℕ) (a e : ℕ) (r : Cdr) → T (cdr_rules r) → e - a ≤ 1024 → octets_in s (a, e) ≡ cdr_enc r
      → look_on id ggsn s (Found a e) ≡ lands_on id ggsn e r
  found_front s a e (pdp r) t h d =
      sym (found_pdp id ggsn s a e h (ap is_mm d ∙ pdp_kind r))
      ∙ ap (said e) (ap (λ (x : List ℕ). say_of id ggsn (contents_of x)) d ∙ ap (say_of id ggsn) (contents_enc r t) ∙ says_name id ggsn r t (inside_short r t))
      ∙ said_if (is_named id ggsn r) e r.number
  found_front s a e (mm r) t h d = sym (found_mm id ggsn s a e h (ap is_mm d ∙ mm_kind r))

  look_front : (r : Cdr) (rs : List Cdr) → AllRight (r ∷ rs) → look_of id ggsn (list_enc (r ∷ rs)) ≡ lands_on id ggsn (2 + length (cdr_enc r)) r
  unfolding look_of list_enc
  look_front r rs a =
      let s = list_enc (r ∷ rs) in
      let e = 2 + length (cdr_enc r) in
      let m = at_most_1024 r a.0 in
      let d = found_at_lem (entry_at s 0) (2, e) (front_found s 0 r rs a refl) in
      let z : e - 2 ≡ length (cdr_enc r) = omega arith in
      ap (look_on id ggsn s) d ∙ found_front s 2 e r a.0 (omega arith) (rw z (take-append_seam (cdr_enc r) (list_enc rs)))

-- ---- a list

module _ (id ggsn : ℕ) where
  lands_at : (e : ℕ) (r : Cdr) → (lands_on id ggsn e r).at ≡ e
  lands_at e (pdp r) = by (is_named id ggsn r) (λ b. rw b) (λ b. rw b)
  lands_at e (mm r) = refl

  -- a step over the first record of a list
  over_first : (t : Tally) (r : Cdr) (rs : List Cdr) → AllRight (r ∷ rs) → fits t.fault ≡ true
      → tallied true id ggsn t (list_enc (r ∷ rs)) ≡ tallied true id ggsn (and_then t (lands_on id ggsn (2 + length (cdr_enc r)) r)) (list_enc rs)
  unfolding list_enc
  over_first t r rs a f =
      let s = list_enc (r ∷ rs) in
      let n = length (cdr_enc r) in
      let k = lands_on id ggsn (2 + n) r in
      let d : drop (2 + n) s ≡ list_enc rs = sym (drop-drop n 2 s) ∙ drop-append_seam (cdr_enc r) (list_enc rs) in
      let g : going true id ggsn t (length s) ≡ true = rw (f, le-leb 1 (length s) (omega arith)) in
      step true id ggsn t s g
      ∙ ap (λ (y : Tally). tallied true id ggsn (and_then t y) (drop y.at s)) (look_front id ggsn r rs a)
      ∙ ap (tallied true id ggsn (and_then t k)) (ap (λ (i : ℕ). drop i s) (lands_at (2 + n) r) ∙ d)

  -- what was counted before a list, and what is counted with it
  abbrev with_list : List Cdr → ℕ → ℕ → ℕ → Tally
  with_list rs at count number =
      so_far (at + length (list_enc rs)) (count + length (of_name id ggsn rs)) (last_number number (of_name id ggsn rs))

  module _ (rs : List Cdr) (at count number : ℕ) where
    further : (r : Cdr) → at + (2 + length (cdr_enc r)) + length (list_enc rs) ≡ at + length (list_enc (r ∷ rs))
    unfolding list_enc
    further r = omega (arith, length-append (cdr_enc r) (list_enc rs))

    named_first : (r : Record) → is_named id ggsn r ≡ true
        → with_list rs (at + (2 + length (cdr_enc (pdp r)))) (count + 1) r.number ≡ with_list (pdp r ∷ rs) at count number
    unfolding of_name last_number
    named_first r b =
        let y : count + 1 + length (of_name id ggsn rs) ≡ count + suc (length (of_name id ggsn rs)) = omega arith in
        rw b (ap₂ {C = Tally} (λ (i k : ℕ). so_far i k (last_number r.number (of_name id ggsn rs))) (further (pdp r)) y)

    -- none more
    other_more : (r : Cdr) (n : ℕ)
        → so_far (at + (2 + length (cdr_enc r)) + length (list_enc rs)) (count + 0 + length (of_name id ggsn rs)) n
        ≡ so_far (at + length (list_enc (r ∷ rs))) (count + length (of_name id ggsn rs)) n
    other_more r n =
        let y : count + 0 + length (of_name id ggsn rs) ≡ count + length (of_name id ggsn rs) = omega arith in
        ap₂ {C = Tally} (λ (i k : ℕ). so_far i k n) (further r) y

    other_first : (r : Record) → is_named id ggsn r ≡ false
        → with_list rs (at + (2 + length (cdr_enc (pdp r)))) (count + 0) number ≡ with_list (pdp r ∷ rs) at count number
    unfolding of_name
    other_first r b = rw b (other_more (pdp r) (last_number number (of_name id ggsn rs)))

    mm_first : (r : MmRecord) → with_list rs (at + (2 + length (cdr_enc (mm r)))) (count + 0) number ≡ with_list (mm r ∷ rs) at count number
    unfolding of_name
    mm_first r = other_more (mm r) (last_number number (of_name id ggsn rs))

  -- counted on over a list of records within the rules
  counts_on : (rs : List Cdr) (at count number : ℕ) → AllRight rs
      → tallied true id ggsn (so_far at count number) (list_enc rs) ≡ with_list rs at count number
  unfolding list_enc of_name last_number
  counts_on [] at count number a =
      let x : at ≡ at + 0 = omega arith in
      let y : count ≡ count + 0 = omega arith in
      stop true id ggsn (so_far at count number) [] refl ∙ ap₂ {C = Tally} (λ (i k : ℕ). so_far i k number) x y
  counts_on (r ∷ rs) at count number a =
      over_first (so_far at count number) r rs a refl ∙ go r (λ i c n. counts_on rs i c n a.1)
    where
      Next : Type 0
      Next = (at count number : ℕ) → tallied true id ggsn (so_far at count number) (list_enc rs) ≡ with_list rs at count number

      go : (r : Cdr) → Next
          → tallied true id ggsn (and_then (so_far at count number) (lands_on id ggsn (2 + length (cdr_enc r)) r)) (list_enc rs) ≡ with_list (r ∷ rs) at count number
      go (pdp r) f =
          let e = 2 + length (cdr_enc (pdp r)) in
          by (is_named id ggsn r)
          (λ b.
          let k : lands_on id ggsn e (pdp r) ≡ counts e r.number = rw b in
          ap (λ (t : Tally). tallied true id ggsn t (list_enc rs))
          (ap (and_then (so_far at count number)) k ∙ then_counts (so_far at count number) (counts e r.number) refl (λ z. omega arith))
          ∙ f (at + e) (count + 1) r.number
          ∙ named_first rs at count number r b)
          (λ b.
          let k : lands_on id ggsn e (pdp r) ≡ past e = rw b in
          ap (λ (t : Tally). tallied true id ggsn t (list_enc rs))
          (ap (and_then (so_far at count number)) k ∙ then_none (so_far at count number) (past e) refl refl)
          ∙ f (at + e) (count + 0) number
          ∙ other_first rs at count number r b)
      go (mm r) f =
          let e = 2 + length (cdr_enc (mm r)) in
          ap (λ (t : Tally). tallied true id ggsn t (list_enc rs)) (then_none (so_far at count number) (past e) refl refl)
          ∙ f (at + e) (count + 0) number
          ∙ mm_first rs at count number r

-- ---- the theorem

-- For every list of S-CDRs and M-CDRs that reads in full, mark by mark, the count is the one that reading it all gives.
pub in_full : (id ggsn : ℕ) (s : List ℕ) (rs : List Cdr) → record_list s ≡ Some rs → count_of id ggsn s ≡ count_read id ggsn s rs
unfolding record_list count_of count_read
in_full id ggsn s rs e =
    let (a, w) = reads_list (length s) s rs e in
    let x : 0 + length (list_enc rs) ≡ length s = omega (arith, ap length w) in
    let y : 0 + length (of_name id ggsn rs) ≡ length (of_name id ggsn rs) = omega arith in
    ap (tallied true id ggsn start) w
    ∙ counts_on id ggsn rs 0 0 0 a
    ∙ ap₂ {C = Tally} (λ (i k : ℕ). so_far i k (last_number 0 (of_name id ggsn rs))) x y

-- an empty list: 0, and none
pub empty_list : (id ggsn : ℕ) → count_of id ggsn [] ≡ start
unfolding count_of
empty_list id ggsn = stop true id ggsn start [] refl
