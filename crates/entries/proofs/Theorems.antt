-- What stepping has to do with reading: stepping from the start, each record read, to the end is exactly how a record list is read; stepping
-- ends; and in a list that reads in full, marks and lengths alone find each record where it lies.
use mathlib.Core.Path.{◌≡◌, refl, sym, ap, ◌∙◌}
use mathlib.Core.Bool.{Bool, true, false, cond}
use Rattle.std.specs.Prelude.{Option, None, Some}
use Rattle.std.proofs.lemmas.Option.{none-some}
use mathlib.Core.List.{List, [], ◌∷◌, ◌++◌}
use Prim.Native.Nat.{ℕ, zero, suc, ◌+◌, ◌-◌, ◌≤◌, ◌<◌}
use native.Mathlib.Nat.{le_of_suc-le-suc}
use native.Mathlib.Omega.{arith}
use lib.Dec.{eqb}
use lib.ListN.{length, drop, drop_of_length-le, length-drop, length-append}
use lib.Seq.{drop-drop, drop-append_seam}
use borrow.Author.Tests.{eq-eqb, ne_eqb}
use Rattle.format.specs.Maybe.{bind}
use Rattle.format.proofs.Maybe.{bind_bind}
use Rattle.format.proofs.Tests.{either}
use Rattle.ber.proofs.Places.{at_cons}
use Rattle.cdrs.specs.Cdr.{Cdr, cdr_enc, cdr_dec}
use Rattle.cdrs.specs.List.{list_enc, mark_at, list_dec, record_list}
use Rattle.cdrs.proofs.Values.{value_of, value_front}
use Rattle.cdrs.proofs.Cdrs.{is_value, followed, by_value}
use Rattle.cdrs.proofs.Listed.{AllRight, list_long, list_reads, reads_list}
use Rattle.entries.specs.declared.Entry.TheVariants.{Found}
use Rattle.entries.specs.Entry.{entry_at}
use Rattle.entries.specs.Steps.{place_of, places_from, stop_from, places_of, stop_of, count_of}
use Rattle.entries.specs.Read.{octets_in, read_each, laid_from}
use Rattle.entries.proofs.Exits.{at_end}
use Rattle.entries.proofs.Stands.{place_by, place_is, stands, found_stands}
use Rattle.entries.proofs.Walks.{one_more, goes_on_lem, no_more, stays}

-- ---- stepping ends

-- an entry begins two octets before its record, has at least four, and lies within the octets
pub entry_long : (s : List ℕ) (at a e : ℕ) → entry_at s at ≡ Found a e → (a ≡ at + 2) × (at + 4 ≤ e) × (e ≤ length s)
entry_long s at a e f = let w = found_stands s at f refl in (w.begins, w.long, w.inside)

at_end_none : (s : List ℕ) (at : ℕ) → length s ≤ at → place_of (entry_at s at) ≡ None
at_end_none s at h = ap place_of (sym (at_end s at h))

ends_from : (n : ℕ) (s : List ℕ) (at : ℕ) → length s ≤ at + n → place_of (entry_at s (stop_from n s at)) ≡ None
unfolding stop_from
ends_from zero s at h = at_end_none s at (omega arith)
ends_from (suc n) s at h = go (place_of (entry_at s at)) refl (λ p k. ends_from n s p.1 k)
  where
    go : (o : Option (ℕ × ℕ)) → place_of (entry_at s at) ≡ o → ((p : ℕ × ℕ) → length s ≤ p.1 + n → place_of (entry_at s (stop_from n s p.1)) ≡ None)
        → place_of (entry_at s (stop_from (suc n) s at)) ≡ None
    go None e f = rw (stays s at e (suc n)) e
    go (Some p) e f = let w = stands s at p e in rw (goes_on_lem s at p e n) (f p (let z = w.long in omega arith))

-- where stepping stops, no entry stands: it never stops for want of steps
pub ends : (s : List ℕ) → place_of (entry_at s (stop_of s)) ≡ None
unfolding stop_of
ends s = ends_from (length s) s 0 (omega arith)

-- ---- stepping and reading each record is reading the list

-- how a list is read on after a record, and after a value
abbrev reads_on : ℕ → Option (Cdr × List ℕ) → Option (List Cdr)
reads_on n o = bind o (λ p. bind (list_dec n p.1) (λ rs. Some (p.0 ∷ rs)))

abbrev after_value : ℕ → List ℕ × List ℕ → Option (List Cdr)
after_value n q = reads_on n (followed q.1 (cdr_dec q.0))

dec_step : (n : ℕ) (x : List ℕ) → 0 < length x → list_dec (suc n) x ≡ cond (mark_at x) (bind (value_of (drop 2 x)) (after_value n)) None
unfolding list_dec
dec_step n [] h = absurd (omega arith)
dec_step n (a ∷ x) h =
    ap (λ (o : Option (List Cdr)). cond (mark_at (a ∷ x)) o None)
    (ap (reads_on n) (by_value (drop 2 (a ∷ x)))
    ∙ bind_bind (value_of (drop 2 (a ∷ x))) (λ q. followed q.1 (cdr_dec q.0)) (λ p. bind (list_dec n p.1) (λ rs. Some (p.0 ∷ rs))))

-- the records at the entries from a place on, if the end is reached and each of them reads
abbrev by_entries : ℕ → List ℕ → ℕ → Option (List Cdr)
by_entries n s at = cond (eqb (stop_from n s at) (length s)) (read_each s (places_from n s at)) None

unplaced : (s : List ℕ) (at : ℕ) (m : Bool) (t : Option (List ℕ × List ℕ)) (f : List ℕ × List ℕ → Option (List Cdr)) → place_by s at m t ≡ None
    → cond m (bind t f) None ≡ None
unplaced s at true None f e = refl
unplaced s at true (Some q) f e = absurd (none-some _ (sym e))
unplaced s at false t f e = refl

joined : (o : Option Cdr) (y : List ℕ) (n : ℕ) (t : Bool) (k : Option (List Cdr)) → list_dec n y ≡ cond t k None
    → reads_on n (followed y o) ≡ cond t (bind o (λ r. bind k (λ rs. Some (r ∷ rs)))) None
joined None y n true k e = refl
joined None y n false k e = refl
joined (Some r) y n true k e = rw e
joined (Some r) y n false k e = rw e

module _ (s : List ℕ) (at : ℕ) where
  -- where no entry stands and octets are left, no list reads
  none_left : at < length s → place_of (entry_at s at) ≡ None → (n : ℕ) → by_entries n s at ≡ None
  none_left h e n = rw (stays s at e n, ne_eqb at (length s) (λ z. omega arith))

  -- where none are left, the list is over
  all_read : at ≡ length s → (n : ℕ) → by_entries n s at ≡ Some []
  unfolding read_each
  all_read h n =
      let e = at_end_none s at (omega arith) in
      rw (stays s at e n, eq-eqb at (length s) h, no_more s at e n)

  one_entry : (n : ℕ) (p : ℕ × ℕ) → at < length s → place_of (entry_at s at) ≡ Some p → list_dec n (drop p.1 s) ≡ by_entries n s p.1
      → list_dec (suc n) (drop at s) ≡ by_entries (suc n) s at
  unfolding read_each
  one_entry n p h e ih =
      let w = stands s at p e in
      dec_step n (drop at s) (rw (length-drop at s) (omega arith))
      ∙ rw (w.mark, drop-drop 2 at s, w.value, goes_on_lem s at p e n, one_more s at p e n)
      (joined (cdr_dec (octets_in s p)) (drop p.1 s) n (eqb (stop_from n s p.1) (length s)) (read_each s (places_from n s p.1)) ih)

  no_entry : (n : ℕ) → at < length s → place_of (entry_at s at) ≡ None → list_dec (suc n) (drop at s) ≡ by_entries (suc n) s at
  no_entry n h e =
      dec_step n (drop at s) (rw (length-drop at s) (omega arith))
      ∙ rw (drop-drop 2 at s) (unplaced s at (mark_at (drop at s)) (value_of (drop (at + 2) s)) (after_value n) (sym (place_is s at) ∙ e))
      ∙ sym (none_left h e (suc n))

steps : (n : ℕ) (s : List ℕ) (at : ℕ) → at ≤ length s → list_dec n (drop at s) ≡ by_entries n s at
unfolding list_dec stop_from
steps zero s at h =
    either (length s) at (λ k. rw (drop_of_length-le s k) (sym (all_read s at (omega arith) zero)))
    (λ k. rw (at_cons s at k, ne_eqb at (length s) (λ z. omega arith)))
steps (suc n) s at h =
    either (length s) at (λ k. rw (drop_of_length-le s k) (sym (all_read s at (omega arith) (suc n))))
    (λ k. go k (place_of (entry_at s at)) refl (λ e i. steps n s e i))
  where
    go : at < length s → (o : Option (ℕ × ℕ)) → place_of (entry_at s at) ≡ o → ((e : ℕ) → e ≤ length s → list_dec n (drop e s) ≡ by_entries n s e)
        → list_dec (suc n) (drop at s) ≡ by_entries (suc n) s at
    go k None e f = no_entry s at n k e
    go k (Some p) e f = let w = stands s at p e in one_entry s at n p k e (f p.1 w.inside)

-- a list reads in full, as these records, exactly where stepping reaches the end and the record of each entry reads, as these
pub by_steps : (s : List ℕ) → record_list s ≡ cond (eqb (stop_of s) (length s)) (read_each s (places_of s)) None
unfolding record_list stop_of places_of
by_steps s = steps (length s) s 0 (omega arith)

-- ---- in a list that reads in full

-- the record at the front of the rest of a list is found
pub front_found : (s : List ℕ) (at : ℕ) (r : Cdr) (rs : List Cdr) → AllRight (r ∷ rs) → drop at s ≡ list_enc (r ∷ rs)
    → place_of (entry_at s at) ≡ Some (at + 2, at + 2 + length (cdr_enc r))
unfolding list_enc mark_at
front_found s at r rs a e =
    let m : mark_at (drop at s) ≡ true = rw e in
    let d : drop (at + 2) s ≡ cdr_enc r ++ list_enc rs = sym (drop-drop 2 at s) ∙ ap (drop 2) e in
    let t : value_of (drop (at + 2) s) ≡ Some (cdr_enc r, list_enc rs) = ap value_of d ∙ value_front (is_value r a.0) (list_enc rs) in
    let l = sym (length-drop at s) ∙ ap length e in
    let z : length s - length (list_enc rs) ≡ at + 2 + length (cdr_enc r) = omega (arith, length-append (cdr_enc r) (list_enc rs)) in
    place_is s at ∙ rw (m, t, z)

laid : (rs : List Cdr) (n : ℕ) (s : List ℕ) (at : ℕ) → AllRight rs → length rs ≤ n → at ≤ length s → drop at s ≡ list_enc rs
    → (places_from n s at ≡ laid_from at rs) × (stop_from n s at ≡ length s)
unfolding list_enc laid_from
laid [] n s at a h i e =
    let k : length s ≤ at = omega (arith, length-drop at s, ap length e) in
    let o = at_end_none s at k in
    (no_more s at o n, stays s at o n ∙ omega arith)
laid (r ∷ rs) zero s at a h i e = absurd (omega arith)
laid (r ∷ rs) (suc n) s at a h i e =
    let f = front_found s at r rs a e in
    let b = at + 2 + length (cdr_enc r) in
    let l = sym (length-drop at s) ∙ ap length e in
    let d : drop b s ≡ list_enc rs =
    sym (drop-drop (length (cdr_enc r)) (at + 2) s) ∙ ap (drop (length (cdr_enc r))) (sym (drop-drop 2 at s) ∙ ap (drop 2) e)
    ∙ drop-append_seam (cdr_enc r) (list_enc rs) in
    let (p, q) = laid rs n s b a.1 (le_of_suc-le-suc h) (omega (arith, length-append (cdr_enc r) (list_enc rs))) d in
    (one_more s at (at + 2, b) f n ∙ ap (λ (l : List (ℕ × ℕ)). (at + 2, b) ∷ l) p, goes_on_lem s at (at + 2, b) f n ∙ q)

laid_length : (at : ℕ) (rs : List Cdr) → length (laid_from at rs) ≡ length rs
unfolding laid_from
laid_length at [] = refl
laid_length at (r ∷ rs) = ap suc (laid_length (at + 2 + length (cdr_enc r)) rs)

-- Stepping by marks and lengths alone finds each record of the list where it lies, and nothing else: the answer of a walk over the entries
-- equals the one from reading it all.
pub record InFull (s : List ℕ) (rs : List Cdr) : Type 0 where
  pub places : places_of s ≡ laid_from 0 rs
  pub stop : stop_of s ≡ length s
  pub reads : read_each s (places_of s) ≡ Some rs
  pub count : count_of s ≡ length rs

pub in_full : (s : List ℕ) (rs : List Cdr) → record_list s ≡ Some rs → InFull s rs
unfolding record_list places_of stop_of count_of
in_full s rs e =
    let (a, w) = reads_list (length s) s rs e in
    let (p, q) = laid rs (length s) s 0 a (omega (arith, list_long rs, ap length w)) (omega arith) w in
    record {
      places = p;
      stop = q;
      reads = sym (by_steps s ∙ rw (eq-eqb (stop_from (length s) s 0) (length s) q)) ∙ e;
      count = ap length p ∙ laid_length 0 rs;
    }

-- as many entries as records are counted in the octets of a list of records within the rules
pub count_of_list : (rs : List Cdr) → AllRight rs → count_of (list_enc rs) ≡ length rs
count_of_list rs a = (in_full (list_enc rs) rs (list_reads rs a)).count
