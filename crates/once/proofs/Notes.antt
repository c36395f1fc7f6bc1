-- A stored subscriber hears an event as its history says: of every history, and every event.
use mathlib.Core.Path.{◌≡◌, refl, sym, ap, ◌∙◌}
use mathlib.Core.Bool.{Bool, true, false, cond}
use Rattle.std.specs.Prelude.{Option, None, Some}
use mathlib.Core.List.{List, [], ◌∷◌, ◌++◌, append-nil}
use Prim.Native.Nat.{ℕ, suc, ◌+◌, ◌≤◌, ◌<◌}
use native.Mathlib.Numerals.{add-one}
use native.Mathlib.Omega.{arith}
use lib.Dec.{leb}
use lib.ListN.{length, set, length-append}
use borrow.Author.Tests.{le-leb, lt-leb, leb-true, leb-false}
use Rattle.format.proofs.Tests.{by}
use Rattle.mcdr.specs.declared.Place.{Place}
use Rattle.mcdr.specs.declared.Change.{Change}
use Rattle.mcdr.specs.Change.{same_place}
use Rattle.mcdr.specs.Changes.{padded, place_now, no_changes}
use Rattle.mcdr.proofs.Order.{place_more}
use Rattle.mcdr.proofs.Padded.{same_place_lem, take_padded, padded_length, padded_rest, padded_more}
use Rattle.profile.specs.declared.Profile.{Profile}
use Rattle.subscriber.specs.declared.Subscriber.{Subscriber}
use Rattle.subscriber.specs.declared.Notice.{Notice}
use Rattle.subscriber.specs.declared.Notice.TheVariants as N
use Rattle.subscriber.specs.Subscriber.{place_of}
use Rattle.subscriber.specs.Hear as node
use Rattle.history.specs.Lists.{is_some}
use Rattle.history.specs.History.{History, start, ◌▸◌∶◌, began_with}
use Rattle.history.specs.Records.{Rules, in_force, cause_for, since_opening, closes, running, stretches, stretches_at, closings, leaves}
use Rattle.history.proofs.Lists.{each_append, none≢some}
use Rattle.history.proofs.Records.{in_force_open, open_open}
use Rattle.history.proofs.Tables.{told, told_closing, told_change, told_plain}
use Rattle.once.specs.Charging.{time_in}
use Rattle.once.specs.Attaching.{Noted, moved, managed, detached, after, change, releases, changes_of, rules, imsi_of, locations, forms}
use Rattle.once.proofs.Hears.{numbers}

-- ---- what the node calls what is heard

abbrev pub notice : Noted → Notice
notice (moved q) = N.Moved q
notice managed = N.Managed
notice (detached cause) = N.Detached cause

abbrev pub R : Rules Place Noted
R = rules

-- ---- the open record of a history: fourteen changes at most, each of them listed, and the place that they come to

module _ (p : Profile) where
  abbrev pub listed : History Place Noted → List Change
  listed h = locations p (stretches R h)

  pub record Fine (r : History Place Noted) : Type 0 where
    pub few : changes_of r ≤ 14
    pub count : length (listed r) ≡ changes_of r
    pub placed : place_now (began_with r) (listed r) ≡ in_force R r

  -- the record of which r is the past goes on
  module _ (r : History Place Noted) (f : Fine r) (whole : since_opening R r ≡ r) (t : ℕ) where
    stayed : (q : Place) → same_place (in_force R r) q ≡ true → Fine (r ▸ t ∶ moved q)
    stayed q e =
        let same = same_place_lem (in_force R r) q e in
        let none-cut : stretches_at R r t (moved q) ≡ [] = rw (whole, e) in
        record {
          few = rw e f.few;
          count = rw (none-cut, append-nil, e) f.count;
          placed = rw (none-cut, append-nil) (f.placed ∙ same);
        }

    went : (q : Place) → same_place (in_force R r) q ≡ false → leb 15 (suc (changes_of r)) ≡ false → Fine (r ▸ t ∶ moved q)
    went q e k =
        let n = leb-false 15 (suc (changes_of r)) k in
        let one : stretches_at R r t (moved q) ≡ record { ran = running R r; time = t; event = moved q; condition = 0 } ∷ [] = rw (whole, e, k) in
        let c : Change = record { place = q; time = time_in p t } in
        let more : listed (r ▸ t ∶ moved q) ≡ listed r ++ (c ∷ []) = rw (one, each_append) in
        record {
          few = rw e (omega arith);
          count = rw (more, e) (length-append (listed r) (c ∷ []) ∙ omega (arith, f.count));
          placed = rw more (place_more c (began_with r) (listed r));
        }

    goes : (e : Noted) → cause_for R r t e ≡ None → Fine (r ▸ t ∶ e)
    goes (moved q) i =
        by (same_place (in_force R r) q) (λ e. stayed q e)
        (λ e. by (leb 15 (suc (changes_of r))) (λ k. let j : cause_for R r t (moved q) ≡ Some 19 = rw (e, k) in absurd (none≢some (sym i ∙ j))) (λ k. went q e k))
    goes managed i = absurd (none≢some (sym i))
    goes (detached cause) i = absurd (none≢some (sym i))

  anew : (t : ℕ) (q : Place) → Fine (start t q)
  unfolding place_now
  anew t q = record { few = omega arith; count = refl; placed = refl }

  next_fine : (h : History Place Noted) (t : ℕ) (e : Noted) → Fine (since_opening R h) → (o : Option ℕ) → cause_for R (since_opening R h) t e ≡ o
      → Fine (since_opening R (h ▸ t ∶ e))
  next_fine h t e f None i = rw i (goes (since_opening R h) f (open_open R h) t e i)
  next_fine h t e f (Some k) i = rw i (anew t (in_force R (h ▸ t ∶ e)))

  pub fine : (h : History Place Noted) → Fine (since_opening R h)
  fine (start t q) = anew t q
  fine (h ▸ t ∶ e) = next_fine h t e (fine h) _ refl

-- ---- the subscriber that is stored for a history

module _ (p : Profile) (n : ℕ) (h : History Place Noted) (t : ℕ) where
  abbrev past : History Place Noted
  past = since_opening R h

  abbrev cs : List Change
  cs = locations p (stretches R past)

  abbrev s : Subscriber
  s = (forms p).as_stored n (leaves R h)

  abbrev now : Place
  now = in_force R h

  ok : Fine p past
  ok = fine p h

  in_place : place_of s ≡ now
  unfolding place_of
  in_place = rw (take_padded cs) (ok.placed ∙ in_force_open R h)

  -- a place more
  abbrev next : Place → Change
  next q = record { place = q; time = time_in p t }

  room : length cs < 15
  room = omega (arith, ok.few, ok.count)

  filled : (q : Place) → set (padded cs) (length cs) (next q) ≡ padded (cs ++ (next q ∷ []))
  filled q =
      padded_more (padded cs) (length cs) (next q) (padded_length cs (omega (arith, room))) room (padded_rest cs)
      ∙ ap (λ (l : List Change). padded (l ++ (next q ∷ []))) (take_padded cs)

  longer : (q : Place) → length cs + 1 ≡ length (cs ++ (next q ∷ []))
  longer q = sym (length-append cs (next q ∷ []))

  -- the closings

  shut : (e : Noted) (k : ℕ) → change now e ≡ None → closes R h t e ≡ Some k → told R (forms p) n h t e ≡ record {
    next = cond (is_some (releases e)) None (Some (node.opened p (imsi_of n) t now (s.closed + 1)));
    out = node.record_of p s t k (is_some (releases e)) ∷ [];
  }
  unfolding node.record_of node.number_for no_changes
  shut e k c i =
      told_closing R (forms p) n h t e k i
      ∙ rw (numbers (closings R h) (is_some (releases e)), c, each_append, append-nil, add-one, kept e c)
    where
      kept : (e : Noted) → change now e ≡ None → after now e ≡ now
      kept (moved q) c = sym (same_place_lem now q (same (same_place now q) refl c))
        where
          same : (b : Bool) → same_place now q ≡ b → cond {A = Option ℕ} b None (Some 0) ≡ None → same_place now q ≡ true
          same true x i = x
          same false x i = absurd (none≢some (sym i))
      kept managed c = refl
      kept (detached cause) c = refl

  -- a change: the fifteenth, and one before it

  module _ (q : Place) (c : change now (moved q) ≡ Some 0) where
    full : closes R h t (moved q) ≡ Some 19 → told R (forms p) n h t (moved q) ≡ record {
      next = Some (node.opened p (imsi_of n) t q (s.closed + 1));
      out = node.record_of p (node.listed p s t q) t 19 false ∷ [];
    }
    unfolding node.record_of node.number_for node.listed no_changes
    full i = told_closing R (forms p) n h t (moved q) 19 i ∙ rw (c, each_append, add-one, filled q, longer q)

    one_more : closes R h t (moved q) ≡ None → told R (forms p) n h t (moved q) ≡ record { next = Some (node.listed p s t q); out = [] }
    unfolding node.listed
    one_more i = told_change R (forms p) n h t (moved q) 0 i c ∙ rw (each_append, filled q, longer q)

  stays : (q : Place) → same_place now q ≡ true → node.hear p s t (N.Moved q) ≡ told R (forms p) n h t (moved q)
  unfolding node.hear
  stays q e =
      let c : change now (moved q) ≡ None = rw e in
      let i : closes R h t (moved q) ≡ None = rw (in_force_open R h, e) in
      rw (in_place, e) (sym (told_plain R (forms p) n h t (moved q) i c))

  moves : (q : Place) → same_place now q ≡ false → node.hear p s t (N.Moved q) ≡ told R (forms p) n h t (moved q)
  unfolding node.hear node.closes_with node.fifteenth node.listed
  moves q e =
      let c : change now (moved q) ≡ Some 0 = rw e in
      let m = ok.count in
      by (leb 15 (suc (changes_of past)))
      (λ k.
      let i : closes R h t (moved q) ≡ Some 19 = rw (in_force_open R h, e, k) in
      let j : leb 15 (length cs + 1) ≡ true = le-leb 15 (length cs + 1) (omega (arith, leb-true 15 (suc (changes_of past)) k)) in
      rw (in_place, e, j) (sym (full q c i)))
      (λ k.
      let i : closes R h t (moved q) ≡ None = rw (in_force_open R h, e, k) in
      let j : leb 15 (length cs + 1) ≡ false = lt-leb 15 (length cs + 1) (omega (arith, leb-false 15 (suc (changes_of past)) k)) in
      rw (in_place, e, j) (sym (one_more q c i)))

  pub hears_told : (e : Noted) → node.hear p s t (notice e) ≡ told R (forms p) n h t e
  unfolding node.hear node.closes_with
  hears_told managed = rw in_place (sym (shut managed 20 refl refl))
  hears_told (detached cause) = sym (shut (detached cause) cause refl refl)
  hears_told (moved q) = by (same_place now q) (stays q) (moves q)
