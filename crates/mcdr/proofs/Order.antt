-- The rules between the changes of a record, and what they come to: how the loops find them, and what one change more does.
use mathlib.Core.Path.{◌≡◌, refl, sym, ap, ◌∙◌}
use mathlib.Core.Bool.{Bool, true, false, not, ◌&&◌}
use mathlib.Core.List.{List, [], ◌∷◌, ◌++◌}
use Prim.Native.Nat.{ℕ, zero, suc, ◌+◌, ◌-◌, ◌≤◌, ◌<◌}
use Rattle.std.specs.Prelude.{Some, None, slice_get}
use Rattle.std.proofs.lemmas.Option.{none-some, slice_get-get_or, slice_get_within, get_or_from_slice_get}
use native.Mathlib.Omega.{arith}
use lib.Dec.{leb, ltb, eqb}
use lib.ListN.{length, take, drop, get_or}
use lib.Seq.{drop-cons}
use native.Mathlib.Numerals.{add-one}
use borrow.Author.Tests.{leb-true, ltb-true, le-leb, lt-leb, eqb-true, eq-eqb}
use Rattle.format.proofs.Tests.{both}
use Rattle.calendar.specs.declared.Stamp.{Stamp}
use Rattle.calendar.specs.Stamp.{stamp_ok}
use Rattle.mcdr.specs.declared.Place.{Place}
use Rattle.mcdr.specs.declared.Change.{Change}
use Rattle.mcdr.specs.Change.{same_place, follows}
use Rattle.mcdr.specs.Changes.{changes_ok, last_time, place_now}
use Rattle.mcdr.specs.Private.List.{times_ok}

-- ---- what it is for a change to follow

pub record Follows (z from : ℕ) (p : Place) (c : Change) : Type 0 where
  pub other : same_place p c.place ≡ false
  pub time : stamp_ok c.time ≡ true
  pub order : from ≤ c.time.seconds
  pub zone : c.time.zone ≡ z

negated : (b : Bool) → not b ≡ true → b ≡ false
negated false h = refl
negated true h = sym h

pub follows_rules : (zone from : ℕ) (p : Place) (c : Change) → follows zone from p c ≡ true → Follows zone from p c
unfolding follows
follows_rules zone from p c h =
    let n = not (same_place p c.place) in
    let s = stamp_ok c.time in
    let o = leb from c.time.seconds in
    let (h₂, z) = both (n && s && o) (eqb c.time.zone zone) h in
    let (h₁, t) = both (n && s) o h₂ in
    let (a, b) = both n s h₁ in
    record {
      other = negated (same_place p c.place) a;
      time = b;
      order = leb-true from c.time.seconds t;
      zone = eqb-true c.time.zone zone z;
    }

pub follows_is : (zone from : ℕ) (p : Place) (c : Change) → Follows zone from p c → follows zone from p c ≡ true
unfolding follows
follows_is zone from p c f = rw (f.other, f.time, le-leb from c.time.seconds f.order, eq-eqb c.time.zone zone f.zone)

-- ---- one change more, at the end

module _ (c : Change) where
  pub changes_more : (zone from : ℕ) (p : Place) (cs : List Change)
      → changes_ok zone from p (cs ++ c ∷ []) ≡ (changes_ok zone from p cs && follows zone (last_time from cs) (place_now p cs) c)
  unfolding changes_ok last_time place_now
  changes_more zone from p [] = right (follows zone from p c)
    where
      right : (b : Bool) → (b && true) ≡ b
      right true = refl
      right false = refl
  changes_more zone from p (d ∷ cs) =
      ap (λ (b : Bool). follows zone from p d && b) (changes_more zone d.time.seconds d.place cs)
      ∙ sym (assoc (follows zone from p d) (changes_ok zone d.time.seconds d.place cs) (follows zone (last_time d.time.seconds cs)
      (place_now d.place cs) c))
    where
      assoc : (a b d : Bool) → ((a && b) && d) ≡ (a && (b && d))
      assoc true b d = refl
      assoc false b d = refl

  pub last_more : (t : ℕ) (cs : List Change) → last_time t (cs ++ c ∷ []) ≡ c.time.seconds
  unfolding last_time
  last_more t [] = refl
  last_more t (d ∷ cs) = last_more d.time.seconds cs

  pub place_more : (p : Place) (cs : List Change) → place_now p (cs ++ c ∷ []) ≡ c.place
  unfolding place_now
  place_more p [] = refl
  place_more p (d ∷ cs) = place_more d.place cs

-- the last is not before the opening
pub last_since : (zone from : ℕ) (p : Place) (cs : List Change) → changes_ok zone from p cs ≡ true → from ≤ last_time from cs
unfolding changes_ok last_time
last_since zone from p [] h = omega arith
last_since zone from p (c ∷ cs) h =
    let (f, g) = both (follows zone from p c) (changes_ok zone c.time.seconds c.place cs) h in
    omega (arith, (follows_rules zone from p c f).order, last_since zone c.time.seconds c.place cs g)

seconds_until : (t : Stamp) → stamp_ok t ≡ true → t.seconds < 3155760000
unfolding stamp_ok
seconds_until t s = ltb-true t.seconds 3155760000 (both (ltb t.seconds 3155760000) (leb t.zone 1560) s).0

-- and is at a time of the clock's, where the opening is
pub last_until : (zone from : ℕ) (p : Place) (cs : List Change) → changes_ok zone from p cs ≡ true → from < 3155760000 → last_time from cs < 3155760000
unfolding changes_ok last_time
last_until zone from p [] h u = u
last_until zone from p (c ∷ cs) h u =
    let (f, g) = both (follows zone from p c) (changes_ok zone c.time.seconds c.place cs) h in
    last_until zone c.time.seconds c.place cs g (seconds_until c.time (follows_rules zone from p c f).time)

-- some of the first are right where all are
pub changes_take : (zone from : ℕ) (p : Place) (n : ℕ) (cs : List Change) → changes_ok zone from p cs ≡ true → changes_ok zone from p (take n cs) ≡ true
unfolding changes_ok
changes_take zone from p zero cs h = refl
changes_take zone from p (suc n) [] h = refl
changes_take zone from p (suc n) (c ∷ cs) h =
    let (f, g) = both (follows zone from p c) (changes_ok zone c.time.seconds c.place cs) h in
    rw (f, changes_take zone c.time.seconds c.place n cs g)

-- each is at a time of the clock's
pub changes_times : (zone from : ℕ) (p : Place) (cs : List Change) → changes_ok zone from p cs ≡ true → times_ok cs ≡ true
unfolding changes_ok times_ok
changes_times zone from p [] h = refl
changes_times zone from p (c ∷ cs) h =
    let (f, g) = both (follows zone from p c) (changes_ok zone c.time.seconds c.place cs) h in
    rw ((follows_rules zone from p c f).time, changes_times zone c.time.seconds c.place cs g)

-- ---- the loop of `changes_ok`: what is left to look at, from a time and a place on, decides

pub order_next : (v : List Change) (zone from : ℕ) (p : Place) (i : ℕ) (d : Change) → i < length v
    → changes_ok zone from p (drop i v)
    ≡ (follows zone from p (get_or v i d) && changes_ok zone (get_or v i d).time.seconds (get_or v i d).place (drop (i + 1) v))
unfolding changes_ok
order_next v zone from p i d h = rw (drop-cons v i d h, add-one i) refl

module _ (n : ℕ) (b : Bool) where
  pub count_many : 15 < n → false ≡ (leb n 15 && b)
  count_many h = rw (lt-leb n 15 h)

  pub count_right : n ≤ 15 → {a : Bool} → a ≡ b → a ≡ (leb n 15 && b)
  count_right h e = rw (le-leb n 15 h) e

-- ---- the last of a list

nothing : (cs : List Change) → None ≡ slice_get cs (length cs - 1) → cs ≡ []
nothing [] e = refl
nothing (c ∷ cs) e = absurd (none-some _ (e ∙ slice_get-get_or (c ∷ cs) (length (c ∷ cs) - 1) c (omega arith)))

last_at : (t : ℕ) (cs : List Change) (i : ℕ) (d : Change) → length cs ≡ suc i → last_time t cs ≡ (get_or cs i d).time.seconds
unfolding last_time
last_at t [] i d h = absurd (omega arith)
last_at t (c ∷ []) zero d h = refl
last_at t (c ∷ []) (suc i) d h = absurd (omega arith)
last_at t (c ∷ b ∷ cs) zero d h = absurd (omega arith)
last_at t (c ∷ b ∷ cs) (suc i) d h = last_at c.time.seconds (b ∷ cs) i d (omega arith)

place_at : (p : Place) (cs : List Change) (i : ℕ) (d : Change) → length cs ≡ suc i → place_now p cs ≡ (get_or cs i d).place
unfolding place_now
place_at p [] i d h = absurd (omega arith)
place_at p (c ∷ []) zero d h = refl
place_at p (c ∷ []) (suc i) d h = absurd (omega arith)
place_at p (c ∷ b ∷ cs) zero d h = absurd (omega arith)
place_at p (c ∷ b ∷ cs) (suc i) d h = place_at c.place (b ∷ cs) i d (omega arith)

-- as a slice's `last` finds it
module _ (cs : List Change) (c : Change) (e : Some c ≡ slice_get cs (length cs - 1)) where
  is : get_or cs (length cs - 1) c ≡ c
  is = get_or_from_slice_get cs (length cs - 1) c c (sym e)

  more : length cs ≡ suc (length cs - 1)
  more = omega (arith, slice_get_within cs (length cs - 1) c (sym e))

  pub last_some : (t : ℕ) → c.time.seconds ≡ last_time t cs
  last_some t = sym (last_at t cs (length cs - 1) c more ∙ ap (λ (x : Change). x.time.seconds) is)

  pub place_some : (p : Place) → c.place ≡ place_now p cs
  place_some p = sym (place_at p cs (length cs - 1) c more ∙ ap (λ (x : Change). x.place) is)

module _ (cs : List Change) (e : None ≡ slice_get cs (length cs - 1)) where
  pub last_none : (t : ℕ) → t ≡ last_time t cs
  unfolding last_time
  last_none t = sym (ap (last_time t) (nothing cs e))

  pub place_none : (p : Place) → p ≡ place_now p cs
  unfolding place_now
  place_none p = sym (ap (place_now p) (nothing cs e))
