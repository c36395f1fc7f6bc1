-- The location changes of a record, in the array that holds them: one more, none at all, and each to a place that is one.
use mathlib.Core.Path.{◌≡◌, refl}
use mathlib.Core.Bool.{true}
use mathlib.Core.List.{List, [], ◌∷◌, ◌++◌}
use Prim.Native.Nat.{ℕ, zero, suc, ◌+◌, ◌<◌}
use native.Mathlib.Numerals.{add-one}
use native.Mathlib.Omega.{arith}
use lib.ListN.{length, take, drop, set, get_or}
use lib.Seq.{drop-cons, drop-set-lt, take-suc-set}
use Rattle.format.proofs.Tests.{both}
use Rattle.format.proofs.Blanks.{are_blanks, many_length}
use Rattle.mcdr.specs.declared.Place.{Place}
use Rattle.mcdr.specs.declared.Change.{Change}
use Rattle.mcdr.specs.Change.{place_ok}
use Rattle.mcdr.specs.Changes.{place_now, is_blank, blanks, no_changes}
use Rattle.mcdr.specs.Rules.{all_places_ok}
use Rattle.mcdr.proofs.Padded.{blank}

-- ---- one more in the array

module _ (v : List Change) (n : ℕ) (c : Change) (h : n < length v) where
  pub used_more : take (n + 1) (set v n c) ≡ take n v ++ (c ∷ [])
  used_more = rw (add-one n, take-suc-set v n c h)

  pub unused_more : blanks (drop n v) ≡ true → blanks (drop (n + 1) (set v n c)) ≡ true
  unfolding blanks
  unused_more b =
      let w = rw (drop-cons v n c h) at b in
      rw (add-one n, drop-set-lt (suc n) v n c (omega arith)) (both (is_blank (get_or v n c)) (blanks (drop (suc n) v)) w).1

-- none at all
pub none_blank : (n : ℕ) → blanks (no_changes n) ≡ true
none_blank = are_blanks blank

pub none_many : (n : ℕ) → length (no_changes n) ≡ n
none_many = many_length blank

-- ---- the places

pub places_set : (v : List Change) (n : ℕ) (c : Change) → all_places_ok v ≡ true → place_ok c.place ≡ true → all_places_ok (set v n c) ≡ true
unfolding all_places_ok
places_set [] n c h k = refl
places_set (x ∷ v) zero c h k = rw (k, (both (place_ok x.place) (all_places_ok v) h).1)
places_set (x ∷ v) (suc n) c h k =
    let (a, b) = both (place_ok x.place) (all_places_ok v) h in
    rw (a, places_set v n c b k)

-- and so is the place in force
pub place_now_lem : (p : Place) (v : List Change) (n : ℕ) → place_ok p ≡ true → all_places_ok v ≡ true → place_ok (place_now p (take n v)) ≡ true
unfolding all_places_ok place_now
place_now_lem p v zero h k = h
place_now_lem p [] (suc n) h k = h
place_now_lem p (x ∷ v) (suc n) h k =
    let (a, b) = both (place_ok x.place) (all_places_ok v) k in
    place_now_lem x.place v n a b

pub none_placed : (n : ℕ) → all_places_ok (no_changes n) ≡ true
unfolding all_places_ok no_changes place_ok
none_placed zero = refl
none_placed (suc n) = none_placed n
