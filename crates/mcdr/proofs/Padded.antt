-- Changes in an array of 15 places, those that are not used blank; when two places are the same.
use mathlib.Core.Path.{◌≡◌, refl, sym}
use mathlib.Core.Bool.{true, ◌&&◌}
use mathlib.Core.List.{List, [], ◌∷◌, ◌++◌}
use Prim.Native.Nat.{ℕ, suc, ◌≤◌, ◌<◌}
use lib.Dec.{eqb}
use lib.ListN.{length, take, drop, set}
use borrow.Author.Tests.{eqb-true, eq-eqb}
use Rattle.format.proofs.Tests.{both}
use Rattle.format.proofs.Blanks as blanks
use Rattle.mcdr.specs.declared.Place.{Place}
use Rattle.mcdr.specs.declared.Change.{Change}
use Rattle.mcdr.specs.Change.{same_place, no_place, no_change}
use Rattle.mcdr.specs.Changes.{is_blank, blanks, no_changes, padded}

-- two places of which each code is the same are one
pub same_place_lem : (p q : Place) → same_place p q ≡ true → p ≡ q
unfolding same_place
same_place_lem p q h =
    let (l, r) = both (eqb p.lac q.lac) (eqb p.rac q.rac) h in
    let lac = eqb-true p.lac q.lac l in
    let rac = eqb-true p.rac q.rac r in
    λ i. record { lac = lac i; rac = rac i }

pub place_same : (p : Place) → same_place p p ≡ true
unfolding same_place
place_same p = rw (eq-eqb p.lac p.lac refl, eq-eqb p.rac p.rac refl)

-- a change of which every field is zero is the blank one
pub is_blank_lem : (c : Change) → is_blank c ≡ true → c ≡ no_change
unfolding is_blank
is_blank_lem c h =
    let (h₁, z) = both (same_place c.place no_place && eqb c.time.seconds 0) (eqb c.time.zone 0) h in
    let (p, s) = both (same_place c.place no_place) (eqb c.time.seconds 0) h₁ in
    let place = same_place_lem c.place no_place p in
    let seconds = eqb-true c.time.seconds 0 s in
    let zone = eqb-true c.time.zone 0 z in
    λ i. record { place = place i; time = record { seconds = seconds i; zone = zone i } }

pub blank_is : is_blank no_change ≡ true
unfolding is_blank same_place
blank_is = refl

pub all_nil : blanks [] ≡ true
unfolding blanks
all_nil = refl

pub all_cons : (c : Change) (cs : List Change) → blanks (c ∷ cs) ≡ (is_blank c && blanks cs)
unfolding blanks
all_cons c cs = refl

pub no_none : no_changes 0 ≡ []
unfolding no_changes
no_none = refl

pub no_more : (n : ℕ) → no_changes (suc n) ≡ no_change ∷ no_changes n
unfolding no_changes
no_more n = refl

-- what the laws of such arrays are about
abbrev pub blank : blanks.Blank Change
blank = record {
  value = no_change;
  is = is_blank;
  all = blanks;
  many = no_changes;
  self = blank_is;
  told = is_blank_lem;
  nil = all_nil;
  cons = all_cons;
  none = no_none;
  more = no_more;
}

-- places are all blank where they hold as many blank changes
pub blanks_are : (cs : List Change) → blanks cs ≡ true → cs ≡ no_changes (length cs)
blanks_are = blanks.blanks_are blank

-- what was filled up is the front again, and a front with the rest blank fills up to the whole

pub take_padded : (cs : List Change) → take (length cs) (padded cs) ≡ cs
take_padded = blanks.take_filled blank 15

pub padded_length : (cs : List Change) → length cs ≤ 15 → length (padded cs) ≡ 15
padded_length = blanks.filled_length blank 15

pub padded_rest : (cs : List Change) → blanks (drop (length cs) (padded cs)) ≡ true
padded_rest = blanks.filled_rest blank 15

pub padded_take : (n : ℕ) (v : List Change) → length v ≡ 15 → n ≤ 15 → drop n v ≡ no_changes (length (drop n v)) → padded (take n v) ≡ v
padded_take = blanks.filled_take blank 15

pub padded_used : (v : List Change) (n : ℕ) → length v ≡ 15 → n ≤ 15 → blanks (drop n v) ≡ true → v ≡ padded (take n v)
padded_used v n size h b = sym (blanks.filled_used blank 15 n v size h b)

-- one change more
pub padded_more : (v : List Change) (n : ℕ) (c : Change) → length v ≡ 15 → n < 15 → blanks (drop n v) ≡ true → set v n c ≡ padded (take n v ++ (c ∷ []))
padded_more v n c size h b = blanks.filled_more blank 15 n v c size h b
