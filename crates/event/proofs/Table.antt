-- Laws of the table of kinds: its numbers, what holds of every row, and which row is that of a kind of the code's.
use mathlib.Core.Path.{◌≡◌, refl, sym, ap, ◌∙◌}
use mathlib.Core.Bool.{Bool, true, false, ◌&&◌}
use mathlib.Core.List.{List, [], ◌∷◌, map}
use Rattle.std.specs.Prelude.{Option, None, Some}
use Prim.Native.Nat.{ℕ, suc, ◌+◌, ◌≤◌, ◌<◌}
use native.Mathlib.Omega.{arith}
use lib.Dec.{leb, ltb, eqb}
use lib.ListN.{length}
use borrow.Author.Tests.{eqb-true, eqb-false, le-leb, lt-leb, lt-ltb, le-ltb, leb-true, leb-false}
use Rattle.format.proofs.Tests.{by}
use Rattle.event.specs.Fields.{kind_of}
use Rattle.event.specs.Kinds.{Kind, kinds, kind_in, row_of, is_row, the_row, no_kind}
use Rattle.event.specs.Rows.{known}
use Rattle.event.specs.Private.ByKind.{row_by}
use Rattle.event.specs.declared.kinds.Kind as C
use Rattle.event.specs.declared.kinds.Kind.TheVariants.{Activate, Traffic, Qos, Tariff, Release, Tick, Management}
use Rattle.event.specs.declared.kinds.Kind.TheVariants.{Attach, Location, ManageSubscriber, Detach, Replace}

-- ---- the numbers

pub in_order : map (λ (k : Kind). k.number) kinds ≡ 1 ∷ 2 ∷ 3 ∷ 4 ∷ 5 ∷ 6 ∷ 7 ∷ 8 ∷ 9 ∷ 10 ∷ 11 ∷ 12 ∷ []
unfolding kinds
in_order = refl

-- the rows' numbers are a and those after it
From : ℕ → List Kind → Type 0
From a [] = Unit {0}
From a (k ∷ ks) = (k.number ≡ a) × From (suc a) ks

-- a test of both ends, with the lower one moved up
moved : (a n b : ℕ) → (n ≡ a → ⊥) → (leb (suc a) n && ltb n b) ≡ (leb a n && ltb n b)
moved a n b h =
    by (leb a n) (λ e. rw (e, le-leb (suc a) n (omega (arith, leb-true a n e, h))))
    (λ e. rw (e, lt-leb (suc a) n (omega (arith, leb-false a n e))))

known_from : (a n : ℕ) (ks : List Kind) → From a ks → is_row (kind_in n ks) ≡ (leb a n && ltb n (a + length ks))
unfolding kind_in From
known_from a n [] r = by (leb a n) (λ e. rw (e, le-ltb n (a + 0) (omega (arith, leb-true a n e)))) (λ e. rw e)
known_from a n (k ∷ ks) r =
    let z : suc a + length ks ≡ a + suc (length ks) = omega arith in
    rw r.0
    (by (eqb n a)
    (λ e. let d = eqb-true n a e in rw (e, le-leb a n (omega arith), lt-ltb n (a + suc (length ks)) (omega arith)))
    (λ e. rw e (known_from (suc a) n ks r.1 ∙ moved a n (suc a + length ks) (eqb-false n a e) ∙ ap (λ (i : ℕ). leb a n && ltb n i) z)))

below_13 : (n : ℕ) → ltb n 13 ≡ leb n 12
below_13 n =
    by (leb n 12) (λ e. rw (e, lt-ltb n 13 (omega (arith, leb-true n 12 e)))) (λ e. rw (e, le-ltb n 13 (omega (arith, leb-false n 12 e))))

-- 01's words for a kind that there is, as W6 reads them: "kind not 1..12" is what the look-up does not find
pub known_is : (s : List ℕ) → known s ≡ (leb 1 (kind_of s) && leb (kind_of s) 12)
unfolding known kinds From
known_is s =
    known_from 1 (kind_of s) kinds (refl, (refl, (refl, (refl, (refl, (refl, (refl, (refl, (refl, (refl, (refl, (refl, tt))))))))))))
    ∙ ap (λ (t : Bool). leb 1 (kind_of s) && t) (below_13 (kind_of s))

-- ---- every row

-- what holds of each row
unfoldable pub Every : (Kind → Type 0) → List Kind → Type 0
Every P [] = Unit {0}
Every P (k ∷ ks) = P k × Every P ks

-- the row of any octets is one of these, or what stands in for it
row_in : (P : Kind → Type 0) (n : ℕ) (ks : List Kind) → Every P ks → P no_kind → P (the_row (kind_in n ks))
unfolding kind_in Every
row_in P n [] e z = z
row_in P n (k ∷ ks) e z = by (eqb n k.number) (λ t. rw t e.0) (λ t. rw t (row_in P n ks e.1 z))

pub row_else : (P : Kind → Type 0) (s : List ℕ) → Every P kinds → P no_kind → P (the_row (row_of s))
row_else P s e z = row_in P (kind_of s) kinds e z

-- of a known kind it is one of these
row_here : (P : Kind → Type 0) (n : ℕ) (ks : List Kind) → Every P ks → is_row (kind_in n ks) ≡ true → P (the_row (kind_in n ks))
unfolding kind_in Every
row_here P n [] e h = absurd (let z : ◌≡◌ {A = ℕ} 0 1 = cc in omega arith)
row_here P n (k ∷ ks) e h = by (eqb n k.number) (λ t. rw t e.0) (λ t. rw t (row_here P n ks e.1 (rw t at h)))

pub row_has : (P : Kind → Type 0) (s : List ℕ) → Every P kinds → known s ≡ true → P (the_row (row_of s))
unfolding known
row_has P s e h = row_here P (kind_of s) kinds e h

-- and has the number that the octets have
number_here : (n : ℕ) (ks : List Kind) → is_row (kind_in n ks) ≡ true → (the_row (kind_in n ks)).number ≡ n
unfolding kind_in
number_here n [] h = absurd (let z : ◌≡◌ {A = ℕ} 0 1 = cc in omega arith)
number_here n (k ∷ ks) h =
    by (eqb n k.number) (λ t. rw t (sym (eqb-true n k.number t))) (λ t. rw t (number_here n ks (rw t at h)))

pub row_number : (s : List ℕ) → known s ≡ true → (the_row (row_of s)).number ≡ kind_of s
unfolding known
row_number s h = number_here (kind_of s) kinds h

-- ---- the row of a kind of the code's

number_row : (k : C.Kind) → kind_in (row_by k).number kinds ≡ Some (row_by k)
unfolding kinds kind_in
number_row Activate = refl
number_row Traffic = refl
number_row Qos = refl
number_row Tariff = refl
number_row Release = refl
number_row Tick = refl
number_row Management = refl
number_row Attach = refl
number_row Location = refl
number_row ManageSubscriber = refl
number_row Detach = refl
number_row Replace = refl

none_of : (o : Option Kind) → is_row o ≡ false → o ≡ None
none_of None h = refl
none_of (Some k) h = absurd (let z : ◌≡◌ {A = ℕ} 0 1 = cc in omega arith)

-- the kind that its octet decodes as is the row of the octets
pub row_is : (s : List ℕ) (k : C.Kind) → (row_by k).number ≡ kind_of s → row_of s ≡ Some (row_by k)
row_is s k e = ap (λ (i : ℕ). kind_in i kinds) (sym e) ∙ number_row k

-- an octet that is none of 1 to 12 is no row's
pub row_none : (s : List ℕ) → (1 ≤ kind_of s → 12 < kind_of s) → row_of s ≡ None
unfolding known
row_none s h =
    let o = kind_of s in
    let g : (leb 1 o && leb o 12) ≡ false = by (leb 1 o) (λ a. rw (a, lt-leb o 12 (h (leb-true 1 o a)))) (λ a. rw a) in
    none_of (row_of s) (known_is s ∙ g)
