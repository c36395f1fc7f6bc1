-- Demands 1 and 2 of a call: over any node, any event octets and any lent buffer. `node::step::step` answers `step_of` (its promise); these
-- theorems say what that is.
use mathlib.Core.Path.{◌≡◌, refl, sym, ap, ◌∙◌}
use mathlib.Core.Bool.{Bool, true, false, ◌||◌, or-true, false≢true}
use mathlib.Core.List.{List, [], ◌∷◌, ◌++◌, map}
use Prim.Native.Nat.{ℕ}
use lib.ListN.{length, take, drop}
use lib.Dec.{eqb}
use borrow.Author.Tests.{ne_eqb, eq-eqb, eqb-true}
use Rattle.format.proofs.Tests.{by}
use Rattle.event.specs.Fields.{time_of}
use Rattle.event.specs.Rows.{Row, row, first_fit, rows}
use Rattle.history.specs.Lists.{All}
use Rattle.node.specs.declared.Node.{Node}
use Rattle.node.specs.Step.{said_of, node_after, output, refusals, outcome, step_of}

abbrev pub number_of : Row → ℕ
number_of (row k t) = k

abbrev Fits : Row → Type 0
Fits (row k t) = t ≡ true

abbrev Passes : Row → Type 0
Passes (row k t) = t ≡ false

-- ---- the table: each number is given exactly when its row fits and no earlier one does

-- a row, with those before it, none of which fits
pub record First (rs : List Row) (r : Row) : Type 0 where
  pub earlier : List Row
  pub later : List Row
  pub whole : rs ≡ earlier ++ (r ∷ later)
  pub none : All Passes earlier
  pub fits : Fits r

first_of : (rs ls : List Row) (r : Row) → All Passes rs → Fits r → first_fit (rs ++ (r ∷ ls)) ≡ number_of r
unfolding first_fit
first_of [] ls (row k t) a e = rw e
first_of (row j u ∷ rs) ls r a e = rw a.0 (first_of rs ls r a.1 e)

-- then it is given
pub given : (rs : List Row) (r : Row) → First rs r → first_fit rs ≡ number_of r
given rs r f = rw f.whole (first_of f.earlier f.later r f.none f.fits)

-- and only then: what is given, unless it is 0, is the number of such a row
pub record Given (rs : List Row) : Type 0 where
  pub the : Row
  pub first : First rs the
  pub number : first_fit rs ≡ number_of the

pub only_then : (rs : List Row) → (first_fit rs ≡ 0 → ⊥) → Given rs
unfolding first_fit
only_then [] z = absurd (z refl)
only_then (row k true ∷ rs) z = record {
  the = row k true;
  first = record { earlier = []; later = rs; whole = refl; none = tt; fits = refl };
  number = refl;
}
only_then (row k false ∷ rs) z =
    let g = only_then rs z in
    record {
      the = g.the;
      first = record {
        earlier = row k false ∷ g.first.earlier;
        later = g.first.later;
        whole = ap (λ (l : List Row). row k false ∷ l) g.first.whole;
        none = (refl, g.first.none);
        fits = g.first.fits;
      };
      number = g.number;
    }

-- k is one of these
abbrev pub among : ℕ → List ℕ → Bool
among k [] = false
among k (j ∷ js) = eqb k j || among k js

-- what is given is 0, or a number of the table
pub in_table : (rs : List Row) → among (first_fit rs) (0 ∷ map number_of rs) ≡ true
unfolding first_fit
in_table [] = refl
in_table (row k true ∷ rs) = rw (eq-eqb k k refl) (or-true (eqb k 0))
in_table (row k false ∷ rs) = one_more (eqb (first_fit rs) 0) (eqb (first_fit rs) k) (among (first_fit rs) (map number_of rs)) (in_table rs)
  where
    one_more : (a b c : Bool) → (a || c) ≡ true → (a || (b || c)) ≡ true
    one_more true b c e = refl
    one_more false b c e = rw e (or-true b)

-- and no other
pub not_given : (k : ℕ) (rs : List Row) → among k (0 ∷ map number_of rs) ≡ false → first_fit rs ≡ k → ⊥
not_given k rs h e = let t : among k (0 ∷ map number_of rs) ≡ true = ap (λ (j : ℕ). among j (0 ∷ map number_of rs)) (sym e) ∙ in_table rs in false≢true (sym h ∙ t)

module _ (n : Node) (s b : List ℕ) where
  -- ---- demand 1

  -- the table's numbers, in 01's order
  pub in_order : map number_of (refusals n s b) ≡ 13 ∷ 1 ∷ 2 ∷ 3 ∷ 4 ∷ 5 ∷ 6 ∷ 7 ∷ 18 ∷ 19 ∷ 8 ∷ 9 ∷ 10 ∷ 16 ∷ 15 ∷ 17 ∷ 11 ∷ []
  unfolding refusals
  in_order = refl

  -- its rows 1 to 5 are those by which `event::decode` refuses the octets alone
  pub of_octets : take 5 (drop 1 (refusals n s b)) ≡ rows s
  unfolding refusals rows
  of_octets = refl

  -- any call ends with the first fitting number of the table, or 0
  pub answered : (step_of n s b).0 ≡ first_fit (refusals n s b)
  unfolding step_of outcome
  answered =
      by (eqb (first_fit (refusals n s b)) 0)
      (λ e. rw e (sym (eqb-true (first_fit (refusals n s b)) 0 e)))
      (λ e. rw e)

  -- a refused call hands back the same node and an untouched buffer, and writes nothing
  pub refused : (k : ℕ) → first_fit (refusals n s b) ≡ k → (k ≡ 0 → ⊥) → step_of n s b ≡ (k, (n, (0, b)))
  unfolding step_of outcome
  refused k e z = rw (e, ne_eqb k 0 z)

  -- ---- demand 2

  -- an accepted one: the node after the event, its output from the buffer's start, all later octets as before
  pub accepted : first_fit (refusals n s b) ≡ 0
      → step_of n s b
      ≡ (
        0,
        (
          node_after n (time_of s) (said_of s),
          (
            length (output n (time_of s) (said_of s)),
            output n (time_of s) (said_of s) ++ drop
                (length (output n (time_of s) (said_of s))) b,
          ),
        ),
      )
  unfolding step_of outcome
  accepted e = rw e
