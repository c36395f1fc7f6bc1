-- The lines of a table, for any rows: what is printed reads, and what reads is what is printed.
use mathlib.Core.Path.{◌≡◌, refl, sym, ap, ◌∙◌}
use mathlib.Core.Bool.{Bool, true, false, not, ◌&&◌}
use mathlib.Core.List.{List, [], ◌∷◌, ◌++◌}
use Prim.Native.Nat.{ℕ, zero, suc, ◌+◌, ◌≤◌}
use native.Mathlib.Omega.{arith}
use lib.Dec.{leb, eqb}
use lib.ListN.{length, drop, get_or, length-append}
use lib.Seq.{drop-append_seam}
use borrow.Author.Tests.{le-leb, eqb-true, ne_eqb, not-true}
use Rattle.profile.specs.Cut.{feed, space, has, up_to, past, begins}
use Rattle.profile.specs.Fault.{unless, or_bad}
use Rattle.profile.specs.Line.{lines_past, tail_of, value_of, value_at, one_space, spaced, value_fault, line_fault}
use Rattle.std.specs.Prelude.{None, IfSome}
use Rattle.profile.specs.Text.{Row, first_bad}
use Rattle.profile.specs.Print.{lines_of}
use Rattle.profile.specs.declared.line.Kind.{Kind}
use Rattle.profile.specs.declared.fault.Fault.TheVariants.{Missing, End, Name, Space, More}
use Rattle.profile.proofs.Firsts.{clash, both, unless_met, met_unless, none_bad, Within, bad_within}
use Rattle.profile.proofs.Marks.{absent_both, clear_after, past_beyond, has_here, up_to_here, past_here, up_to_clear, cut_is, begins_here, begins_is}

-- ---- a line

-- what may follow a name whose value is of the kind
pub record Tail (k : Kind) (t : List ℕ) : Type 0 where
  pub clear : has feed t ≡ false
  pub lead : spaced k t ≡ true
  pub fault : value_fault k (past space t) ≡ None

module _ (name t r : List ℕ) (k : Kind) (a : has feed name ≡ false) (b : has space name ≡ false) (f : Tail k t) where
  line_clear : has feed (name ++ t) ≡ false
  line_clear = absent_both feed name t a f.clear

  line_up : up_to feed ((name ++ t) ++ feed ∷ r) ≡ name ++ t
  line_up = up_to_here feed r (name ++ t) line_clear

  pub line_past : past feed ((name ++ t) ++ feed ∷ r) ≡ r
  line_past = past_here feed r (name ++ t) line_clear

  pub line_value : value_of ((name ++ t) ++ feed ∷ r) ≡ past space t
  line_value = ap (past space) line_up ∙ past_beyond space name t b

  pub line_none : line_fault name k ((name ++ t) ++ feed ∷ r) ≡ None
  unfolding line_fault
  line_none =
      let tail = ap (drop (length name)) line_up ∙ drop-append_seam name t in
      unless_met Missing (le-leb 1 (length ((name ++ t) ++ feed ∷ r)) (omega (arith, length-append (name ++ t) (feed ∷ r))))
      (unless_met End (has_here feed r (name ++ t))
      (unless_met Name (ap (begins name) line_up ∙ begins_here name t)
      (unless_met Space (ap (λ (l : List ℕ). spaced k l) tail ∙ f.lead)
      (ap (λ (l : List ℕ). value_fault k l) line_value ∙ f.fault))))

-- a line that reads
pub record Told (name : List ℕ) (k : Kind) (s : List ℕ) : Type 0 where
  pub text : s ≡ (name ++ tail_of name s) ++ feed ∷ past feed s
  pub tail : Tail k (tail_of name s)

pub line_told : (name s : List ℕ) (k : Kind) → has space name ≡ false → line_fault name k s ≡ None → Told name k s
unfolding line_fault
line_told name s k b e =
    let g4 = value_fault k (value_of s) in
    let g3 = unless (spaced k (tail_of name s)) Space g4 in
    let g2 = unless (begins name (up_to feed s)) Name g3 in
    let (a, e1) = met_unless (leb 1 (length s)) Missing (unless (has feed s) End g2) e in
    let (c, e2) = met_unless (has feed s) End g2 e1 in
    let (d, e3) = met_unless (begins name (up_to feed s)) Name g3 e2 in
    let (f, e4) = met_unless (spaced k (tail_of name s)) Space g4 e3 in
    let u : up_to feed s ≡ name ++ tail_of name s = begins_is name (up_to feed s) d in
    let v : value_of s ≡ past space (tail_of name s) = ap (past space) u ∙ past_beyond space name (tail_of name s) b in
    record {
      text = cut_is feed s c ∙ ap (λ (l : List ℕ). l ++ feed ∷ past feed s) u;
      tail =
          record {
            clear = clear_after feed name (tail_of name s) (ap (has feed) (sym u) ∙ up_to_clear feed s);
            lead = f;
            fault = ap (λ (l : List ℕ). value_fault k l) (sym v) ∙ e4;
          };
    }

-- ---- a space and a value

-- no line feed in it, and no space in front
pub record Value (v : List ℕ) : Type 0 where
  pub clear : has feed v ≡ false
  pub first : get_or v 0 0 ≡ space → ⊥

pub tail_is : (k : Kind) (v : List ℕ) → spaced k (space ∷ v) ≡ one_space (space ∷ v) → Value v → value_fault k v ≡ None → Tail k (space ∷ v)
unfolding has past
tail_is k v e f g = record { clear = f.clear; lead = e ∙ rw (ne_eqb (get_or v 0 0) space f.first); fault = g }

lead_one : (t : List ℕ) → one_space t ≡ true → t ≡ space ∷ past space t
unfolding past
lead_one [] e = clash e refl
lead_one (x ∷ t) e =
    let (a, b) = both (eqb x space) (not (eqb (get_or t 0 0) space)) e in
    rw a (ap (λ (z : ℕ). z ∷ t) (eqb-true x space a))

-- printed so, where what the value says is printed as the value
pub spaced_back : (f : List ℕ → List ℕ) (v t : List ℕ) → one_space t ≡ true → v ≡ past space t → f (past space t) ≡ past space t
    → space ∷ f v ≡ t
spaced_back f v t o e g = ap (λ (w : List ℕ). space ∷ f w) e ∙ ap (◌∷◌ space) g ∙ sym (lead_one t o)

-- ---- the lines of the rows

pub data Lines : List Row → List (List ℕ) → Type 0 where
  last : Lines [] []
  line : (r : Row) (rs : List Row) (t : List ℕ) (ts : List (List ℕ)) → has feed r.name ≡ false → has space r.name ≡ false → Tail r.kind t
      → Lines rs ts → Lines (r ∷ rs) (t ∷ ts)

pub reads : (n : ℕ) {rs : List Row} {ts : List (List ℕ)} → Lines rs ts → first_bad rs n (lines_of rs ts) ≡ None
unfolding first_bad lines_of or_bad unless
reads n last = refl
reads n (line r rs t ts a b f g) =
    rw (line_none r.name t (lines_of rs ts) r.kind a b f, line_past r.name t (lines_of rs ts) r.kind a b f, reads (suc n) g)

nothing : (i : ℕ) → value_at i [] ≡ []
unfolding lines_past past up_to
nothing zero = refl
nothing (suc i) = nothing i

pub value_at_lem : {rs : List Row} {ts : List (List ℕ)} → Lines rs ts → (i : ℕ) → value_at i (lines_of rs ts) ≡ past space (get_or ts i [])
unfolding lines_of lines_past past
value_at_lem last i = nothing i
value_at_lem (line r rs t ts a b f g) zero = line_value r.name t (lines_of rs ts) r.kind a b f
value_at_lem (line r rs t ts a b f g) (suc i) =
    ap (λ (l : List ℕ). value_at i l) (line_past r.name t (lines_of rs ts) r.kind a b f) ∙ value_at_lem g i

-- ---- and back

-- no name has a line feed or a space in it
unfoldable pub named : List Row → Bool
named [] = true
named (r ∷ rs) = not (has feed r.name) && (not (has space r.name) && named rs)

pub record Back (rs : List Row) (s : List ℕ) : Type 0 where
  pub tails : List (List ℕ)
  pub text : s ≡ lines_of rs tails
  pub lines : Lines rs tails

empty : (l : List ℕ) → eqb (length l) 0 ≡ true → l ≡ []
empty [] e = refl
empty (x ∷ l) e = absurd (omega (arith, eqb-true (length (x ∷ l)) 0 e))

pub back : (rs : List Row) → named rs ≡ true → (n : ℕ) (s : List ℕ) → first_bad rs n s ≡ None → Back rs s
unfolding first_bad lines_of named
back [] m n s e =
    let (f, g) = none_bad n (unless (eqb (length s) 0) More None) None e in
    record { tails = []; text = empty s (met_unless (eqb (length s) 0) More None f).0; lines = last }
back (r ∷ rs) m n s e =
    let (a, x) = both (not (has feed r.name)) (not (has space r.name) && named rs) m in
    let (b, y) = both (not (has space r.name)) (named rs) x in
    let (f, g) = none_bad n (line_fault r.name r.kind s) (first_bad rs (suc n) (past feed s)) e in
    let w = line_told r.name s r.kind (not-true _ b) f in
    let u = back rs y (suc n) (past feed s) g in
    record {
      tails = tail_of r.name s ∷ u.tails;
      text = w.text ∙ ap (λ (l : List ℕ). (r.name ++ tail_of r.name s) ++ feed ∷ l) u.text;
      lines = line r rs (tail_of r.name s) u.tails (not-true _ a) (not-true _ b) w.tail u.lines;
    }

-- ---- the first bad line's number

pub first_within : (m : ℕ) (rs : List Row) (n : ℕ) (s : List ℕ) → 1 ≤ n → n + length rs ≤ m → IfSome (first_bad rs n s) (Within m)
unfolding first_bad
first_within m [] n s h k = bad_within m n _ None h (omega arith) tt
first_within m (r ∷ rs) n s h k =
    bad_within m n _ (first_bad rs (suc n) (past feed s)) h (omega arith) (first_within m rs (suc n) (past feed s) (omega arith) (omega arith))
