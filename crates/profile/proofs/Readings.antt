-- The first bad line, row by row, and what the text then says.
use mathlib.Core.Path.{◌≡◌, refl, sym, ap, ◌∙◌}
use mathlib.Core.Bool.{true, false}
use mathlib.Core.List.{List, ◌++◌}
use Prim.Native.Nat.{ℕ, zero, suc, ◌+◌, ◌-◌, ◌≤◌, ◌<◌}
use native.Mathlib.Numerals.{add-one}
use native.Mathlib.Omega.{arith}
use lib.ListN.{length, drop, get_or, replicate, drop_of_length-le, length-append, length-replicate, get_or-replicate, get_or-append}
use lib.Seq.{drop-cons, get_or-append-add}
use lib.Dec.{eqb}
use Rattle.std.specs.Prelude.{Option, None, Some}
use Rattle.profile.specs.Cut.{feed, past}
use Rattle.profile.specs.Fault.{unless, or_bad}
use Rattle.profile.specs.Line.{lines_past, line_fault}
use Rattle.profile.specs.Sets.{limits_name, sets_in}
use Rattle.profile.specs.Text.{Row, sgsn_name, offset_name, node_name, set_row, end_rows, rows_of, first_bad}
use Rattle.profile.specs.Private.Rows.{last_row, row_at, row_fault}
use Rattle.profile.specs.declared.fault.BadLine.{BadLine}
use Rattle.profile.specs.declared.line.Kind.TheVariants.{Dotted, Three, Signed, Rest}
use Rattle.profile.specs.declared.fault.Fault.{Fault}
use Rattle.profile.specs.declared.fault.Fault.TheVariants.{More}
use Rattle.profile.proofs.Places.{sets_few}

-- ---- the text after some lines

-- t is what is left of s after i lines of n
pub record Passed (s : List ℕ) (n : ℕ) (t : List ℕ) (i : ℕ) : Type 0 where
  pub most : i ≤ n
  pub rest : (k : ℕ) → i + k ≡ n → lines_past k t ≡ lines_past n s

pub passed_none : (s : List ℕ) (n : ℕ) → Passed s n s 0
passed_none s n = record { most = omega arith; rest = λ k e. ap (λ (j : ℕ). lines_past j s) (omega arith) }

module _ {s : List ℕ} {n : ℕ} {t : List ℕ} {i : ℕ} (f : Passed s n t i) where
  pub passed_more : i < n → {u : List ℕ} → u ≡ past feed t → Passed s n u (i + 1)
  unfolding lines_past
  passed_more h e = record { most = omega arith; rest = λ k g. ap (lines_past k) e ∙ f.rest (suc k) (omega arith) }

  pub passed_end : n ≤ i → t ≡ lines_past n s
  unfolding lines_past
  passed_end h = f.rest 0 (omega (arith, f.most))

-- ---- the rows

among : (k i : ℕ) → i < k → get_or (replicate k set_row ++ end_rows) i last_row ≡ set_row
among k i h = get_or-append (replicate k set_row) end_rows last_row i (omega (arith, length-replicate k set_row)) ∙ get_or-replicate k i set_row last_row h

beyond : (k i j : ℕ) → i ≡ k + j → get_or (replicate k set_row ++ end_rows) i last_row ≡ get_or end_rows j last_row
beyond k i j e =
    let g : i ≡ length (replicate k set_row) + j = omega (arith, length-replicate k set_row) in
    ap (λ (n : ℕ). get_or (replicate k set_row ++ end_rows) n last_row) g ∙ get_or-append-add (replicate k set_row) end_rows j last_row

pub rows_long : (k : ℕ) → length (rows_of k) ≡ k + 3
rows_long k = omega (arith, length-append (replicate k set_row) end_rows, length-replicate k set_row)

module _ (s : List ℕ) (k i : ℕ) {f : Option Fault} where
  by_row : (r : Row) → row_at k i ≡ r → f ≡ line_fault r.name r.kind s → f ≡ row_fault k i s
  unfolding row_fault
  by_row r e g = rw e g

  pub row_first : i ≡ 0 → f ≡ line_fault sgsn_name Dotted s → f ≡ row_fault k i s
  unfolding row_fault
  row_first e g = rw e g

  pub row_set : (i ≡ 0 → ⊥) → i ≤ k → f ≡ line_fault limits_name Three s → f ≡ row_fault k i s
  row_set z h g =
      let e : i ≡ suc (i - 1) = omega arith in
      by_row set_row (ap (row_at k) e ∙ among k (i - 1) (omega arith)) g

  pub row_offset : i - k ≡ 1 → f ≡ line_fault offset_name Signed s → f ≡ row_fault k i s
  row_offset h g = let e : i ≡ suc k = omega arith in by_row _ (ap (row_at k) e ∙ beyond k k 0 (omega arith)) g

  pub row_last : k < i → (i - k ≡ 1 → ⊥) → f ≡ line_fault node_name Rest s → f ≡ row_fault k i s
  row_last h z g =
      let e : i ≡ suc (i - 1) = omega arith in
      by_row last_row (ap (row_at k) e ∙ beyond k (i - 1) (suc (i - k - 2)) (omega arith) ∙ last (i - k - 2)) g
    where
      last : (j : ℕ) → get_or end_rows (suc j) last_row ≡ last_row
      last zero = refl
      last (suc j) = refl

-- nothing is wrong with the first i lines of k sets, and t is what is left after them
pub record Clean (k : ℕ) (s t : List ℕ) (i : ℕ) : Type 0 where
  pub few : k ≤ 8
  pub most : i ≤ k + 3
  pub rest : first_bad (drop i (rows_of k)) (suc i) t ≡ first_bad (rows_of (sets_in s)) 1 s

pub clean_none : (s : List ℕ) {k : ℕ} → k ≡ sets_in s → Clean k s s 0
clean_none s e = record { few = omega (arith, sets_few s); most = omega arith; rest = ap (λ (k : ℕ). first_bad (rows_of k) 1 s) e }

module _ {k : ℕ} {s t : List ℕ} {i : ℕ} (c : Clean k s t i) where
  -- the next line
  next : i < k + 3 → or_bad (suc i) (row_fault k i t) (first_bad (drop (suc i) (rows_of k)) (suc (suc i)) (past feed t)) ≡ first_bad (rows_of (sets_in s)) 1 s
  unfolding first_bad row_fault
  next h = sym (rw (drop-cons (rows_of k) i last_row (omega (arith, rows_long k)))) ∙ c.rest

  module _ (h : i < k + 3) {f : Option Fault} (e : f ≡ row_fault k i t) where
    pub clean_stop : {a : Fault} → f ≡ Some a
        → ◌≡◌ {A = Option BadLine} (Some (record { line = i + 1; fault = a })) (first_bad (rows_of (sets_in s)) 1 s)
    unfolding or_bad
    clean_stop n = sym (rw (sym e ∙ n, add-one i)) ∙ next h

    pub clean_more : f ≡ None → {u : List ℕ} → u ≡ past feed t → Clean k s u (i + 1)
    unfolding or_bad
    clean_more n g = record { few = c.few; most = omega arith; rest = rw (g, add-one i) (sym (rw (sym e ∙ n)) ∙ next h) }

  -- after the last line
  end : k + 3 ≤ i → or_bad (k + 4) (unless (eqb (length t) 0) More None) None ≡ first_bad (rows_of (sets_in s)) 1 s
  unfolding first_bad
  end h =
      let e : k + 4 ≡ suc i = omega (arith, c.most) in
      rw e (sym (rw (drop_of_length-le (rows_of k) {i = i} (omega (arith, rows_long k)))) ∙ c.rest)

  pub clean_end : k + 3 ≤ i → eqb (length t) 0 ≡ true → None ≡ first_bad (rows_of (sets_in s)) 1 s
  unfolding or_bad unless
  clean_end h z = sym (rw z) ∙ end h

  pub clean_over : k + 3 ≤ i → eqb (length t) 0 ≡ false
      → ◌≡◌ {A = Option BadLine} (Some (record { line = k + 4; fault = More })) (first_bad (rows_of (sets_in s)) 1 s)
  unfolding or_bad unless
  clean_over h z = sym (rw z) ∙ end h
