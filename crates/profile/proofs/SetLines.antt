-- The lines of the sets of limits, before any others: what is printed reads, and what reads is what is printed.
use mathlib.Core.Path.{◌≡◌, refl, sym, ap, ap₂, ◌∙◌}
use mathlib.Core.Bool.{false}
use mathlib.Core.List.{List, ◌∷◌, ◌++◌, map}
use Prim.Native.Nat.{ℕ, zero, suc, ◌≤◌}
use native.Mathlib.Omega.{arith}
use lib.ListN.{length, take, replicate}
use Rattle.limits.specs.declared.Limits.{Limits}
use Rattle.limits.specs.Limits.{no_limits}
use Rattle.profile.specs.Cut.{feed, space, has, past, begins}
use Rattle.profile.specs.Line.{lines_past}
use Rattle.profile.specs.Three.{limits_of}
use Rattle.profile.specs.Sets.{limits_name, limits_ahead, sets_in, limits_in}
use Rattle.profile.specs.Text.{Row, set_row}
use Rattle.profile.specs.Print.{limits_text, limits_tail, lines_of}
use Rattle.profile.specs.declared.line.Kind.TheVariants.{Three}
use Rattle.profile.proofs.Lines.{Tail, tail_is, Lines, line, line_past, line_value}
use Rattle.limits.proofs.Ranges.{LimitsHold}
use Rattle.profile.proofs.Ranges.{Sets, none, unused, used}
use Rattle.profile.proofs.Values.{three_is}
use Rattle.profile.proofs.Backs.{limits_back}

-- ---- one line

-- what follows it is read on
set_past : (t r : List ℕ) → Tail Three t → past feed ((limits_name ++ t) ++ feed ∷ r) ≡ r
unfolding has
set_past t r f = line_past limits_name t r Three refl refl f

set_in : (n k : ℕ) (t r : List ℕ) → Tail Three t → limits_in (suc n) (suc k) ((limits_name ++ t) ++ feed ∷ r) ≡ limits_of (past space t) ∷ limits_in n k r
unfolding limits_in has
set_in n k t r f =
    ap₂ {C = List Limits} (λ v u. limits_of v ∷ limits_in n k u) (line_value limits_name t r Three refl refl f) (set_past t r f)

set_tail : (l : Limits) → LimitsHold l → Tail Three (limits_tail l)
set_tail l h = let f = three_is l h in tail_is Three (limits_text l) refl f.value f.fault

set_said : (l : Limits) → LimitsHold l → limits_of (past space (limits_tail l)) ≡ l
unfolding past
set_said l h = (three_is l h).same

-- ---- the sets of a profile, and the lines ts of other rows after them

pub sets_long : {k : ℕ} {ls : List Limits} → Sets k ls → length (map limits_tail (take k ls)) ≡ k
sets_long none = refl
sets_long (unused ls s) = refl
sets_long (used k l ls h s) = ap suc (sets_long s)

module _ {rs : List Row} {ts : List (List ℕ)} (e : Lines rs ts) where
  abbrev text : ℕ → List Limits → List ℕ
  text k ls = lines_of (replicate k set_row ++ rs) (map limits_tail (take k ls) ++ ts)

  pub set_lines : {k : ℕ} {ls : List Limits} → Sets k ls → Lines (replicate k set_row ++ rs) (map limits_tail (take k ls) ++ ts)
  unfolding has
  set_lines none = e
  set_lines (unused ls s) = e
  set_lines (used k l ls h s) = line set_row _ (limits_tail l) _ refl refl (set_tail l h) (set_lines s)

  pub sets_read : {k : ℕ} {ls : List Limits} → Sets k ls → limits_in (length ls) k (text k ls) ≡ ls
  unfolding limits_in lines_of
  sets_read none = refl
  sets_read (unused ls s) = ap (◌∷◌ no_limits) (sets_read s)
  sets_read (used k l ls h s) =
      set_in (length ls) k (limits_tail l) (text k ls) (set_tail l h) ∙ ap₂ {C = List Limits} (λ x y. x ∷ y) (set_said l h) (sets_read s)

  -- where the line after them is none of a set, they are counted
  module _ (other : begins limits_name (lines_of rs ts) ≡ false) where
    ahead_none : (n : ℕ) → limits_ahead n (lines_of rs ts) ≡ 0
    unfolding limits_ahead
    ahead_none zero = refl
    ahead_none (suc n) = rw other

    pub sets_ahead : {k : ℕ} {ls : List Limits} → Sets k ls → (n : ℕ) → k ≤ n → limits_ahead n (text k ls) ≡ k
    unfolding limits_ahead lines_of begins
    sets_ahead none n h = ahead_none n
    sets_ahead (unused ls s) n h = ahead_none n
    sets_ahead (used k l ls o s) zero h = absurd (omega arith)
    sets_ahead (used k l ls o s) (suc n) h =
        ap (λ (u : List ℕ). suc (limits_ahead n u)) (set_past (limits_tail l) (text k ls) (set_tail l o)) ∙ ap suc (sets_ahead s n (omega arith))

    -- in a text, after one line
    pub sets_count : {k : ℕ} {ls : List Limits} → Sets k ls → (s : List ℕ) → past feed s ≡ text k ls → 1 ≤ k → k ≤ 8 → sets_in s ≡ k
    unfolding sets_in lines_past lines_of
    sets_count none s g h m = absurd (omega arith)
    sets_count (unused ls u) s g h m = absurd (omega arith)
    sets_count (used k l ls o u) s g h m =
        ap (λ (v : List ℕ). suc (limits_ahead 7 (past feed v))) g
        ∙ ap (λ (v : List ℕ). suc (limits_ahead 7 v)) (set_past (limits_tail l) (text k ls) (set_tail l o))
        ∙ ap suc (sets_ahead u 7 (omega arith))

-- ---- and back

first_used : {k : ℕ} {l : Limits} {ls : List Limits} → Sets (suc k) (l ∷ ls) → LimitsHold l × Sets k ls
first_used (used k l ls h s) = (h, s)

-- lines that are those of the sets, and the lines of other rows after them
pub record Split (k : ℕ) (ls : List Limits) (rs : List Row) (ts : List (List ℕ)) : Type 0 where
  pub rest : List (List ℕ)
  pub same : ts ≡ map limits_tail (take k ls) ++ rest
  pub lines : Lines rs rest

pub split : (n k : ℕ) (rs : List Row) (ts : List (List ℕ)) → k ≤ n → Lines (replicate k set_row ++ rs) ts
    → Sets k (limits_in n k (lines_of (replicate k set_row ++ rs) ts)) → Split k (limits_in n k (lines_of (replicate k set_row ++ rs) ts)) rs ts
unfolding lines_of
split n zero rs ts h e s = record { rest = ts; same = refl; lines = e }
split zero (suc k) rs ts h e s = absurd (omega arith)
split (suc n) (suc k) rs _ h (line _ _ t ts _ _ f e) s =
    let r = lines_of (replicate k set_row ++ rs) ts in
    let i = set_in n k t r f in
    let (o, g) = first_used (rw i at s) in
    let b = split n k rs ts (omega arith) e g in
    rw i (record { rest = b.rest; same = ap₂ {C = List (List ℕ)} (λ x y. x ∷ y) (sym (limits_back t f o)) b.same; lines = b.lines })
