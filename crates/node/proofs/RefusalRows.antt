-- Rows of the refusal table one after another: those of the event's octets, and those after them.
use mathlib.Core.Path.{◌≡◌, refl, sym}
use mathlib.Core.Bool.{true, false, not, ◌||◌}
use mathlib.Core.List.{List, [], ◌∷◌, ◌++◌}
use Prim.Native.Nat.{ℕ}
use native.Mathlib.Omega.{arith}
use lib.Dec.{leb, ltb}
use lib.ListN.{length}
use Rattle.event.specs.Fields.{time_of}
use Rattle.event.specs.Rows.{Row, row, first_fit, rows}
use Rattle.history.specs.Table.{not_active, is_active, all_taken}
use Rattle.node.specs.declared.Node.{Node}
use Rattle.node.specs.Sound.{sound, latest, most_accepted}
use Rattle.node.specs.Step.{Words, handling, subscribing, slots, places, output, said_of, unknown_set, other_edition, refusals}

-- ---- the table in parts

-- 18 and 19, then 8 to 11 with 15 to 17, by what an event says
unfoldable pub table_rows : Node → ℕ → Words → List ℕ → List Row
table_rows n t w b =
    row 18 (unknown_set n.profile.sets w.set)
    ∷ row 19 (other_edition n.settings w.replaces)
    ∷ row 8 (not_active (handling n.profile) w.contexts (slots n))
    ∷ row 9 (is_active (handling n.profile) w.contexts (slots n))
    ∷ row 10 (all_taken (handling n.profile) w.contexts (slots n))
    ∷ row 16 (not_active (subscribing n.profile) w.subscribers (places n))
    ∷ row 15 (is_active (subscribing n.profile) w.subscribers (places n))
    ∷ row 17 (all_taken (subscribing n.profile) w.subscribers (places n))
    ∷ row 11 (ltb (length b) (length (output n t w)))
    ∷ []

-- 6 and 7, and what follows
unfoldable pub later_rows : Node → ℕ → Words → List ℕ → List Row
later_rows n t w b =
    row 6 (ltb latest t || ltb t n.clock)
    ∷ row 7 (leb most_accepted n.accepted)
    ∷ table_rows n t w b

-- 13, then the rows by which the event's octets are refused alone, then the later ones
pub parted : (n : Node) (s b : List ℕ) → refusals n s b ≡ row 13 (not (sound n)) ∷ (rows s ++ later_rows n (time_of s) (said_of s) b)
unfolding refusals rows later_rows table_rows
parted n s b = refl

-- ---- rows before others

-- none has the number 0, which says that no row fits
abbrev pub Numbered : List Row → Type 0
Numbered [] = Unit {0}
Numbered (row n t ∷ rs) = (n ≡ 0 → ⊥) × Numbered rs

pub numbered_rows : (s : List ℕ) → Numbered (rows s)
unfolding rows
numbered_rows s = ((λ e. omega arith), ((λ e. omega arith), ((λ e. omega arith), ((λ e. omega arith), ((λ e. omega arith), tt)))))

pub fit_more : (rs ls : List Row) → Numbered rs → first_fit rs ≡ 0 → first_fit (rs ++ ls) ≡ first_fit ls
unfolding first_fit
fit_more [] ls z e = refl
fit_more (row n true ∷ rs) ls z e = absurd (z.0 e)
fit_more (row n false ∷ rs) ls z e = fit_more rs ls z.1 e

pub fit_first : (rs ls : List Row) (k : ℕ) → first_fit rs ≡ k → (k ≡ 0 → ⊥) → first_fit (rs ++ ls) ≡ k
unfolding first_fit
fit_first [] ls k e z = absurd (z (sym e))
fit_first (row n true ∷ rs) ls k e z = e
fit_first (row n false ∷ rs) ls k e z = fit_first rs ls k e z

-- where none of all fits, none of the first and none of the others does
pub none_fits : (rs ls : List Row) → Numbered rs → first_fit (rs ++ ls) ≡ 0 → (first_fit rs ≡ 0) × (first_fit ls ≡ 0)
unfolding first_fit
none_fits [] ls z e = (refl, e)
none_fits (row k true ∷ rs) ls z e = absurd (z.0 e)
none_fits (row k false ∷ rs) ls z e = none_fits rs ls z.1 e
