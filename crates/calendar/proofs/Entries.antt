-- The table that the calendar makes: the code's must be this one, entry for entry, which antt computes.
use mathlib.Core.Path.{◌≡◌, sym, ap, ◌∙◌}
use mathlib.Core.List.{List, [], ◌∷◌}
use Prim.Native.Nat.{ℕ, zero, suc, ◌+◌, ◌<◌}
use native.Mathlib.Nat.{le_of_suc-le-suc, not-suc-le-zero, zero-add, add-zero, add-suc, suc-add}
use native.Mathlib.Omega.{arith}
use lib.ListN.{get_or}
use Rattle.calendar.specs.Month.{month_len, first_day}
use Rattle.calendar.specs.Private.Bound.{Is}
use Rattle.calendar.specs.Private.Table.{Table}
use Rattle.calendar.proofs.Months.{start, next, end, below}

-- the days on which month k and those after it begin, n in all, where month k begins on day f
unfoldable pub days : ℕ → ℕ → ℕ → List ℕ
days zero k f = []
days (suc n) k f = f ∷ days n (suc k) (f + month_len k)

from : (n k f : ℕ) → f ≡ first_day k → (i : ℕ) → i < n → get_or (days n k f) i 0 ≡ first_day (k + i)
unfolding days
from zero k f e i h = absurd (not-suc-le-zero h)
from (suc n) k f e zero h = e ∙ ap first_day (sym (add-zero k))
from (suc n) k f e (suc i) h =
    from n (suc k) (f + month_len k) (ap (λ (x : ℕ). x + month_len k) e ∙ sym (next k)) i (le_of_suc-le-suc h)
    ∙ ap first_day (suc-add k i ∙ sym (add-suc k i))

-- so what is this list, entry for entry, is the calendar's table
pub table_of : (l : List ℕ) → l ≡ days 1200 0 0 → Table l
table_of l e = record { begins = λ k h. ap (λ (m : List ℕ). get_or m k 0) e ∙ from 1200 0 0 start k h ∙ ap first_day (zero-add k) }

-- ---- a look at it

pub look : (l : List ℕ) → Table l → (m : ℕ) {r : ℕ} → m < 1200 → r ≡ get_or l m 0 → Is (first_day m) 36525 r
look l t m h e = let s = e ∙ t.begins m h in record { same = s; most = omega (arith, below m (omega arith)) }

-- past all entries: the day after 2099
pub after_all : (m : ℕ) → m ≡ 1200 → Is (first_day m) 36525 36525
after_all m e = record { same = sym (ap first_day e ∙ end); most = omega arith }
