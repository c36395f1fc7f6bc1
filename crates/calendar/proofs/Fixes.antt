-- Any two answers that meet a promise for the same inputs are equal: a promise of each form leaves nothing open.
use mathlib.Core.Path.{◌≡◌, sym, ◌∙◌}
use mathlib.Core.List.{List}
use Prim.Native.Nat.{ℕ}
use native.Mathlib.Omega.{arith}
use lib.ListN.{length}
use lib.Seq.{ext_get_or}
use Rattle.calendar.specs.declared.Stamp.{Stamp}
use Rattle.std.specs.Prelude.{Option}
use Rattle.std.specs.Bool.{then_some}
use Rattle.calendar.specs.Stamp.{stamp_ok, stamp_enc}
use Rattle.calendar.specs.Private.Bound.{Is}
use Rattle.calendar.specs.Private.Date.{Dated, Lasts}
use Rattle.calendar.specs.Private.Table.{Table}

-- what the writer promises
pub stamped_fixes : (t : Stamp) {x y : Option (List ℕ)} → x ≡ then_some (stamp_ok t) (stamp_enc t) → y ≡ then_some (stamp_ok t) (stamp_enc t) → x ≡ y
stamped_fixes t p q = p ∙ sym q

-- ---- what private functions promise

pub is_fixes : {v m a b : ℕ} → Is v m a → Is v m b → a ≡ b
is_fixes p q = p.same ∙ sym q.same

pub dated_fixes : {d k l p q : ℕ} → Dated d k p → Dated d l q → (k ≡ l) × (p ≡ q)
dated_fixes a b = (a.month ∙ sym b.month, a.place ∙ sym b.place)

pub lasts_fixes : {k f g m n : ℕ} → Lasts k f m → Lasts k g n → (f ≡ g) × (m ≡ n)
lasts_fixes a b = (a.first ∙ sym b.first, a.count ∙ sym b.count)

-- arrays, whose lengths are their types'
pub table_fixes : (l m : List ℕ) → length l ≡ 1200 → length m ≡ 1200 → Table l → Table m → l ≡ m
table_fixes l m u v a b = ext_get_or 0 l m (u ∙ sym v) (λ k h. a.begins k (omega arith) ∙ sym (b.begins k (omega arith)))
