-- One character behind those that wait to be written.
use Rattle.std.specs.Prelude.{◌≡◌, Bool, cond, List, [], ◌∷◌, ℕ, ◌+◌, ltb, set, min, Result, Ok, Err}

-- How many wait; 4,097 says that a write failed.
abbrev pub count_of : {E : Type 0} → Result ℕ E → ℕ
count_of (Ok n) = min n 4096
count_of (Err _) = 4097

-- The text, of which w characters wait, and how many wait then. Where there is room the character stands behind them. Where all 4,096 wait they are
-- written first: if that went well the character alone waits, and else the text is as it was, and 4,097 says that a write failed. Once that is said,
-- nothing is done.
unfoldable pub put_of : Bool → List ℕ → ℕ → ℕ → List ℕ × ℕ
put_of wrote text w x = cond (ltb w 4096) (set text w x, w + 1) (cond (ltb 4096 w) (text, w) (cond wrote (set text 0 x, 1) (text, 4097)))

-- whether the write went well is the system's answer
pub record PutsOne (text : List ℕ) (w x : ℕ) (after : List ℕ) (r : ℕ) : Type 0 where
  pub wrote : Bool
  pub is : ◌≡◌ {A = List ℕ × ℕ} (after, r) (put_of wrote text w x)

-- Characters one after another, those that no longer come out among them.
abbrev pub PutsAll : List ℕ → ℕ → List ℕ → List ℕ → ℕ → Type 0
PutsAll text w [] after r = (after ≡ text) × (r ≡ w)
PutsAll text w (x ∷ xs) after r = (middle : List ℕ) × (m : ℕ) × PutsOne text w x middle m × PutsAll middle m xs after r
