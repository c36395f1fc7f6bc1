-- Stepping over the fields of a record, by their lengths alone.
use Rattle.std.specs.Prelude.{ℕ, zero, suc, cond, List, [], ◌∷◌, length, ◌==◌}
use Rattle.std.specs.Prelude.{Option, None, Some}
use Rattle.ber.specs.Tlv.{tlv_dec}

-- where the steps from field to field end, with the octets from there on
pub data Sought : Type 0 where
  -- before the first field with the tag; before no octets where none has it
  before : List ℕ → Sought
  -- before a field whose length does not fit
  unfit : List ℕ → Sought

-- one step: it ends before a field whose length does not fit; where it fits, what follows the field goes on
abbrev pub over : Option (List ℕ × List ℕ) → (List ℕ → Sought) → List ℕ → Sought
over None next s = unfit s
over (Some p) next s = next p.1

-- the first field of s with the tag, in at most n steps: as many as there are octets never run out
unfoldable pub seek_in : ℕ → ℕ → List ℕ → Sought
seek_in zero t s = before s
seek_in (suc n) t [] = before []
seek_in (suc n) t (a ∷ s) = over (tlv_dec a (a ∷ s)) (λ r. cond (a == t) (before (a ∷ s)) (seek_in n t r)) (a ∷ s)

unfoldable pub seek : ℕ → List ℕ → Sought
seek t s = seek_in (length s) t s
