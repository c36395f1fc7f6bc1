-- The names of a table's slots, whatever names them: the names' own equality says which are the same.
use Rattle.std.specs.Prelude.{Bool, not, List, eqb}
use Rattle.history.specs.Slots as S
use Rattle.keys.specs.declared.Slot.{Slot}

module _ {K : Type 0} where
  abbrev pub is_active : Slot K → Bool
  is_active s = eqb s.active 1

  abbrev pub is_free : Slot K → Bool
  is_free s = not (is_active s)

  module _ (same : K → K → Bool) where
    -- how the slots are named: history's specs/Slots.antt says of any such slots what bears a name, and when names are distinct
    abbrev pub naming : S.Naming K (Slot K)
    naming = record { active = is_active; name = λ s. s.key; same = same }

    -- an active slot with this name
    abbrev pub bears : K → Slot K → Bool
    bears k s = S.bears naming k s

    -- active names are distinct
    abbrev pub distinct : List (Slot K) → Bool
    distinct ss = S.distinct naming ss
