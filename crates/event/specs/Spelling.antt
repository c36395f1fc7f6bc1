-- Two spellings of one access point name (02, W5).
use Rattle.std.specs.Prelude.{◌≡◌, List, ℕ, take}
use Rattle.event.specs.Fields.{kind_of, apn_of}

-- activates that are the same up to the case of the letters in the name
pub record OneSpelling (s t : List ℕ) : Type 0 where
  pub kind : kind_of s ≡ 1
  pub front : take 37 s ≡ take 37 t
  pub name : apn_of s ≡ apn_of t
