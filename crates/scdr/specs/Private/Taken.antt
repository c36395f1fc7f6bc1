-- What was read of a record: the record, and the place after its access point name.
use Rattle.std.specs.Prelude.{◌≡◌, List, ℕ, ◌-◌, ◌≤◌, length}
use Rattle.std.specs.Prelude.{Option, None, Some}
use Rattle.scdr.specs.declared.Record.{Record}
use Rattle.scdr.specs.Layout.{scdr}
use Rattle.ber.specs.Read.{cut}
use Rattle.scdr.specs.Apn.{apn_place, apn_of}

-- where it lies in s
pub record NameAt (s : List ℕ) (r : Record) (end : ℕ) : Type 0 where
  pub place : ◌≡◌ {A = ℕ × ℕ} (end - r.apnlen, end) (apn_place s)
  pub order : r.apnlen ≤ end
  pub inside : end ≤ length s
  pub name : cut (end - r.apnlen, end) s ≡ apn_of (Some r)

abbrev pub Taken : List ℕ → Option (Record × ℕ) → Type 0
Taken s None = scdr.dec s ≡ None
Taken s (Some p) = (scdr.dec s ≡ Some p.0) × NameAt s p.0 p.1
