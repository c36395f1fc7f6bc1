-- The access point name of an activate, as the code takes it.
use mathlib.Core.Path.{◌≡◌, refl, ap, ◌∙◌}
use mathlib.Core.Bool.{true}
use mathlib.Core.List.{List}
use Prim.Native.Nat.{ℕ, ◌-◌}
use lib.ListN.{length, take, drop}
use Rattle.octets.specs.declared.names.Checked.{Checked}
use Rattle.octets.specs.Filled.{fill_to}
use Rattle.octets.specs.Names.{is_apn, checked_apn}
use Rattle.octets.proofs.Stored.{rest_all}
use Rattle.octets.proofs.Checked.{checked_apn_lem}
use Rattle.event.specs.Fields.{spelling_of, apn_of}

-- the access point name of an activate, with its letters lowered
pub checked_name : (s : List ℕ) {k : Checked} → k ≡ checked_apn (take (length s - 37) (drop 37 s)) → is_apn (spelling_of s) ≡ true
    → k.apn ≡ fill_to 63 0 (apn_of s)
checked_name s e n =
    ap (λ (z : Checked). z.apn) (e ∙ ap checked_apn (rest_all s (length s) 37 refl) ∙ checked_apn_lem (spelling_of s) n)
