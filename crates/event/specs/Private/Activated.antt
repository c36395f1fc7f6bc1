-- What is known of the octets of an activate that no row refuses.
use Rattle.std.specs.Prelude.{◌≡◌, true, List, ℕ, ◌+◌, ◌≤◌, length}
use Rattle.ber.specs.Imsi.{imsi_ok}
use Rattle.container.specs.Qos.{qos_ok}
use Rattle.octets.specs.Names.{is_apn}
use Rattle.event.specs.Fields.{flags_of, imsi_of, spelling_of, apn_of, activation_of}
use Rattle.event.specs.declared.Activation.{Activation}

-- its flags, IMSI, QoS and access point name, which stand where the table of kinds has them
pub record Activated (s : List ℕ) (a : Activation) : Type 0 where
  pub is : a ≡ activation_of s
  pub long : length s ≡ 37 + a.apnlen
  pub flags : flags_of s ≤ 3
  pub imsi : imsi_ok (imsi_of s) ≡ true
  pub qos : qos_ok a.qos ≡ true
  pub name : is_apn (spelling_of s) ≡ true
  pub size : length (apn_of s) ≡ a.apnlen
