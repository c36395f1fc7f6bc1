-- The octets of a container's QoS, as the code writes them before the other fields.
use Rattle.std.specs.Prelude.{cond, List, [], ℕ}
use Rattle.std.specs.Prelude.{Option, Some}
use Rattle.format.specs.Maybe.{guard}
use Rattle.ber.specs.Tlv.{tlv_enc}
use Rattle.ber.specs.Table.{tag}
use Rattle.container.specs.declared.Qos.{Qos}
use Rattle.container.specs.declared.Container.{Container}
use Rattle.container.specs.Qos.{qos_ok, qos}
use Rattle.container.specs.Container.{is_new, QosAfter}

-- after b: under its tag where it is new, else none
unfoldable pub new_form : Container → Qos → Option (List ℕ)
new_form b q = cond (is_new b) (guard (qos_ok q) (tlv_enc (tag (QosAfter b)) (qos.enc q))) (Some [])
