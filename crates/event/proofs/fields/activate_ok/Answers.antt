-- `event::fields::activate_ok` meets its contract.
use mathlib.Core.Path.{◌∙◌}
use native.Mathlib.Omega.{arith}
use lib.ListN.{length}
use Rattle.std.proofs.lemmas.Grind.{common_steps}
use Rattle.ber.proofs.Imsis.{imsi_room_lem}
use Rattle.octets.proofs.Checked.{some_name}
use Rattle.octets.proofs.Stored.{rest_all}
use Rattle.event.specs.Fields.{activate_ok}
use Rattle.event.proofs.Tried.{activate_short}
use Rattle.event.proofs.fields.activate_ok.Goals as goal
use Rattle.event.proofs.fields.activate_ok.Goals.{then-s-ge37, else-s-ge37}
use Rattle.event.proofs.fields.activate_ok.Goals.{then-octet-le3, else-octet-le3}
use Rattle.event.proofs.fields.activate_ok.Goals.{then-is_some, else-is_some}

pub returns-then-qos_ok : goal.returns-then-qos_ok
unfolding activate_ok
returns-then-qos_ok c = grind (arith, common_steps, imsi_room_lem, some_name, rest_all c.args.s.now (length c.args.s.now) 37)

pub returns-else-qos_ok : goal.returns-else-qos_ok
unfolding activate_ok
returns-else-qos_ok c =
    elim c.if-s-ge37.branch [
      | then-s-ge37 a ↦
          elim c.if-octet-le3.branch [
            | then-octet-le3 b ↦
                elim c.if-is_some.branch [ then-is_some d ↦ grind (arith, common_steps, imsi_room_lem) | else-is_some d ↦ grind (arith, common_steps, imsi_room_lem) ]
            | else-octet-le3 b ↦ grind (arith, common_steps)
          ]
      | else-s-ge37 a ↦ c.if-qos_ok.false ∙ activate_short c.args.s.now a.if-s-ge37.false
    ]
