-- `keys::Slot::stands_alone` meets its contract: none bears a name that is not found.
use Rattle.std.proofs.Common.{arith}
use Rattle.std.proofs.lemmas.Grind.{common_steps}
use Rattle.history.proofs.Scans.{none_found}
use Rattle.keys.specs.Slots.{naming}
use Rattle.keys.proofs.Slot.stands_alone.Goals as goal

pub returns-else-not-is_active : goal.returns-else-not-is_active
returns-else-not-is_active g c =
    let e = none_found (naming g.K.PartialEq.eq) c.args.self.now.key c.args.others.now in
    grind (arith, common_steps)
