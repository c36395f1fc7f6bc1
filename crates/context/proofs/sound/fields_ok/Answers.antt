-- `context::sound::fields_ok` meets its contract: an IMSI has a size.
use Rattle.std.proofs.Common.{arith}
use Rattle.std.proofs.lemmas.Grind.{common_steps}
use Rattle.ber.proofs.Imsis.{imsi_room_lem}
use Rattle.context.specs.Sound.{fields_ok}
use Rattle.context.proofs.sound.fields_ok.Goals as goal

pub returns-then-is_some : goal.returns-then-is_some
unfolding fields_ok
returns-then-is_some c = let e = imsi_room_lem c.args.c.now.imsi in grind (arith, common_steps)

pub returns-else-is_some : goal.returns-else-is_some
unfolding fields_ok
returns-else-is_some c = let e = imsi_room_lem c.args.c.now.imsi in grind (arith, common_steps)
