-- `subscriber::sound::subscriber_ok` meets its contract: an IMSI has a size.
use Rattle.std.proofs.Common.{arith}
use Rattle.std.proofs.lemmas.Grind.{common_steps}
use Rattle.ber.proofs.Imsis.{imsi_room_lem}
use Rattle.subscriber.specs.Sound.{subscriber_ok}
use Rattle.subscriber.proofs.sound.subscriber_ok.Goals as goal

pub returns-then-s-accepted : goal.returns-then-s-accepted
unfolding subscriber_ok
returns-then-s-accepted c = let e = imsi_room_lem c.args.s.now.imsi in grind (arith, common_steps)

pub returns-else-s-accepted : goal.returns-else-s-accepted
unfolding subscriber_ok
returns-else-s-accepted c = let e = imsi_room_lem c.args.s.now.imsi in grind (arith, common_steps)
