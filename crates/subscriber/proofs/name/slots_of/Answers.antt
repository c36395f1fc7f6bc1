-- `subscriber::name::slots_of` meets its contract: a slot at each place.
use Rattle.std.proofs.Common.{rules}
use Rattle.history.proofs.Scans.{mapped}
use Rattle.subscriber.specs.Subscriber.{no_subscriber, slot_of}
use Rattle.subscriber.proofs.name.slots_of.Goals as goal

pub returns : goal.returns
returns c = mapped slot_of no_subscriber c.map.ensures.items (search rules) (λ p x y q h. search rules)
