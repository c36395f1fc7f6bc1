-- `context::slots::slots_of` meets its contract: a slot at each place.
use Rattle.std.proofs.Common.{rules}
use Rattle.history.proofs.Scans.{mapped}
use Rattle.context.specs.Context.{no_context}
use Rattle.context.specs.Slots.{slot_of}
use Rattle.context.proofs.slots.slots_of.Goals as goal

pub returns : goal.returns
returns c = mapped slot_of no_context c.map.ensures.items (search rules) (λ p x y q h. search rules)
