-- `node::emit::hear_slot` meets its contract.
use Rattle.node.proofs.Emits.{slot_apt, slot_active, slot_turns, free_turns}
use Rattle.node.proofs.emit.hear_slot.Goals as goal

pub hear-requires : goal.hear-requires
hear-requires c =
    record {
      sound_context = slot_apt c.args.p c.args.g c.args.t c.args.m c.args.c.now c.if-c-eq1.true c.requires.sound_slot;
      shape = c.requires.sound_slot.shape;
      in_range = c.requires.in_range;
      m_in_bounds = rw (← (slot_active c.args.p c.args.g c.args.t c.args.m c.args.c.now c.if-c-eq1.true).1) c.requires.c_in_bounds;
    }

pub returns-then-c-eq1 : goal.returns-then-c-eq1
returns-then-c-eq1 c = slot_turns c.args.p c.args.g c.args.t c.args.m c.args.c.now c.if-c-eq1.true c.hear.ensures

pub returns-else-c-eq1 : goal.returns-else-c-eq1
returns-else-c-eq1 c = free_turns c.args.p c.args.g c.args.t c.args.m c.args.c.now c.if-c-eq1.false c.requires.c_in_bounds
