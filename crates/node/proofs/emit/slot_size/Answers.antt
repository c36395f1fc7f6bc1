-- `node::emit::slot_size` meets its contract.
use Rattle.node.proofs.Emits.{slot_apt, slot_counts, free_counts}
use Rattle.node.proofs.emit.slot_size.Goals as goal

pub size_of-requires : goal.size_of-requires
size_of-requires c = record {
  sound_context = slot_apt c.args.p c.args.g c.args.t c.args.m c.args.c.now c.if-c-eq1.true c.requires.sound_slot;
  shape = c.requires.sound_slot.shape;
  in_range = c.requires.in_range;
}

pub returns-then-c-eq1 : goal.returns-then-c-eq1
returns-then-c-eq1 c = slot_counts c.args.p c.args.g c.args.t c.args.m c.args.c.now c.if-c-eq1.true c.size_of.ensures

pub returns-else-c-eq1 : goal.returns-else-c-eq1
returns-else-c-eq1 c = free_counts c.args.p c.args.g c.args.t c.args.m c.args.c.now c.if-c-eq1.false
