-- `node::emit::try_slot` meets its contract.
use native.Mathlib.Omega.{arith}
use Rattle.node.proofs.Tries.{tries_full, tries_done}
use borrow.Author.Rules.{rules}
use Rattle.node.proofs.emit.try_slot.Goals as goal

pub slot_size-requires : goal.slot_size-requires
slot_size-requires c = search rules

pub hear_slot-requires : goal.hear_slot-requires
hear_slot-requires c = record {
  sound_slot = c.requires.sound_slot;
  in_range = c.requires.in_range;
  c_in_bounds = omega (arith, c.slot_size.ensures.is, c.if-out-slot_size.false);
}

pub returns-then-out-slot_size : goal.returns-then-out-slot_size
returns-then-out-slot_size c =
    let a = c.args in tries_full a.p a.g a.t a.m a.c.now a.out.now c.slot_size.ensures.is c.if-out-slot_size.true

pub returns-else-out-slot_size : goal.returns-else-out-slot_size
returns-else-out-slot_size c =
    let a = c.args in tries_done a.p a.g a.t a.m a.c.now a.out.now
    (omega (arith, c.slot_size.ensures.is, c.if-out-slot_size.false))
    c.hear_slot.ensures
