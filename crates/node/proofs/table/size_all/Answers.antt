-- `node::table::size_all` meets its contract.
use native.Mathlib.Omega.{arith}
use Rattle.history.proofs.Ranges.{sizing_none, sizing_more, sizing_end}
use Rattle.node.specs.Private.Range.{slot_out}
use Rattle.node.proofs.Ranges.{slotted}
use Rattle.node.proofs.table.size_all.Goals as goal

pub loop-c-init : goal.loop-c-init
loop-c-init c = let a = c.args in sizing_none (slot_out a.p a.g a.t a.m) 0 16 a.cs.now 1026 (omega arith)

pub slot_size-n-requires-clause-sound_slot : goal.slot_size-n-requires-clause-sound_slot
slot_size-n-requires-clause-sound_slot c = let a = c.args in slotted a.p a.g a.t a.cs.now _ (omega (arith, c.told-cs, c.loop-c-test.true)) c.requires.sound_table

pub loop-c-preserved : goal.loop-c-preserved
loop-c-preserved c =
    let a = c.args in
    let k = c.slot_size-n.ensures in
    sizing_more (slot_out a.p a.g a.t a.m) 0 16 a.cs.now _ c.loop-c-test.true (omega (arith, c.told-cs))
    c.loop-c.invariant k.is k.most

pub returns : goal.returns
returns c =
    let a = c.args in
    sizing_end (slot_out a.p a.g a.t a.m) 0 16 a.cs.now c.loop-c-test.false c.loop-c.invariant
