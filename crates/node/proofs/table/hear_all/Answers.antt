-- `node::table::hear_all` meets its contract.
use Prim.Native.Nat.{◌≤◌}
use native.Mathlib.Omega.{arith}
use lib.ListN.{length}
use Rattle.history.proofs.Ranges.{still, hearing_none, hearing_more, hearing_end, room}
use Rattle.node.specs.Private.Range.{slot_next, slot_out}
use Rattle.node.proofs.Ranges.{slotted, puts}
use Rattle.node.proofs.table.hear_all.Goals as goal

pub loop-c-init : goal.loop-c-init
loop-c-init c = let a = c.args in hearing_none puts (slot_next a.p a.g a.t a.m) (slot_out a.p a.g a.t a.m) 0 16 a.cs.now (omega arith)

pub hear_slot-at-requires-clause-sound_slot : goal.hear_slot-at-requires-clause-sound_slot
hear_slot-at-requires-clause-sound_slot c =
    let a = c.args in
    let e = still (slot_next a.p a.g a.t a.m) 0 16 a.cs.now c.loop-c.invariant.standing in
    rw e (slotted a.p a.g a.t a.cs.now _ (omega (arith, c.told-cs)) c.requires.sound_table)

pub hear_slot-at-requires-clause-c_in_bounds : goal.hear_slot-at-requires-clause-c_in_bounds
hear_slot-at-requires-clause-c_in_bounds c =
    let a = c.args in
    let n : 16 ≤ length a.cs.now = omega (arith, c.told-cs) in
    let e = still (slot_next a.p a.g a.t a.m) 0 16 a.cs.now c.loop-c.invariant.standing in
    rw e (room puts (slot_next a.p a.g a.t a.m) (slot_out a.p a.g a.t a.m) 0 16 a.cs.now c.loop-c.invariant _ (omega arith) n c.requires.cs_in_bounds)

pub loop-c-preserved : goal.loop-c-preserved
loop-c-preserved c =
    let a = c.args in
    let n : 16 ≤ length a.cs.now = omega (arith, c.told-cs) in
    let e = still (slot_next a.p a.g a.t a.m) 0 16 a.cs.now c.loop-c.invariant.standing in
    let w = rw e at c.hear_slot-at.ensures in
    hearing_more puts (slot_next a.p a.g a.t a.m) (slot_out a.p a.g a.t a.m) 0 16 a.cs.now c.loop-c.invariant _
    (omega arith) n w.value w.written

pub returns : goal.returns
returns c =
    let a = c.args in
    let w = hearing_end puts (slot_next a.p a.g a.t a.m) (slot_out a.p a.g a.t a.m) 0 16 a.cs.now (omega arith) c.loop-c.invariant in
    record { value = w.0; written = w.1 }
