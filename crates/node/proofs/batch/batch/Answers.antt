-- `node::batch::batch` meets its contract: what the list is to do is what its events do one by one.
use mathlib.Core.Path.{ap}
use native.Mathlib.Omega.{arith}
use Rattle.node.specs.Batch.{name_with}
use Rattle.node.specs.Refusal.{answer_of}
use Rattle.node.proofs.Holds.{held_is}
use Rattle.node.proofs.Batches.{means_at, below, listens, batches_told, batches_still}
use Rattle.node.proofs.batch.batch.Goals as goal

pub offset_bounds-node-at : goal.offset_bounds-node-at
offset_bounds-node-at c =
    let x = means_at c.args.node (name_with c.args.id c.args.ggsn) c.args.t c.args.volumes.now c.args.out.now (held_is c.args.node _ c.well_formed.0)
    (omega arith) (omega arith) (omega arith) (λ i. omega (arith, c.type_inv.volumes i)) (rw c.in-Ok-Some.field-0-is at c.in-Ok-Some.ensures) in
    omega (arith, below x)

pub bounds-node-at : goal.bounds-node-at
bounds-node-at c =
    let x = means_at c.args.node (name_with c.args.id c.args.ggsn) c.args.t c.args.volumes.now c.args.out.now (held_is c.args.node _ c.well_formed.0)
    (omega arith) (omega arith) (omega arith) (λ i. omega (arith, c.type_inv.volumes i)) (rw c.in-Ok-Some.field-0-is at c.in-Ok-Some.ensures) in
    below x

pub tell-told-requires : goal.tell-told-requires
tell-told-requires c =
    let x = means_at c.args.node (name_with c.args.id c.args.ggsn) c.args.t c.args.volumes.now c.args.out.now (held_is c.args.node _ c.well_formed.0)
    (omega arith) (omega arith) (omega arith) (λ i. omega (arith, c.type_inv.volumes i)) (rw c.in-Ok-Some.field-0-is at c.in-Ok-Some.ensures) in
    listens x _

pub moved-requires : goal.moved-requires
moved-requires c =
    let x = means_at c.args.node (name_with c.args.id c.args.ggsn) c.args.t c.args.volumes.now c.args.out.now (held_is c.args.node _ c.well_formed.0)
    (omega arith) (omega arith) (omega arith) (λ i. omega (arith, c.type_inv.volumes i)) (rw c.in-Ok-Some.field-0-is at c.in-Ok-Some.ensures) in
    (below x, c.tell-told.ensures.few)

pub returns-in-Err : goal.returns-in-Err
returns-in-Err c =
    let x = means_at c.args.node (name_with c.args.id c.args.ggsn) c.args.t c.args.volumes.now c.args.out.now (held_is c.args.node _ c.well_formed.0)
    (omega arith) (omega arith) (omega arith) (λ i. omega (arith, c.type_inv.volumes i)) c.in-Err.ensures in
    batches_still x (ap answer_of c.unmoved.ensures.0, c.unmoved.ensures.1)

pub returns-in-Ok-None : goal.returns-in-Ok-None
returns-in-Ok-None c =
    let x = means_at c.args.node (name_with c.args.id c.args.ggsn) c.args.t c.args.volumes.now c.args.out.now (held_is c.args.node _ c.well_formed.0)
    (omega arith) (omega arith) (omega arith) (λ i. omega (arith, c.type_inv.volumes i)) (rw c.in-Ok-None.field-0-is at c.in-Ok-None.ensures) in
    batches_still x (ap answer_of c.unmoved-in-Ok-None.ensures.0, c.unmoved-in-Ok-None.ensures.1)

pub returns-in-Ok-Some : goal.returns-in-Ok-Some
returns-in-Ok-Some c =
    let x = means_at c.args.node (name_with c.args.id c.args.ggsn) c.args.t c.args.volumes.now c.args.out.now (held_is c.args.node _ c.well_formed.0)
    (omega arith) (omega arith) (omega arith) (λ i. omega (arith, c.type_inv.volumes i)) (rw c.in-Ok-Some.field-0-is at c.in-Ok-Some.ensures) in
    batches_told x _ c.tell-told.ensures (ap answer_of c.moved.ensures.0, c.moved.ensures.1)
