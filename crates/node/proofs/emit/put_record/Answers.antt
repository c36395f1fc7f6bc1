-- `node::emit::put_record` meets its contract.
use native.Mathlib.Omega.{arith}
use Rattle.node.proofs.Emits.{mark_fits, part_starts, record_written, marked_record, end_fits}
use Rattle.node.proofs.emit.put_record.Goals as goal

pub unwrap-a-requires : goal.unwrap-a-requires
unwrap-a-requires c = mark_fits c.args.r.now c.put_all.result c.requires.1 c.put_all.ensures

pub slice_bounds-write_record-count : goal.slice_bounds-write_record-count
slice_bounds-write_record-count c = part_starts c.args.r.now c.requires.0 c.requires.1 (rw c.unwrap-a.ensures at c.put_all.ensures)

pub slice_bounds-write_record-start : goal.slice_bounds-write_record-start
slice_bounds-write_record-start c = part_starts c.args.r.now c.requires.0 c.requires.1 (rw c.unwrap-a.ensures at c.put_all.ensures)

pub unwrap-n-requires : goal.unwrap-n-requires
unwrap-n-requires c =
    rw (record_written c.args.r.now c.requires.0 c.requires.1 (rw c.unwrap-a.ensures at c.put_all.ensures) c.write_record.ensures.writes)

pub overflow_add-result : goal.overflow_add-result
overflow_add-result c =
    record {
      fits = omega (
        arith,
        end_fits c.args.r.now c.requires.0 c.requires.1 (rw c.unwrap-a.ensures at c.put_all.ensures) c.write_record.ensures.writes c.unwrap-n.ensures,
        c.well_formed,
      );
    }

pub returns : goal.returns
returns c =
    marked_record c.args.r.now c.requires.0 c.requires.1 (rw c.unwrap-a.ensures at c.put_all.ensures) c.write_record.ensures.writes c.unwrap-n.ensures
