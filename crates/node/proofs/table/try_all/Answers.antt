-- `node::table::try_all` meets its contract.
use native.Mathlib.Omega.{arith}
use Rattle.node.proofs.Tries.{all_full, all_done}
use Rattle.node.proofs.table.try_all.Goals as goal

pub returns-then-out-n : goal.returns-then-out-n
returns-then-out-n c = let a = c.args in all_full a.p a.g a.t a.m a.cs.now a.out.now c.size_all-n.ensures c.if-out-n.true

pub hear_all-requires : goal.hear_all-requires
hear_all-requires c = record {
  sound_table = c.requires.sound_table;
  in_range = c.requires.in_range;
  cs_in_bounds = omega (arith, c.size_all-n.ensures, c.if-out-n.false);
}

pub returns : goal.returns
returns c =
    let a = c.args in
    all_done a.p a.g a.t a.m a.cs.now a.out.now (omega (arith, c.size_all-n.ensures, c.if-out-n.false)) c.hear_all.ensures
