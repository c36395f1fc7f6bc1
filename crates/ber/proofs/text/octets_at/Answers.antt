-- `ber::text::octets_at` meets its contract: a law for each answer.
use mathlib.Core.Path.{refl}
use Prim.Native.Nat.{suc}
use native.Mathlib.Omega.{arith}
use Rattle.ber.specs.Field.{between}
use Rattle.ber.proofs.Readers.{first_at}
use Rattle.ber.proofs.Texts.{between_short, between_long, between_there}
use Rattle.ber.proofs.text.octets_at.Goals as goal
use Rattle.ber.proofs.text.octets_at.Goals.{then-contents-few-via-then-contents-few, then-contents-few-via-else-contents-few+then-most-contents}

pub returns-in_err-contents-clause-reads : goal.returns-in_err-contents-clause-reads
returns-in_err-contents-clause-reads c =
    let a = c.args in
    rw (first_at a.tag (between (suc a.few) a.most) a.s.now a.at, ← c.part_at.ensures.reads, c.in_err-contents.was, c.from_residual.ensures)

pub returns-then-contents-few-clause-reads : goal.returns-then-contents-few-clause-reads
returns-then-contents-few-clause-reads c =
    let a = c.args in
    let k = c.in_ok-contents.contents.now in
    rw (first_at a.tag (between (suc a.few) a.most) a.s.now a.at, ← c.part_at.ensures.reads, c.in_ok-contents.was)
    (elim c.then-contents-few.branch [
      | then-contents-few-via-then-contents-few w ↦ rw (between_short (suc a.few) a.most k (omega arith))
      | then-contents-few-via-else-contents-few+then-most-contents w ↦ rw (between_long (suc a.few) a.most k (omega arith))
    ])

pub returns-clause-reads : goal.returns-clause-reads
returns-clause-reads c =
    let a = c.args in
    rw (
      first_at a.tag (between (suc a.few) a.most) a.s.now a.at,
      ← c.part_at.ensures.reads,
      c.in_ok-contents.was,
      between_there (suc a.few) a.most c.in_ok-contents.contents.now (omega arith) (omega arith),
    ) refl
