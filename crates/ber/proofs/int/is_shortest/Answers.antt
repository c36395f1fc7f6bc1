-- `ber::int::is_shortest` meets its contract: by how many octets there are.
use native.Mathlib.Omega.{arith}
use borrow.Author.Tests.{lt-ltb, le-ltb, le-leb, lt-leb}
use Rattle.ber.proofs.Numbers.{shortest_none, shortest_one, shortest_more}
use Rattle.ber.proofs.int.is_shortest.Goals as goal

pub returns-in-empty : goal.returns-in-empty
returns-in-empty c = shortest_none _ (omega arith)

pub returns-in-len1 : goal.returns-in-len1
returns-in-len1 c = shortest_one _ (omega arith)

pub returns-then-x-ge1 : goal.returns-then-x-ge1
returns-then-x-ge1 c = rw (← shortest_more c.args.s.now (omega arith), lt-ltb _ 128 c.if-x-lt128.true, le-leb 1 _ c.if-x-ge1.true)

pub returns-else-x-ge1 : goal.returns-else-x-ge1
returns-else-x-ge1 c = rw (← shortest_more c.args.s.now (omega arith), lt-ltb _ 128 c.if-x-lt128.true, lt-leb 1 _ c.if-x-ge1.false)

pub returns-else-x-lt128 : goal.returns-else-x-lt128
returns-else-x-lt128 c = rw (← shortest_more c.args.s.now (omega arith), le-ltb _ 128 c.if-x-lt128.false)
