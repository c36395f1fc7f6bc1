-- `mcdr::changes::place_now` meets its contract: the last of those that are used.
use Rattle.std.proofs.Common.{◌≡◌, length, take, rules, sym}
use Rattle.std.proofs.lemmas.List.{take_min}
use Rattle.mcdr.proofs.Order.{place_some, place_none}
use Rattle.mcdr.proofs.changes.place_now.Goals as goal

pub returns-in-Some : goal.returns-in-Some
returns-in-Some c =
    let whole : length c.args.v ≡ 15 = search rules in
    let used : take c.min.result c.args.v ≡ take c.args.n c.args.v = rw (c.min.ensures, sym whole) (take_min c.args.n c.args.v) in
    rw (sym used) (place_some _ _ (rw c.in-Some.is at c.last.ensures.value) c.args.p)

pub returns-in-None : goal.returns-in-None
returns-in-None c =
    let whole : length c.args.v ≡ 15 = search rules in
    let used : take c.min.result c.args.v ≡ take c.args.n c.args.v = rw (c.min.ensures, sym whole) (take_min c.args.n c.args.v) in
    rw (sym used) (place_none _ (rw c.in-None.is at c.last.ensures.value) c.args.p)
