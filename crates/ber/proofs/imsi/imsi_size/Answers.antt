-- `ber::imsi::imsi_size` meets its contract: a law for each answer.
use native.Mathlib.Omega.{arith}
use Rattle.ber.proofs.Imsis.{room_length, room_few, room_many, room_rest}
use Rattle.ber.proofs.imsi.imsi_size.Goals as goal
use Rattle.ber.proofs.imsi.imsi_size.Goals.{then-d-lt6-via-then-d-lt6, then-d-lt6-via-else-d-lt6+then-d-gt15}

pub returns-then-s-ne8 : goal.returns-then-s-ne8
returns-then-s-ne8 c = room_length c.args.s.now c.if-s-ne8.true

pub returns-then-d-lt6 : goal.returns-then-d-lt6
returns-then-d-lt6 c =
    let s = c.args.s.now in
    elim c.then-d-lt6.branch [
      | then-d-lt6-via-then-d-lt6 w ↦ room_few s c.if-s-ne8.false (omega (arith, c.digits-d.ensures))
      | then-d-lt6-via-else-d-lt6+then-d-gt15 w ↦ room_many s c.if-s-ne8.false (omega (arith, c.digits-d.ensures)) (omega (arith, c.digits-d.ensures))
    ]

pub returns : goal.returns
returns c =
    let d = c.digits-d.ensures in
    rw (c.then_some.ensures, c.filled.ensures, d) (room_rest c.args.s.now c.if-s-ne8.false (omega (arith, d)) (omega (arith, d)))
