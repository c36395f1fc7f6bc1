-- `out::Stream::put_stretch` meets its contract: a stretch is put in one of four ways.
use Rattle.std.proofs.Common.{rules, ◌≡◌, ◌<◌, length, take, arith, refl}
use Rattle.out.proofs.Puts.{all_in_room, all_alone, all_lost, all_told}
use Rattle.out.proofs.Stream.put_stretch.Goals as goal
use Rattle.out.proofs.Stream.put_stretch.Goals.{then-is_full, else-is_full}

pub returns-in-Ok-clause-puts : goal.returns-in-Ok-clause-puts
returns-in-Ok-clause-puts g c =
    let size : length c.args.self.now.text ≡ 4096 = search rules in
    let long : length (take c.min-size.result c.args.octets.now) ≡ c.min-size.result = search rules in
    let put = c.copy_from_slice.ensures.after in
    elim c.if-is_full.branch [
      | then-is_full w ↦
          let none : c.in-Ok.n ≡ 0 = grind arith in
          all_alone _ _ _ _ _ _ _ _ (grind arith) none (grind arith) put (omega arith) (omega arith) size (omega arith) (omega arith)
      | else-is_full w ↦
          let room : c.in-Ok.n < 4096 = grind arith in
          all_in_room _ _ _ _ _ _ _ _ (grind arith) (grind arith) put (omega arith) (omega arith) size (omega arith)
    ]

pub returns-in-Err-clause-lost : goal.returns-in-Err-clause-lost
returns-in-Err-clause-lost g c = elim c.if-is_full.branch [
  | then-is_full w ↦ all_lost _ _ _ _ _ (grind arith) refl (grind arith) c.requires
  | else-is_full w ↦ all_told _ _ _ _ _ (grind arith) refl (grind arith)
]
