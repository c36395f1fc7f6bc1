-- `mcdr::one::put_fields` meets its contract: the fields follow one another, with room for all.
use mathlib.Core.Path.{refl}
use Rattle.ber.proofs.Writers.{wrote, wrote_then, wrote_cut}
use Rattle.mcdr.specs.Change.{change}
use Rattle.mcdr.proofs.ChangeFields.{change_filled, time_last}
use Rattle.mcdr.proofs.one.put_fields.Goals as goal

pub returns-in_err-at : goal.returns-in_err-at
unfolding change
returns-in_err-at c =
    absurd (change_filled c.args.c c.requires.0 (wrote_cut _ (wrote refl c.in_err-at.ensures)))

pub returns-in_err-at-2 : goal.returns-in_err-at-2
unfolding change
returns-in_err-at-2 c =
    absurd (change_filled c.args.c c.requires.0 (wrote_then (wrote refl c.in_ok-at.ensures) (wrote_cut _ (wrote refl c.in_err-at-2.ensures))))

pub returns : goal.returns
unfolding change
returns c =
    change_filled c.args.c c.requires.0 (wrote_then (wrote refl c.in_ok-at.ensures)
    (wrote_then (wrote refl c.in_ok-at-2.ensures)
    ((time_last c.args.c c.requires.1 c.put_stamp.ensures))))
