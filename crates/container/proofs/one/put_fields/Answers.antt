-- `container::one::put_fields` meets its contract: the fields follow one another, with room for all.
use mathlib.Core.Path.{refl}
use Rattle.ber.proofs.Writers.{wrote, wrote_then, wrote_cut}
use Rattle.container.specs.Qos.{qos}
use Rattle.container.specs.Container.{container}
use Rattle.container.proofs.Fields.{container_filled, qos_first, time_last}
use Rattle.container.proofs.one.put_fields.Goals as goal

pub returns-in_err-at : goal.returns-in_err-at
unfolding container qos
returns-in_err-at c =
    absurd (container_filled c.args.last c.args.c c.requires.1 c.requires.0 (wrote_cut _ (qos_first c.args.last c.args.c c.requires.1 c.in_err-at.ensures)))

pub returns-in_err-at-2 : goal.returns-in_err-at-2
unfolding container qos
returns-in_err-at-2 c =
    absurd (container_filled c.args.last c.args.c c.requires.1 c.requires.0 (wrote_then (qos_first c.args.last c.args.c c.requires.1 c.in_ok-at.ensures) (wrote_cut _ (wrote refl c.in_err-at-2.ensures))))

pub returns-in_err-at-3 : goal.returns-in_err-at-3
unfolding container qos
returns-in_err-at-3 c =
    absurd (container_filled c.args.last c.args.c c.requires.1 c.requires.0 (wrote_then (qos_first c.args.last c.args.c c.requires.1 c.in_ok-at.ensures) (wrote_then (wrote refl c.in_ok-at-2.ensures) (wrote_cut _ (wrote refl c.in_err-at-3.ensures)))))

pub returns-in_err-at-4 : goal.returns-in_err-at-4
unfolding container qos
returns-in_err-at-4 c =
    absurd (container_filled c.args.last c.args.c c.requires.1 c.requires.0 (wrote_then (qos_first c.args.last c.args.c c.requires.1 c.in_ok-at.ensures) (wrote_then (wrote refl c.in_ok-at-2.ensures) (wrote_then (wrote refl c.in_ok-at-3.ensures) (wrote_cut _ (wrote refl c.in_err-at-4.ensures))))))

pub returns : goal.returns
unfolding container qos
returns c =
    container_filled c.args.last c.args.c c.requires.1 c.requires.0 (wrote_then (qos_first c.args.last c.args.c c.requires.1 c.in_ok-at.ensures)
    (wrote_then (wrote refl c.in_ok-at-2.ensures)
    (wrote_then (wrote refl c.in_ok-at-3.ensures)
    (wrote_then (wrote refl c.in_ok-at-4.ensures)
    ((time_last c.args.last c.args.c c.requires.1 c.put_stamp.ensures))))))
