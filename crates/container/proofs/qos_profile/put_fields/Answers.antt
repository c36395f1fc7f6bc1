-- `container::qos_profile::put_fields` meets its contract: the five fields follow one another, with room for all.
use mathlib.Core.Path.{refl}
use Rattle.ber.proofs.Writers.{wrote, wrote_then, wrote_cut, wrote_last}
use Rattle.container.specs.Qos.{qos}
use Rattle.container.proofs.Fields.{qos_filled}
use Rattle.container.proofs.qos_profile.put_fields.Goals as goal

pub returns-in_err-at : goal.returns-in_err-at
unfolding qos
returns-in_err-at c =
    absurd (qos_filled c.args.q c.requires.0 c.requires.1 (wrote_cut _ (wrote refl c.in_err-at.ensures)))

pub returns-in_err-at-2 : goal.returns-in_err-at-2
unfolding qos
returns-in_err-at-2 c =
    absurd (qos_filled c.args.q c.requires.0 c.requires.1 (wrote_then (wrote refl c.in_ok-at.ensures) (wrote_cut _ (wrote refl c.in_err-at-2.ensures))))

pub returns-in_err-at-3 : goal.returns-in_err-at-3
unfolding qos
returns-in_err-at-3 c =
    absurd (qos_filled c.args.q c.requires.0 c.requires.1 (wrote_then (wrote refl c.in_ok-at.ensures) (wrote_then (wrote refl c.in_ok-at-2.ensures) (wrote_cut _ (wrote refl c.in_err-at-3.ensures)))))

pub returns-in_err-at-4 : goal.returns-in_err-at-4
unfolding qos
returns-in_err-at-4 c =
    absurd (qos_filled c.args.q c.requires.0 c.requires.1 (wrote_then (wrote refl c.in_ok-at.ensures) (wrote_then (wrote refl c.in_ok-at-2.ensures) (wrote_then (wrote refl c.in_ok-at-3.ensures) (wrote_cut _ (wrote refl c.in_err-at-4.ensures))))))

pub returns : goal.returns
unfolding qos
returns c =
    qos_filled c.args.q c.requires.0 c.requires.1 (wrote_then (wrote refl c.in_ok-at.ensures)
    (wrote_then (wrote refl c.in_ok-at-2.ensures)
    (wrote_then (wrote refl c.in_ok-at-3.ensures)
    (wrote_then (wrote refl c.in_ok-at-4.ensures)
    ((wrote_last (wrote refl c.put_octet-5.ensures)))))))
