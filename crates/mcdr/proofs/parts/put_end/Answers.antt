-- `mcdr::parts::put_end` meets its contract: its fields one after another.
use mathlib.Core.Path.{refl}
use Rattle.format.proofs.Maybe.{guard_yes}
use Rattle.ber.specs.Table.{row_enc}
use Rattle.calendar.specs.Stamp.{stamp_ok}
use Rattle.mcdr.specs.Table.{Opening}
use Rattle.ber.proofs.Writers.{wrote, wrote_then, wrote_cut, wrote_last}
use Rattle.mcdr.proofs.parts.put_end.Goals as goal

pub returns-in_err-at : goal.returns-in_err-at
returns-in_err-at c =
    rw c.from_residual.ensures (wrote_cut _ (wrote (guard_yes (stamp_ok c.args.opening) (row_enc Opening c.args.opening) c.requires) c.in_err-at.ensures))

pub returns-in_err-at-2 : goal.returns-in_err-at-2
returns-in_err-at-2 c =
    rw c.from_residual-in_err-at-2.ensures (wrote_then (wrote (guard_yes (stamp_ok c.args.opening) (row_enc Opening c.args.opening) c.requires) c.in_ok-at.ensures) (wrote_cut _ (wrote refl c.in_err-at-2.ensures)))

pub returns-in_err-at-3 : goal.returns-in_err-at-3
returns-in_err-at-3 c =
    rw c.from_residual-in_err-at-3.ensures (wrote_then (wrote (guard_yes (stamp_ok c.args.opening) (row_enc Opening c.args.opening) c.requires) c.in_ok-at.ensures) (wrote_then (wrote refl c.in_ok-at-2.ensures) (wrote_cut _ (wrote refl c.in_err-at-3.ensures))))

pub returns : goal.returns
returns c =
    wrote_then (wrote (guard_yes (stamp_ok c.args.opening) (row_enc Opening c.args.opening) c.requires) c.in_ok-at.ensures)
    (wrote_then (wrote refl c.in_ok-at-2.ensures)
    (wrote_then (wrote refl c.in_ok-at-3.ensures)
    ((wrote_last (wrote refl c.put_count.ensures)))))
