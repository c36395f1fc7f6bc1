-- `mcdr::rules::within` meets its contract: each rule as its function finds it.
use mathlib.Core.Path.{ap, ◌∙◌}
use Rattle.std.specs.Prelude.{is_some}
use Rattle.ber.proofs.Imsis.{imsi_room_lem}
use Rattle.mcdr.proofs.Answering.{rules_found}
use Rattle.mcdr.proofs.rules.within.Goals as goal

pub returns : goal.returns
returns c =
    let r = c.args.r.now in
    rules_found r (c.is_some-imsi.ensures ∙ ap is_some c.imsi_size.ensures ∙ imsi_room_lem r.imsi) c.stamp_within-time.ensures c.changes_ok.ensures
    c.unused_blank.ensures c.cause_ok-cause.ensures c.full_ok-full.ensures c.last_time-last.ensures c.closing_ok-end.ensures
    c.number_ok-number.ensures c.node_ok-node.ensures
