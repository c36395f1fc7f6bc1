-- `scdr::rules::within` meets its contract: each rule as its function finds it.
use mathlib.Core.Path.{ap, ◌∙◌}
use borrow.Author.Rules.{rules}
use Rattle.std.specs.Prelude.{is_some}
use Rattle.ber.proofs.Imsis.{imsi_room_lem}
use Rattle.scdr.proofs.Answering.{within_is}
use Rattle.scdr.proofs.rules.within.Goals as goal

pub slice_bounds-imsi_size-end : goal.slice_bounds-imsi_size-end
slice_bounds-imsi_size-end c = search rules

pub returns : goal.returns
returns c =
    let r = c.args.r.now in
    within_is r (c.is_some-imsi.ensures ∙ ap is_some c.imsi_size.ensures ∙ imsi_room_lem r.imsi) c.apn_ok-name.ensures
    c.stamp_within-time.ensures c.list_ok.ensures c.unused_blank.ensures
    c.cause_ok-cause.ensures c.number_ok-number.ensures c.change_ok-change.ensures c.node_ok-node.ensures
