-- The parts in which the code writes a record's fields make its body.
use mathlib.Core.Path.{◌≡◌, sym, ap, ◌∙◌}
use Rattle.std.specs.Prelude.{Some}
use mathlib.Core.List.{List, [], ◌∷◌, ◌++◌, append-nil}
use Prim.Native.Nat.{ℕ}
use native.Mathlib.Omega.{arith}
use lib.Dec.{T}
use lib.ListN.{length, take, drop}
use Rattle.ber.specs.Field.{unless0, unless_none, ◌⨾◌}
use Rattle.ber.specs.Table.{layout, row_enc, tag}
use Rattle.ber.specs.Table.{both}
use Rattle.ber.proofs.Tables.{layout_parts}
use Rattle.mcdr.specs.declared.MmRecord.{MmRecord}
use Rattle.mcdr.specs.Rules.{used, within}
use Rattle.mcdr.specs.Table.{Changes, NodeId, table}
use Rattle.mcdr.specs.Layout.{body, of_record}
use Rattle.mcdr.specs.Private.List.{list_form}
use Rattle.mcdr.specs.Private.Parts.{front_rows, front_enc, end_rows, end_enc}
use Rattle.mcdr.proofs.Order.{changes_times}
use Rattle.mcdr.proofs.Lists.{form_row}
use Rattle.mcdr.proofs.Views.{withins, places_rules}

pub body_parts : (r : MmRecord)
    → front_enc r.imsi r.sgsn r.place
    ++ (row_enc Changes (unless_none (used r))
    ++ (end_enc r.opening r.duration r.cause r.number
    ++ row_enc NodeId (unless_none (take r.nodelen r.nodeid))))
    ≡ body.enc (of_record r)
unfolding body of_record
body_parts r =
    let front = tt ⨾ r.imsi ⨾ r.sgsn ⨾ r.place.rac ⨾ r.place.lac ⨾ tt in
    let cs = unless_none (used r) in
    let end = r.opening ⨾ r.duration ⨾ r.cause ⨾ unless0 r.number ⨾ tt in
    let node = unless_none (take r.nodelen r.nodeid) in
    sym (layout_parts front_rows (drop 5 table) front (cs ⨾ both end_rows (NodeId ∷ []) end (node ⨾ tt))
    ∙ ap (λ (z : List ℕ). (layout front_rows).enc front ++ (row_enc Changes cs ++ z))
    (layout_parts end_rows (NodeId ∷ []) end (node ⨾ tt) ∙ ap (λ (z : List ℕ). (layout end_rows).enc end ++ z) (append-nil (row_enc NodeId node))))

-- what the writer of a list asks holds, so it has a form
pub list_form_lem : (r : MmRecord) → T (within r) → length r.changes ≡ 15
    → list_form (tag Changes) r.count r.changes ≡ Some (row_enc Changes (unless_none (used r)))
list_form_lem r t l =
    let p = places_rules r (withins r t).list in
    form_row r.count r.changes (omega (arith, p.most)) p.most
    (changes_times r.opening.zone r.opening.seconds r.place (used r) p.list)
