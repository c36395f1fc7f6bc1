-- The parts in which the code writes a record's fields make its body.
use mathlib.Core.Path.{◌≡◌, sym, ap, ◌∙◌}
use mathlib.Core.Bool.{◌&&◌}
use Rattle.std.specs.Prelude.{Some}
use mathlib.Core.List.{List, [], ◌∷◌, ◌++◌, append-nil}
use Prim.Native.Nat.{ℕ, ◌-◌, ◌≤◌}
use native.Mathlib.Omega.{arith}
use lib.Dec.{T, leb, le→leb}
use lib.ListN.{length, take, drop, get_or}
use lib.Seq.{length-take-le}
use Rattle.format.specs.Maybe.{guard}
use Rattle.format.proofs.Maybe.{guard_yes}
use Rattle.format.proofs.Tests.{and_i}
use Rattle.ber.specs.Field.{unless0, unless_none, ◌⨾◌}
use Rattle.ber.specs.Table.{layout, row_enc}
use Rattle.ber.specs.Table.{both}
use Rattle.ber.proofs.Tables.{layout_parts}
use Rattle.container.specs.Container.{no_container}
use Rattle.container.specs.List.{all_formed}
use Rattle.scdr.specs.declared.Record.{Record}
use Rattle.scdr.specs.Rules.{within, duration}
use Rattle.scdr.specs.Table.{Containers, NodeId, table}
use Rattle.scdr.specs.Layout.{body, of_record, fields_of}
use Rattle.scdr.specs.Private.Parts.{front_rows, front_enc, pdp_rows, pdp_enc, end_rows, end_enc}
use Rattle.scdr.proofs.Views.{withins, places_rules}
use Rattle.scdr.proofs.Theorems.{list_rules}
use Rattle.scdr.proofs.Durations.{duration_is}

pub body_parts : (r : Record)
    → front_enc r.network r.imsi r.sgsn r.charging
    ++ (pdp_enc r.ggsn (take r.apnlen r.apn) r.pdptype r.address
    ++ (row_enc Containers (take r.count r.containers)
    ++ (end_enc r.opening (duration r) r.change r.cause r.number
    ++ row_enc NodeId (unless_none (take r.nodelen r.nodeid)))))
    ≡ body.enc (of_record r)
unfolding body of_record fields_of
body_parts r =
    let front = tt ⨾ r.network ⨾ r.imsi ⨾ r.sgsn ⨾ r.charging ⨾ tt in
    let pdp = r.ggsn ⨾ take r.apnlen r.apn ⨾ r.pdptype ⨾ r.address ⨾ tt in
    let cs = take r.count r.containers in
    let end = r.opening ⨾ duration r ⨾ r.change ⨾ r.cause ⨾ unless0 r.number ⨾ tt in
    let node = unless_none (take r.nodelen r.nodeid) in
    sym (layout_parts front_rows (drop 5 table) front (both pdp_rows (drop 9 table) pdp (cs ⨾ both end_rows (NodeId ∷ []) end (node ⨾ tt)))
    ∙ ap (λ (z : List ℕ). (layout front_rows).enc front ++ z)
    (layout_parts pdp_rows (drop 9 table) pdp (cs ⨾ both end_rows (NodeId ∷ []) end (node ⨾ tt))
    ∙ ap (λ (z : List ℕ). (layout pdp_rows).enc pdp ++ (row_enc Containers cs ++ z))
    (layout_parts end_rows (NodeId ∷ []) end (node ⨾ tt) ∙ ap (λ (z : List ℕ). (layout end_rows).enc end ++ z) (append-nil (row_enc NodeId node)))))

-- a record within the rules has 1 to 15 containers
pub count_known : (r : Record) → T (within r) → length r.containers ≡ 15 → (1 ≤ r.count) × (r.count ≤ 15)
count_known r t l =
    let p = places_rules r (withins r t).list in
    let k = list_rules r.opening (take r.count r.containers) p.list in
    (omega (arith, k.least, length-take-le r.count r.containers (omega (arith, p.most))), p.most)

-- what follows the list, with how long the record lasted by its last container
pub end_lasted : (r : Record) → T (within r) → length r.containers ≡ 15 → {d : ℕ}
    → d ≡ (get_or r.containers (r.count - 1) no_container).time.seconds - r.opening.seconds
    → end_enc r.opening d r.change r.cause r.number ≡ end_enc r.opening (duration r) r.change r.cause r.number
unfolding duration
end_lasted r t l e =
    let n = count_known r t l in
    ap (λ (d : ℕ). end_enc r.opening d r.change r.cause r.number)
    (e ∙ duration_is r.opening.seconds r.containers r.count no_container n.0 (omega (arith, n.1)))

-- what the writer of a list asks holds, so it has a form
pub list_form_lem : (r : Record) → T (within r) → length r.containers ≡ 15
    → guard (leb 1 r.count && leb r.count 15 && all_formed no_container (take r.count r.containers))
    (row_enc Containers (take r.count r.containers))
    ≡ Some (row_enc Containers (take r.count r.containers))
list_form_lem r t l =
    let p = places_rules r (withins r t).list in
    let k = list_rules r.opening (take r.count r.containers) p.list in
    let n = length-take-le r.count r.containers (omega (arith, p.most)) in
    guard_yes (leb 1 r.count && leb r.count 15 && all_formed no_container (take r.count r.containers))
    (row_enc Containers (take r.count r.containers))
    (and_i (leb 1 r.count && leb r.count 15) (all_formed no_container (take r.count r.containers))
    (and_i (leb 1 r.count) (leb r.count 15) (le→leb 1 r.count (omega (arith, k.least))) (le→leb r.count 15 p.most)) k.formed)
