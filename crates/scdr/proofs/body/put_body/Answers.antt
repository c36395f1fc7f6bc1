-- `scdr::body::put_body` meets its contract: the parts one after another make the body.
use mathlib.Core.Path.{◌≡◌, sym}
use Prim.Native.Nat.{◌≤◌}
use native.Mathlib.Omega.{arith}
use lib.ListN.{length}
use borrow.Author.Rules.{rules, rules as searching}
use lib.Dec.{T}
use Rattle.format.proofs.Tests.{and_i, true_T}
use Rattle.scdr.specs.Rules.{shaped, within}
use Rattle.scdr.specs.Layout.{rules as rules_of}
use Rattle.scdr.proofs.Answering.{shaped_is, body_filled}
use Rattle.ber.specs.Table.{tag}
use Rattle.ber.proofs.Texts.{opt_value}
use Rattle.ber.proofs.Writers.{wrote, wrote_then, wrote_is, wrote_cut}
use Rattle.scdr.specs.Table.{NodeId}
use Rattle.format.proofs.Arrays.{length_of_map}
use Rattle.octets.proofs.NameRules.{apn_rules, node_rules}
use Rattle.scdr.proofs.Views.{withins}
use Rattle.scdr.proofs.BodyParts.{body_parts, count_known, end_lasted, list_form_lem}
use Rattle.scdr.proofs.body.put_body.Goals as goal

pub overflow_sub-r : goal.overflow_sub-r
overflow_sub-r c =
    let places_known : length c.args.r.now.containers ≡ 15 =
    search (rules, length_of_map) in
    let last_known : (1 ≤ c.args.r.now.count) × (c.args.r.now.count ≤ 15) =
    count_known c.args.r.now c.requires.1 places_known in
    omega (arith, last_known)

pub offset_bounds-r-r : goal.offset_bounds-r-r
offset_bounds-r-r c =
    let places_known : length c.args.r.now.containers ≡ 15 =
    search (rules, length_of_map) in
    let last_known : (1 ≤ c.args.r.now.count) × (c.args.r.now.count ≤ 15) =
    count_known c.args.r.now c.requires.1 places_known in
    omega (arith, last_known)

pub bounds-r-r : goal.bounds-r-r
bounds-r-r c =
    let places_known : length c.args.r.now.containers ≡ 15 =
    search (rules, length_of_map) in
    let last_known : (1 ≤ c.args.r.now.count) × (c.args.r.now.count ≤ 15) =
    count_known c.args.r.now c.requires.1 places_known in
    omega (
      arith,
      last_known,
      places_known,
    )

pub put_front-requires : goal.put_front-requires
put_front-requires c = (withins c.args.r.now
    c.requires.1).imsi

pub put_pdp-requires : goal.put_pdp-requires
put_pdp-requires c = let r = c.args.r.now in
    (apn_rules r.apn r.apnlen (withins r
    c.requires.1).apn).most

pub put_end-requires : goal.put_end-requires
put_end-requires c = (withins c.args.r.now
    c.requires.1).opening

pub slice_bounds-put_opt_text-end : goal.slice_bounds-put_opt_text-end
slice_bounds-put_opt_text-end c =
    let node_known : length c.args.r.now.nodeid ≡ 20 =
    search rules in
    sym node_known

pub returns-in_err-at : goal.returns-in_err-at
returns-in_err-at c =
    let r = c.args.r.now in
    let p : length r.containers ≡ 15 = search (rules, length_of_map) in
    let k : length r.nodeid ≡ 20 = search rules in
    let n = node_rules r.nodeid r.nodelen (withins r c.requires.1).node in
    let t : T (rules_of r) = and_i (shaped r) (within r) (true_T (shaped r)
    (shaped_is r (search searching) (search (searching, length_of_map)) (search searching) (omega arith) (omega arith) (omega arith) (omega arith) (omega arith))) c.requires.1 in
    absurd (body_filled r t c.requires.0 (wrote_is (body_parts r) (wrote_cut _ c.in_err-at.ensures)))

pub returns-in_err-at-2 : goal.returns-in_err-at-2
returns-in_err-at-2 c =
    let r = c.args.r.now in
    let p : length r.containers ≡ 15 = search (rules, length_of_map) in
    let k : length r.nodeid ≡ 20 = search rules in
    let n = node_rules r.nodeid r.nodelen (withins r c.requires.1).node in
    let t : T (rules_of r) = and_i (shaped r) (within r) (true_T (shaped r)
    (shaped_is r (search searching) (search (searching, length_of_map)) (search searching) (omega arith) (omega arith) (omega arith) (omega arith) (omega arith))) c.requires.1 in
    absurd (body_filled r t c.requires.0 (wrote_is (body_parts r) (wrote_then c.in_ok-at.ensures (wrote_cut _ c.in_err-at-2.ensures))))

pub returns-in_err-at-3 : goal.returns-in_err-at-3
returns-in_err-at-3 c =
    let r = c.args.r.now in
    let p : length r.containers ≡ 15 = search (rules, length_of_map) in
    let k : length r.nodeid ≡ 20 = search rules in
    let n = node_rules r.nodeid r.nodelen (withins r c.requires.1).node in
    let t : T (rules_of r) = and_i (shaped r) (within r) (true_T (shaped r)
    (shaped_is r (search searching) (search (searching, length_of_map)) (search searching) (omega arith) (omega arith) (omega arith) (omega arith) (omega arith))) c.requires.1 in
    absurd (body_filled r t c.requires.0 (wrote_is (body_parts r) (wrote_then c.in_ok-at.ensures (wrote_then c.in_ok-at-2.ensures (wrote_cut _ (wrote (list_form_lem r c.requires.1 p) c.in_err-at-3.ensures))))))

pub returns-in_err-at-4 : goal.returns-in_err-at-4
returns-in_err-at-4 c =
    let r = c.args.r.now in
    let p : length r.containers ≡ 15 = search (rules, length_of_map) in
    let k : length r.nodeid ≡ 20 = search rules in
    let n = node_rules r.nodeid r.nodelen (withins r c.requires.1).node in
    let t : T (rules_of r) = and_i (shaped r) (within r) (true_T (shaped r)
    (shaped_is r (search searching) (search (searching, length_of_map)) (search searching) (omega arith) (omega arith) (omega arith) (omega arith) (omega arith))) c.requires.1 in
    absurd (body_filled r t c.requires.0 (wrote_is (body_parts r) (wrote_then c.in_ok-at.ensures (wrote_then c.in_ok-at-2.ensures (wrote_then (wrote (list_form_lem r c.requires.1 p) c.in_ok-at-3.ensures) (wrote_cut _ (wrote_is (end_lasted r c.requires.1 p c.lasted-lasts.ensures) c.in_err-at-4.ensures)))))))

pub returns : goal.returns
returns c =
    let r = c.args.r.now in
    let p : length r.containers ≡ 15 = search (rules, length_of_map) in
    let k : length r.nodeid ≡ 20 = search rules in
    let n = node_rules r.nodeid r.nodelen (withins r c.requires.1).node in
    let t : T (rules_of r) = and_i (shaped r) (within r) (true_T (shaped r)
    (shaped_is r (search searching) (search (searching, length_of_map)) (search searching) (omega arith) (omega arith) (omega arith) (omega arith) (omega arith))) c.requires.1 in
    body_filled r t c.requires.0 (wrote_is (body_parts r)
    (wrote_then c.in_ok-at.ensures
    (wrote_then c.in_ok-at-2.ensures
    (wrote_then (wrote (list_form_lem r c.requires.1 p) c.in_ok-at-3.ensures)
    (wrote_then (wrote_is (end_lasted r c.requires.1 p c.lasted-lasts.ensures) c.in_ok-at-4.ensures)
    ((wrote (opt_value (tag NodeId) 20 r.nodeid r.nodelen (omega (arith, n.most, k)) (omega (arith, n.most)))
    c.put_opt_text.ensures)))))))
