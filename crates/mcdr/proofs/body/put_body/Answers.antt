-- `mcdr::body::put_body` meets its contract: the parts one after another make the body.
use mathlib.Core.Path.{◌≡◌, sym}
use native.Mathlib.Omega.{arith}
use lib.ListN.{length}
use borrow.Author.Rules.{rules}
use Rattle.format.proofs.Tests.{true_T}
use Rattle.format.proofs.Arrays.{length_of_map}
use Rattle.ber.specs.Table.{tag}
use Rattle.ber.proofs.Texts.{opt_value}
use Rattle.ber.proofs.Writers.{wrote, wrote_then, wrote_is, wrote_cut}
use Rattle.octets.proofs.NameRules.{node_rules}
use Rattle.mcdr.specs.Table.{NodeId}
use Rattle.mcdr.proofs.Views.{withins}
use Rattle.mcdr.proofs.Answering.{body_filled}
use Rattle.mcdr.proofs.BodyParts.{body_parts, list_form_lem}
use Rattle.mcdr.proofs.body.put_body.Goals as goal

pub put_front-requires : goal.put_front-requires
put_front-requires c = true_T _ (withins c.args.r.now c.requires.1).imsi

pub put_end-requires : goal.put_end-requires
put_end-requires c = true_T _ (withins c.args.r.now c.requires.1).opening

pub slice_bounds-put_opt_text-end : goal.slice_bounds-put_opt_text-end
slice_bounds-put_opt_text-end c =
    let node_known : length c.args.r.now.nodeid ≡ 20 =
    search rules in
    sym node_known

pub returns-in_err-at : goal.returns-in_err-at
returns-in_err-at c =
    let r = c.args.r.now in
    let p : length r.changes ≡ 15 = search (rules, length_of_map) in
    let k : length r.nodeid ≡ 20 = search rules in
    let n = node_rules r.nodeid r.nodelen (true_T _ (withins r c.requires.1).node) in
    absurd (body_filled r (withins r c.requires.1) p k (omega arith) c.requires.0 (wrote_is (body_parts r) (wrote_cut _ c.in_err-at.ensures)))

pub returns-in_err-at-2 : goal.returns-in_err-at-2
returns-in_err-at-2 c =
    let r = c.args.r.now in
    let p : length r.changes ≡ 15 = search (rules, length_of_map) in
    let k : length r.nodeid ≡ 20 = search rules in
    let n = node_rules r.nodeid r.nodelen (true_T _ (withins r c.requires.1).node) in
    absurd (body_filled r (withins r c.requires.1) p k (omega arith) c.requires.0 (wrote_is (body_parts r) (wrote_then c.in_ok-at.ensures (wrote_cut _ (wrote (list_form_lem r c.requires.1 p) c.in_err-at-2.ensures)))))

pub returns-in_err-at-3 : goal.returns-in_err-at-3
returns-in_err-at-3 c =
    let r = c.args.r.now in
    let p : length r.changes ≡ 15 = search (rules, length_of_map) in
    let k : length r.nodeid ≡ 20 = search rules in
    let n = node_rules r.nodeid r.nodelen (true_T _ (withins r c.requires.1).node) in
    absurd (body_filled r (withins r c.requires.1) p k (omega arith) c.requires.0 (wrote_is (body_parts r) (wrote_then c.in_ok-at.ensures (wrote_then (wrote (list_form_lem r c.requires.1 p) c.in_ok-at-2.ensures) (wrote_cut _ c.in_err-at-3.ensures)))))

pub returns : goal.returns
returns c =
    let r = c.args.r.now in
    let p : length r.changes ≡ 15 = search (rules, length_of_map) in
    let k : length r.nodeid ≡ 20 = search rules in
    let n = node_rules r.nodeid r.nodelen (true_T _ (withins r c.requires.1).node) in
    body_filled r (withins r c.requires.1) p k (omega arith) c.requires.0 (wrote_is (body_parts r)
    (wrote_then c.in_ok-at.ensures
    (wrote_then (wrote (list_form_lem r c.requires.1 p) c.in_ok-at-2.ensures)
    (wrote_then c.in_ok-at-3.ensures
    ((wrote (opt_value (tag NodeId) 20 r.nodeid r.nodelen (omega (arith, n.most, k)) (omega (arith, n.most)))
    c.put_opt_text.ensures))))))
