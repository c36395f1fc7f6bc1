-- Between a record and its fields: nothing is lost either way.
use mathlib.Core.Path.{◌≡◌, sym, ap, ◌∙◌}
use mathlib.Core.Bool.{◌&&◌}
use Prim.Native.Nat.{ℕ, ◌^◌, ◌≤◌, ◌<◌}
use native.Mathlib.Omega.{arith}
use lib.Dec.{T, leb, ltb, eqb, eqb→eq, eqb_refl, leb→le, ltb→lt}
use lib.ListN.{length, take, drop}
use lib.Seq.{length-take-le}
use Rattle.format.proofs.Tests.{and_l, and_r, T_true}
use Rattle.ber.specs.Field.{unless0, or_zero, unless_none, ◌⨾◌}
use Rattle.ber.specs.Table.{tag}
use Rattle.ber.specs.Imsi.{imsi_ok}
use Rattle.ber.proofs.Counts.{number_back, number_kept}
use Rattle.calendar.specs.Stamp.{stamp_ok}
use Rattle.container.specs.List.{list_ok, blanks, padded}
use Rattle.scdr.specs.declared.Record.{Record}
use Rattle.octets.specs.Names.{apn_ok, node_ok}
use Rattle.scdr.specs.Rules.{list_rule, cause_ok, number_ok, change_ok, shaped, within, duration, duration_from}
use Rattle.ber.specs.Text.{or_none}
use Rattle.scdr.specs.Table.{Number, NodeId}
use Rattle.octets.specs.Filled.{fill_to}
use Rattle.scdr.specs.Layout.{Fields, body, of_record, fields_of, to_record, duration_right, rules}
use Rattle.octets.proofs.NameRules.{apn_rules, node_rules}
use Rattle.octets.proofs.Filled.{take_fill, fill_take, zeros_are}
use Rattle.container.proofs.Padded.{blanks_are, take_padded, padded_take}
use Rattle.ber.proofs.Texts.{octets_back, none_kept}

-- ---- the rules one by one

pub record Shape (r : Record) : Type 0 where
  pub apn : length r.apn ≡ 63
  pub places : length r.containers ≡ 15
  pub node : length r.nodeid ≡ 20
  pub sgsn : r.sgsn < 2 ^ 32
  pub charging : r.charging < 2 ^ 32
  pub ggsn : r.ggsn < 2 ^ 32
  pub pdptype : r.pdptype < 2 ^ 16
  pub address : r.address < 2 ^ 32

pub shape : (r : Record) → T (shaped r) → Shape r
unfolding shaped
shape r t =
    let a = eqb (length r.apn) 63 in
    let b = eqb (length r.containers) 15 in
    let c = eqb (length r.nodeid) 20 in
    let d = ltb r.sgsn (2 ^ 32) in
    let e = ltb r.charging (2 ^ 32) in
    let f = ltb r.ggsn (2 ^ 32) in
    let g = ltb r.pdptype (2 ^ 16) in
    let h = ltb r.address (2 ^ 32) in
    let t7 = and_l (a && b && c && d && e && f && g) h t in
    let t6 = and_l (a && b && c && d && e && f) g t7 in
    let t5 = and_l (a && b && c && d && e) f t6 in
    let t4 = and_l (a && b && c && d) e t5 in
    let t3 = and_l (a && b && c) d t4 in
    let t2 = and_l (a && b) c t3 in
    record {
      apn = eqb→eq (length r.apn) 63 (and_l a b t2);
      places = eqb→eq (length r.containers) 15 (and_r a b t2);
      node = eqb→eq (length r.nodeid) 20 (and_r (a && b) c t3);
      sgsn = ltb→lt r.sgsn (2 ^ 32) (and_r (a && b && c) d t4);
      charging = ltb→lt r.charging (2 ^ 32) (and_r (a && b && c && d) e t5);
      ggsn = ltb→lt r.ggsn (2 ^ 32) (and_r (a && b && c && d && e) f t6);
      pdptype = ltb→lt r.pdptype (2 ^ 16) (and_r (a && b && c && d && e && f) g t7);
      address = ltb→lt r.address (2 ^ 32) (and_r (a && b && c && d && e && f && g) h t);
    }

pub record Within (r : Record) : Type 0 where
  pub imsi : T (imsi_ok r.imsi)
  pub apn : T (apn_ok r.apn r.apnlen)
  pub opening : T (stamp_ok r.opening)
  pub list : T (list_rule r)
  pub cause : T (cause_ok r.cause)
  pub number : T (number_ok r.cause r.number)
  pub change : T (change_ok r.change r.number)
  pub node : T (node_ok r.nodeid r.nodelen)

pub withins : (r : Record) → T (within r) → Within r
unfolding within
withins r t =
    let a = imsi_ok r.imsi in
    let b = apn_ok r.apn r.apnlen in
    let c = stamp_ok r.opening in
    let d = list_rule r in
    let e = cause_ok r.cause in
    let f = number_ok r.cause r.number in
    let g = change_ok r.change r.number in
    let h = node_ok r.nodeid r.nodelen in
    let t7 = and_l (a && b && c && d && e && f && g) h t in
    let t6 = and_l (a && b && c && d && e && f) g t7 in
    let t5 = and_l (a && b && c && d && e) f t6 in
    let t4 = and_l (a && b && c && d) e t5 in
    let t3 = and_l (a && b && c) d t4 in
    let t2 = and_l (a && b) c t3 in
    record {
      imsi = and_l a b t2;
      apn = and_r a b t2;
      opening = and_r (a && b) c t3;
      list = and_r (a && b && c) d t4;
      cause = and_r (a && b && c && d) e t5;
      number = and_r (a && b && c && d && e) f t6;
      change = and_r (a && b && c && d && e && f) g t7;
      node = and_r (a && b && c && d && e && f && g) h t;
    }

pub record Places (r : Record) : Type 0 where
  pub most : r.count ≤ 15
  pub list : T (list_ok r.opening (take r.count r.containers))
  pub rest : T (blanks (drop r.count r.containers))

pub places_rules : (r : Record) → T (list_rule r) → Places r
unfolding list_rule
places_rules r t =
    let l = list_ok r.opening (take r.count r.containers) in
    let b = blanks (drop r.count r.containers) in
    let u = and_l (leb r.count 15 && l) b t in
    record {
      most = leb→le r.count 15 (and_l (leb r.count 15) l u);
      list = and_r (leb r.count 15) l u;
      rest = and_r (leb r.count 15 && l) b t;
    }

-- ---- from fields to a record and back

pub fields_back : (w : Fields) → body.good w → T (duration_right w) → of_record (to_record w) ≡ w
unfolding body of_record fields_of to_record duration_right duration
fields_back (_, (network, (imsi, (sgsn, (id, (ggsn, (apn, (pdptype, (address, (cs, (o, (lasts, (change, (cause, (number, (node, _)))))))))))))))) g t =
    let last = g.1.1.1.1.1.1.1.1.1.1.1.1.1.1 in
    let a : take (length apn) (fill_to 63 0 apn) ≡ apn = take_fill 63 0 apn in
    let l : take (length cs) (padded cs) ≡ cs = take_padded cs in
    let d : duration_from o.seconds (take (length cs) (padded cs)) ≡ lasts =
    ap (duration_from o.seconds) l ∙ sym (eqb→eq lasts (duration_from o.seconds cs) t) in
    let n : unless0 (or_zero number) ≡ number = number_back (tag Number) number last.0 in
    let s : unless_none (take (length (or_none node)) (fill_to 20 0 (or_none node))) ≡ node =
    ap unless_none (take_fill 20 0 (or_none node)) ∙ octets_back (tag NodeId) 20 node last.1.0 in
    λ i. tt ⨾ network ⨾ imsi ⨾ sgsn ⨾ id ⨾ ggsn ⨾ a i ⨾ pdptype ⨾ address ⨾ l i ⨾ o ⨾ d i ⨾ change ⨾ cause ⨾ n i ⨾ s i ⨾ tt

-- ---- from a record to fields and back

-- what is not used in a record is as the fields leave it
pub record Made (r : Record) : Type 0 where
  pub apn : fill_to 63 0 (take r.apnlen r.apn) ≡ r.apn
  pub apnlen : length (take r.apnlen r.apn) ≡ r.apnlen
  pub list : padded (take r.count r.containers) ≡ r.containers
  pub count : length (take r.count r.containers) ≡ r.count
  pub node : fill_to 20 0 (take r.nodelen r.nodeid) ≡ r.nodeid
  pub nodelen : length (take r.nodelen r.nodeid) ≡ r.nodelen

pub made : (r : Record) (lasts : ℕ) → Made r → to_record (fields_of r lasts) ≡ r
unfolding fields_of to_record
made r lasts m =
    let k = none_kept (take r.nodelen r.nodeid) in
    let node = ap (fill_to 20 0) k ∙ m.node in
    let nodelen = ap length k ∙ m.nodelen in
    λ i. record {
      network = r.network;
      imsi = r.imsi;
      sgsn = r.sgsn;
      charging = r.charging;
      ggsn = r.ggsn;
      apn = m.apn i;
      apnlen = m.apnlen i;
      pdptype = r.pdptype;
      address = r.address;
      containers = m.list i;
      count = m.count i;
      opening = r.opening;
      change = r.change;
      cause = r.cause;
      number = number_kept r.number i;
      nodeid = node i;
      nodelen = nodelen i;
    }

rules_made : (r : Record) → T (rules r) → Made r
rules_made r t =
    let h = shape r (and_l (shaped r) (within r) t) in
    let w = withins r (and_r (shaped r) (within r) t) in
    let a = apn_rules r.apn r.apnlen w.apn in
    let n = node_rules r.nodeid r.nodelen w.node in
    let p = places_rules r w.list in
    record {
      apn = fill_take 63 0 r.apnlen r.apn h.apn a.most (zeros_are (drop r.apnlen r.apn) a.rest);
      apnlen = length-take-le r.apnlen r.apn (omega (arith, h.apn, a.most));
      list = padded_take r.count r.containers h.places p.most (blanks_are (drop r.count r.containers)
          (T_true (blanks (drop r.count r.containers)) p.rest));
      count = length-take-le r.count r.containers (omega (arith, h.places, p.most));
      node = fill_take 20 0 r.nodelen r.nodeid h.node n.most (zeros_are (drop r.nodelen r.nodeid) n.rest);
      nodelen = length-take-le r.nodelen r.nodeid (omega (arith, h.node, n.most));
    }

pub record_back : (r : Record) → T (rules r) → T (duration_right (of_record r)) × (to_record (of_record r) ≡ r)
unfolding of_record fields_of duration_right duration
record_back r t = (eqb_refl (duration_from r.opening.seconds (take r.count r.containers)), made r (duration r) (rules_made r t))
