-- The theorems of the record's octets: the rules are what the format takes, a record within them reads back, what reads is the octets of
-- one record within them and of no other, and none passes 1,024 octets.
use mathlib.Core.Path.{◌≡◌, sym, ap, ◌∙◌}
use mathlib.Core.Logic.{◌↔◌}
use mathlib.Core.Bool.{Bool, true, false, ◌&&◌}
use Rattle.std.specs.Prelude.{None, Some}
use mathlib.Core.List.{List, [], ◌∷◌}
use Prim.Native.Nat.{ℕ, ◌^◌, ◌≤◌, ◌<◌}
use native.Mathlib.Omega.{arith}
use lib.Dec.{T, leb, ltb, leb→le, ltb→lt, le→leb, lt→ltb}
use lib.ListN.{length, take}
use lib.Seq.{length-take-le}
use Rattle.format.specs.Format.{Law}
use Rattle.format.proofs.Tests.{T_true, and_l, and_r}
use Rattle.format.proofs.Formats.{viewed_law, injective, refuses}
use Rattle.ber.specs.Field.{◌⨾◌}
use Rattle.ber.specs.Table.{if_set, row_good, tag}
use Rattle.ber.proofs.Ints.{int_good}
use Rattle.ber.proofs.Counts.{number_good}
use Rattle.ber.proofs.Texts.{octets_good}
use Rattle.ber.proofs.Fields.{Caps, alone_law}
use Rattle.calendar.specs.declared.Stamp.{Stamp}
use Rattle.calendar.specs.Stamp.{stamp_ok}
use Rattle.container.specs.declared.Container.{Container}
use Rattle.container.specs.Qos.{qos_ok}
use Rattle.container.specs.Container.{container_ok, no_container}
use Rattle.container.proofs.Formats.{each_good, first_formed}
use Rattle.container.specs.List.{each_ok, last_alone, one_offset, in_order, qos_rule, list_ok, all_formed, containers}
use Rattle.scdr.specs.declared.Record.{Record}
use Rattle.scdr.specs.Rules.{shaped, within, number_ok, last_time, duration, duration_from}
use Rattle.scdr.specs.Table.{record_tag, Network, Change, Number, NodeId}
use Rattle.scdr.specs.Layout.{body, of_record, fields_of, to_record, duration_right, rules, inside, scdr}
use Rattle.scdr.proofs.BodyLaw.{body_law}
use Rattle.octets.specs.Chars.{lowered}
use Rattle.octets.specs.Names.{apn_ok}
use Rattle.octets.proofs.NameRules.{apn_rules, node_rules}
use Rattle.octets.proofs.Checked.{stored_lowered}
use Rattle.scdr.proofs.Views.{shape, withins, places_rules, fields_back, record_back}

-- ---- the rules of a list one by one, as far as the octets rest on them

pub record Listed (cs : List Container) : Type 0 where
  pub least : 1 ≤ length cs
  pub most : length cs ≤ 15
  pub each : T (each_ok cs)
  pub formed : T (all_formed no_container cs)

pub list_rules : (o : Stamp) (cs : List Container) → T (list_ok o cs) → Listed cs
unfolding list_ok
list_rules o cs t =
    let a = leb 1 (length cs) in
    let b = leb (length cs) 15 in
    let c = each_ok cs in
    let d = last_alone cs in
    let e = one_offset o.zone cs in
    let f = in_order o.seconds cs in
    let g = qos_rule cs in
    let t3 = and_l (a && b && c) d (and_l (a && b && c && d) e (and_l (a && b && c && d && e) f (and_l (a && b && c && d && e && f) g t))) in
    let h = and_r (a && b) c t3 in
    let t2 = and_l (a && b) c t3 in
    record {
      least = leb→le 1 (length cs) (and_l a b t2);
      most = leb→le (length cs) 15 (and_r a b t2);
      each = h;
      formed = first_formed cs h (and_r (a && b && c && d && e && f) g t);
    }

-- ---- a duration is short

seconds_most : (c : Container) → T (container_ok c) → c.time.seconds < 3155760000
unfolding container_ok stamp_ok
seconds_most c t =
    let u : T (stamp_ok c.time) = and_r (qos_ok c.qos && ltb c.uplink (2 ^ 40) && ltb c.downlink (2 ^ 40) && leb c.condition 2)
    (stamp_ok c.time) t in
    ltb→lt c.time.seconds 3155760000 (and_l (ltb c.time.seconds 3155760000) (leb c.time.zone 1560) u)

last_most : (t : ℕ) (cs : List Container) → t < 3155760000 → T (each_ok cs) → last_time t cs < 3155760000
unfolding last_time each_ok
last_most t [] h g = h
last_most t (c ∷ cs) h g = last_most c.time.seconds cs (seconds_most c (and_l (container_ok c) (each_ok cs) g)) (and_r (container_ok c) (each_ok cs) g)

opening_most : (o : Stamp) → T (stamp_ok o) → o.seconds < 3155760000
unfolding stamp_ok
opening_most o t = ltb→lt o.seconds 3155760000 (and_l (ltb o.seconds 3155760000) (leb o.zone 1560) t)

-- ---- optional fields

flag_good : (t : ℕ) (c : List ℕ) (b : Bool) → row_good (if_set t c) b
flag_good t c true = tt
flag_good t c false = tt

number_most : (c n : ℕ) → T (number_ok c n) → n ≤ 10 ^ 15
unfolding number_ok
number_most c n t = leb→le n (10 ^ 15) (and_l (leb n (10 ^ 15)) _ t)

-- ---- the rules are what the format takes

rules_body : (r : Record) → T (rules r) → body.good (of_record r)
unfolding body of_record fields_of duration containers
rules_body r t =
    let h = shape r (and_l (shaped r) (within r) t) in
    let w = withins r (and_r (shaped r) (within r) t) in
    let a = apn_rules r.apn r.apnlen w.apn in
    let n = node_rules r.nodeid r.nodelen w.node in
    let p = places_rules r w.list in
    let l = list_rules r.opening (take r.count r.containers) p.list in
    let d = last_most r.opening.seconds (take r.count r.containers) (opening_most r.opening w.opening) l.each in
    let apnlen : length (take r.apnlen r.apn) ≡ r.apnlen = length-take-le r.apnlen r.apn (omega (arith, h.apn, a.most)) in
    let nodelen : length (take r.nodelen r.nodeid) ≡ r.nodelen = length-take-le r.nodelen r.nodeid (omega (arith, h.node, n.most)) in
    tt
    ⨾ flag_good (tag Network) (0xFF ∷ []) r.network
    ⨾ w.imsi
    ⨾ (lt→ltb r.sgsn (256 ^ 4) h.sgsn, tt)
    ⨾ (int_good r.charging (omega (arith, h.charging)), lt→ltb r.charging (2 ^ 32) h.charging)
    ⨾ (lt→ltb r.ggsn (256 ^ 4) h.ggsn, tt)
    ⨾ (omega (arith, apnlen, a.most), le→leb 1 (length (take r.apnlen r.apn)) (omega (arith, apnlen, a.least)))
    ⨾ lt→ltb r.pdptype (256 ^ 2) h.pdptype
    ⨾ ((lt→ltb r.address (256 ^ 4) h.address, tt), tt)
    ⨾ each_good (take r.count r.containers) l.formed l.least l.most
    ⨾ w.opening
    ⨾ int_good (duration_from r.opening.seconds (take r.count r.containers)) (omega arith)
    ⨾ flag_good (tag Change) (0xFF ∷ []) r.change
    ⨾ tt
    ⨾ number_good (tag Number) r.number (omega (arith, number_most r.cause r.number w.number))
    ⨾ octets_good (tag NodeId) 20 (take r.nodelen r.nodeid) (omega (arith, nodelen, n.most))
    ⨾ tt

-- a record is one that the format takes exactly where it is within the rules
pub good_is_rules : (r : Record) → scdr.good r ↔ T (rules r)
unfolding scdr inside
good_is_rules r = (λ g. g.0.1, λ t. ((rules_body r t, t), tt))

pub inside_law : Law inside
unfolding inside
inside_law = viewed_law duration_right rules to_record of_record body body_law fields_back record_back

pub inside_caps : Caps inside
unfolding inside body containers
inside_caps = tt

pub scdr_law : Law scdr
unfolding scdr
scdr_law = alone_law record_tag inside inside_law inside_caps

-- ---- the theorems

-- no record within the rules passes 1,024 octets
pub at_most_1024 : (r : Record) → T (rules r) → length (scdr.enc r) ≤ 1024
unfolding scdr inside body containers
at_most_1024 r t = let h = scdr_law.fits r ((good_is_rules r).1 t) in omega arith

-- the octets of a record within the rules read back as that record
pub round_trip : (r : Record) → T (rules r) → scdr.dec (scdr.enc r) ≡ Some r
round_trip r t = scdr_law.complete r ((good_is_rules r).1 t)

-- octets read as a record exactly where the record is within the rules and they are its octets
pub exact : (s : List ℕ) (r : Record) → (scdr.dec s ≡ Some r) ↔ (T (rules r) × (scdr.enc r ≡ s))
exact s r = (
  λ e. let p = scdr_law.sound s r e in ((good_is_rules r).0 p.0, p.1),
  λ h. sym (ap scdr.dec h.1) ∙ round_trip r h.0,
)

-- two records within the rules with the same octets are equal
pub one_record : (a b : Record) → T (rules a) → T (rules b) → scdr.enc a ≡ scdr.enc b → a ≡ b
one_record a b s t e = injective scdr scdr_law a b ((good_is_rules a).1 s) ((good_is_rules b).1 t) e

-- what is refused is the octets of no record within the rules
pub none_refused : (s : List ℕ) → scdr.dec s ≡ None → (r : Record) → T (rules r) → scdr.enc r ≡ s → ⊥
none_refused s n r t e = refuses scdr scdr_law s n r ((good_is_rules r).1 t) e

-- the access point name of a record that is read is lowered: "The reader refuses capitals" (02, W5)
pub no_capitals : (s : List ℕ) (r : Record) → scdr.dec s ≡ Some r → lowered (take r.apnlen r.apn) ≡ take r.apnlen r.apn
unfolding rules
no_capitals s r e =
    let w = withins r (and_r (shaped r) (within r) ((exact s r).0 e).0) in
    stored_lowered r.apn r.apnlen (T_true (apn_ok r.apn r.apnlen) w.apn)
