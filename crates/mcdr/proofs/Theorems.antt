-- The theorems of the record's octets: the rules are what the format takes, a record within them reads back, what reads is the octets of one record
-- within them and of no other, and none passes 400 octets.
use mathlib.Core.Path.{◌≡◌, refl, sym, ap, ◌∙◌}
use mathlib.Core.Logic.{◌↔◌}
use mathlib.Core.Bool.{true}
use Rattle.std.specs.Prelude.{None, Some}
use mathlib.Core.List.{List, [], ◌∷◌, append-nil}
use Prim.Native.Nat.{ℕ, zero, suc, ◌^◌, ◌≤◌, ◌<◌}
use native.Mathlib.Omega.{arith}
use lib.Dec.{T, ltb, lt→ltb}
use lib.ListN.{length, take}
use lib.Seq.{length-take-le}
use Rattle.format.specs.Format.{Law}
use Rattle.format.proofs.Tests.{true_T, and_l, and_r, and_i, both}
use Rattle.format.proofs.Formats.{refined_law, viewed_law, injective, refuses}
use Rattle.ber.specs.Int.{int, lowest}
use Rattle.ber.specs.Tlv.{tlv_enc}
use Rattle.ber.specs.Field.{unless0, unless_none, ◌⨾◌}
use Rattle.ber.specs.Table.{row_good, tag}
use Rattle.ber.proofs.Tlvs.{tlv_fits}
use Rattle.ber.proofs.Ints.{int_law, int_good}
use Rattle.ber.proofs.Fixeds.{ipv4_law}
use Rattle.ber.proofs.Imsis.{imsi_law}
use Rattle.ber.proofs.Counts.{counted_law, number_good}
use Rattle.ber.proofs.Texts.{octets_good}
use Rattle.ber.proofs.Fields.{Caps, alone_law}
use Rattle.ber.proofs.Tables.{RowFits, RowsFit, good_fits, layout_fits}
use Rattle.format.proofs.Formats.{octets_law}
use Rattle.calendar.specs.Stamp.{stamp_ok}
use Rattle.calendar.proofs.Stamps.{length_stamp}
use Rattle.octets.proofs.NameRules.{node_rules}
use Rattle.mcdr.specs.declared.Place.{Place}
use Rattle.mcdr.specs.declared.Change.{Change}
use Rattle.mcdr.specs.declared.MmRecord.{MmRecord}
use Rattle.mcdr.specs.Change.{place_ok, change_ok}
use Rattle.mcdr.specs.Changes.{changes, each_ok}
use Rattle.mcdr.specs.Rules.{used, all_places_ok, shaped, within}
use Rattle.mcdr.specs.Table.{record_tag, Changes, Number, NodeId, table}
use Rattle.mcdr.specs.Layout.{body, of_record, to_record, rules, inside, mcdr}
use Rattle.mcdr.specs.Private.List.{times_ok}
use Rattle.mcdr.proofs.Formats.{each_good}
use Rattle.mcdr.proofs.Order.{changes_times}
use Rattle.mcdr.proofs.Lists.{list_short}
use Rattle.mcdr.proofs.BodyLaw.{body_law}
use Rattle.mcdr.proofs.Views.{shape, Within, withins, places_rules, number_most, fields_back, record_back}

-- ---- changes of which each has a form

places_take : (n : ℕ) (cs : List Change) → all_places_ok cs ≡ true → all_places_ok (take n cs) ≡ true
unfolding all_places_ok
places_take zero cs h = refl
places_take (suc n) [] h = refl
places_take (suc n) (c ∷ cs) h = let (a, b) = both (place_ok c.place) (all_places_ok cs) h in rw (a, places_take n cs b)

each_of : (cs : List Change) → times_ok cs ≡ true → all_places_ok cs ≡ true → T (each_ok cs)
unfolding all_places_ok times_ok each_ok change_ok
each_of [] t p = tt
each_of (c ∷ cs) t p =
    let (t₁, t₂) = both (stamp_ok c.time) (times_ok cs) t in
    let (p₁, p₂) = both (place_ok c.place) (all_places_ok cs) p in
    and_i (change_ok c) (each_ok cs) (and_i (place_ok c.place) (stamp_ok c.time) (true_T _ p₁) (true_T _ t₁)) (each_of cs t₂ p₂)

list_good : (cs : List Change) → T (each_ok cs) → length cs ≤ 15 → row_good Changes (unless_none cs)
list_good [] t h = tt
list_good (c ∷ cs) t h = each_good (c ∷ cs) t (omega arith) h

-- ---- the rules are what the format takes

lac_of_lem : (p : Place) → place_ok p ≡ true → T (ltb p.lac (256 ^ 2))
unfolding place_ok
lac_of_lem p t = true_T _ (both (ltb p.lac (256 ^ 2)) (ltb p.rac 256) t).0

rules_body : (r : MmRecord) → T (rules r) → body.good (of_record r)
unfolding body of_record
rules_body r t =
    let h = shape r (and_l (shaped r) (within r) t) in
    let w = withins r (and_r (shaped r) (within r) t) in
    let n = node_rules r.nodeid r.nodelen (true_T _ w.node) in
    let p = places_rules r w.list in
    let count : length (used r) ≡ r.count = length-take-le r.count r.changes (omega (arith, h.changes, p.most)) in
    let each = each_of (used r) (changes_times r.opening.zone r.opening.seconds r.place (used r) p.list)
    (places_take r.count r.changes h.places) in
    let nodelen : length (take r.nodelen r.nodeid) ≡ r.nodelen = length-take-le r.nodelen r.nodeid (omega (arith, h.node, n.most)) in
    tt
    ⨾ true_T _ w.imsi
    ⨾ (lt→ltb r.sgsn (256 ^ 4) h.sgsn, tt)
    ⨾ tt
    ⨾ lac_of_lem r.place h.place
    ⨾ list_good (used r) each (omega (arith, count, p.most))
    ⨾ true_T _ w.opening
    ⨾ (int_good r.duration (omega (arith, h.duration)), lt→ltb r.duration (2 ^ 32) h.duration)
    ⨾ tt
    ⨾ number_good (tag Number) r.number (omega (arith, number_most r.cause r.number w.number))
    ⨾ octets_good (tag NodeId) 20 (take r.nodelen r.nodeid) (omega (arith, nodelen, n.most))
    ⨾ tt

-- a record is one that the format takes exactly where it is within the rules
pub good_is_rules : (r : MmRecord) → mcdr.good r ↔ T (rules r)
unfolding mcdr inside
good_is_rules r = (λ g. g.0.1, λ t. ((rules_body r t, t), tt))

pub inside_law : Law inside
unfolding inside
inside_law = viewed_law (λ w. true) rules to_record of_record body body_law fields_back record_back

pub inside_caps : Caps inside
unfolding inside body changes
inside_caps = tt

pub mcdr_law : Law mcdr
unfolding mcdr
mcdr_law = alone_law record_tag inside inside_law inside_caps

-- ---- how long the octets get, also of a record that the rules were asked of but not the ranges that its types have

pub record Held (r : MmRecord) : Type 0 where
  pub changes : length r.changes ≡ 15
  pub node : length r.nodeid ≡ 20
  pub sgsn : r.sgsn < 2 ^ 32
  pub duration : r.duration < 2 ^ 32

list_fits : (cs : List Change) → times_ok cs ≡ true → length cs ≤ 15 → RowFits Changes (unless_none cs)
unfolding changes
list_fits [] t h = tt
list_fits (c ∷ cs) t h = list_short (c ∷ cs) t h

rows_fit : (r : MmRecord) → Within r → Held r → RowsFit table (of_record r)
unfolding of_record lowest
rows_fit r w h =
    let n = node_rules r.nodeid r.nodelen (true_T _ w.node) in
    let p = places_rules r w.list in
    let count : length (used r) ≡ r.count = length-take-le r.count r.changes (omega (arith, h.changes, p.most)) in
    let nodelen : length (take r.nodelen r.nodeid) ≡ r.nodelen = length-take-le r.nodelen r.nodeid (omega (arith, h.node, n.most)) in
    omega arith
    ⨾ imsi_law.fits r.imsi (true_T _ w.imsi)
    ⨾ ipv4_law.fits r.sgsn (lt→ltb r.sgsn (256 ^ 4) h.sgsn, tt)
    ⨾ omega arith
    ⨾ omega arith
    ⨾ list_fits (used r) (changes_times r.opening.zone r.opening.seconds r.place (used r) p.list) (omega (arith, count, p.most))
    ⨾ omega (arith, length_stamp r.opening)
    ⨾ (refined_law (λ n. ltb n (2 ^ 32)) int int_law).fits r.duration
    (int_good r.duration (omega (arith, h.duration)), lt→ltb r.duration (2 ^ 32) h.duration)
    ⨾ omega arith
    ⨾ good_fits Number (unless0 r.number) (counted_law, tt)
    (number_good (tag Number) r.number (omega (arith, number_most r.cause r.number w.number)))
    ⨾ good_fits NodeId (unless_none (take r.nodelen r.nodeid)) (octets_law 20 _, tt)
    (octets_good (tag NodeId) 20 (take r.nodelen r.nodeid) (omega (arith, nodelen, n.most)))
    ⨾ tt

pub body_short : (r : MmRecord) → Within r → Held r → length (body.enc (of_record r)) ≤ 390
unfolding body changes
body_short r w h = layout_fits table (of_record r) (rows_fit r w h)

pub octets_are : (r : MmRecord) → tlv_enc record_tag (body.enc (of_record r)) ≡ mcdr.enc r
unfolding mcdr inside
octets_are r = sym (append-nil (tlv_enc record_tag (body.enc (of_record r))))

pub octets_short : (r : MmRecord) → Within r → Held r → length (mcdr.enc r) ≤ 400
octets_short r w h =
    omega (arith, tlv_fits record_tag (body.enc (of_record r)) 390 (body_short r w h), ap length (octets_are r))

-- ---- the theorems

-- no record within the rules passes 400 octets
pub at_most_400 : (r : MmRecord) → T (rules r) → length (mcdr.enc r) ≤ 400
at_most_400 r t =
    let h = shape r (and_l (shaped r) (within r) t) in
    octets_short r (withins r (and_r (shaped r) (within r) t)) (record { changes = h.changes; node = h.node; sgsn = h.sgsn; duration = h.duration })

-- the octets of a record within the rules read back as that record
pub round_trip : (r : MmRecord) → T (rules r) → mcdr.dec (mcdr.enc r) ≡ Some r
round_trip r t = mcdr_law.complete r ((good_is_rules r).1 t)

-- octets read as a record exactly where the record is within the rules and they are its octets
pub exact : (s : List ℕ) (r : MmRecord) → (mcdr.dec s ≡ Some r) ↔ (T (rules r) × (mcdr.enc r ≡ s))
exact s r = (
  λ e. let p = mcdr_law.sound s r e in ((good_is_rules r).0 p.0, p.1),
  λ h. sym (ap mcdr.dec h.1) ∙ round_trip r h.0,
)

-- two records within the rules with the same octets are equal
pub one_record : (a b : MmRecord) → T (rules a) → T (rules b) → mcdr.enc a ≡ mcdr.enc b → a ≡ b
one_record a b s t e = injective mcdr mcdr_law a b ((good_is_rules a).1 s) ((good_is_rules b).1 t) e

-- what is refused is the octets of no record within the rules
pub none_refused : (s : List ℕ) → mcdr.dec s ≡ None → (r : MmRecord) → T (rules r) → mcdr.enc r ≡ s → ⊥
none_refused s n r t e = refuses mcdr mcdr_law s n r ((good_is_rules r).1 t) e
