-- The rules of a record one by one; between a record and its fields nothing is lost either way.
use mathlib.Core.Path.{◌≡◌, refl, sym, ap, ◌∙◌}
use mathlib.Core.Bool.{true, ◌&&◌}
use Rattle.std.specs.Prelude.{Option, None, Some}
use mathlib.Core.List.{List}
use Prim.Native.Nat.{ℕ, ◌^◌, ◌≤◌, ◌<◌}
use native.Mathlib.Omega.{arith}
use lib.Dec.{T, leb, ltb, eqb}
use lib.ListN.{length, take, drop}
use lib.Seq.{length-take-le}
use borrow.Author.Tests.{eqb-true, ltb-true, leb-true, eq-eqb, lt-ltb, le-leb}
use Rattle.format.proofs.Tests.{and_l, and_r, T_true, true_T, both}
use Rattle.ber.specs.Field.{opt_good, unless0, or_zero, unless_none, ◌⨾◌}
use Rattle.ber.specs.Table.{tag}
use Rattle.ber.specs.Imsi.{imsi_ok}
use Rattle.ber.specs.Text.{or_none}
use Rattle.ber.proofs.Counts.{number_back, number_kept}
use Rattle.ber.proofs.Texts.{octets_back, none_kept, unless_some}
use Rattle.calendar.specs.Stamp.{stamp_ok}
use Rattle.octets.specs.Filled.{fill_to}
use Rattle.octets.specs.Names.{node_ok}
use Rattle.octets.proofs.Filled.{take_fill, fill_take, zeros_are}
use Rattle.octets.proofs.NameRules.{node_rules}
use Rattle.mcdr.specs.declared.Change.{Change}
use Rattle.mcdr.specs.declared.MmRecord.{MmRecord}
use Rattle.mcdr.specs.Change.{place_ok}
use Rattle.mcdr.specs.Changes.{changes_ok, last_time, changes, padded, blanks}
use Rattle.mcdr.specs.Rules.{used, list_rule, cause_ok, full_ok, closing_ok, number_ok, all_places_ok, shaped, within}
use Rattle.mcdr.specs.Table.{Changes, Number, NodeId}
use Rattle.mcdr.specs.Layout.{Fields, body, of_record, to_record, rules}
use Rattle.mcdr.proofs.Formats.{good_each}
use Rattle.mcdr.proofs.Padded.{take_padded, padded_used}

-- ---- what the types say

pub record Shape (r : MmRecord) : Type 0 where
  pub changes : length r.changes ≡ 15
  pub node : length r.nodeid ≡ 20
  pub sgsn : r.sgsn < 2 ^ 32
  pub place : place_ok r.place ≡ true
  pub duration : r.duration < 2 ^ 32
  pub places : all_places_ok r.changes ≡ true

pub shape : (r : MmRecord) → T (shaped r) → Shape r
unfolding shaped
shape r t =
    let a = eqb (length r.changes) 15 in
    let b = eqb (length r.nodeid) 20 in
    let c = ltb r.sgsn (2 ^ 32) in
    let d = place_ok r.place in
    let e = ltb r.duration (2 ^ 32) in
    let (t₅, places) = both (a && b && c && d && e) (all_places_ok r.changes) (T_true (shaped r) t) in
    let (t₄, duration) = both (a && b && c && d) e t₅ in
    let (t₃, place) = both (a && b && c) d t₄ in
    let (t₂, sgsn) = both (a && b) c t₃ in
    let (changes, node) = both a b t₂ in
    record {
      changes = eqb-true (length r.changes) 15 changes;
      node = eqb-true (length r.nodeid) 20 node;
      sgsn = ltb-true r.sgsn (2 ^ 32) sgsn;
      place = place;
      duration = ltb-true r.duration (2 ^ 32) duration;
      places = places;
    }

pub shape_is : (r : MmRecord) → Shape r → shaped r ≡ true
unfolding shaped
shape_is r h =
    rw (
      eq-eqb (length r.changes) 15 h.changes,
      eq-eqb (length r.nodeid) 20 h.node,
      lt-ltb r.sgsn (2 ^ 32) h.sgsn,
      h.place,
      lt-ltb r.duration (2 ^ 32) h.duration,
      h.places,
    )

-- ---- the rules

pub record Within (r : MmRecord) : Type 0 where
  pub imsi : imsi_ok r.imsi ≡ true
  pub opening : stamp_ok r.opening ≡ true
  pub list : list_rule r ≡ true
  pub cause : cause_ok r.cause ≡ true
  pub full : full_ok r.cause r.count ≡ true
  pub closing : closing_ok r.cause r.opening.seconds r.duration (last_time r.opening.seconds (used r)) ≡ true
  pub number : number_ok r.cause r.number ≡ true
  pub node : node_ok r.nodeid r.nodelen ≡ true

pub withins : (r : MmRecord) → T (within r) → Within r
unfolding within
withins r t =
    let a = imsi_ok r.imsi in
    let b = stamp_ok r.opening in
    let c = list_rule r in
    let d = cause_ok r.cause in
    let e = full_ok r.cause r.count in
    let f = closing_ok r.cause r.opening.seconds r.duration (last_time r.opening.seconds (used r)) in
    let g = number_ok r.cause r.number in
    let (t₇, node) = both (a && b && c && d && e && f && g) (node_ok r.nodeid r.nodelen) (T_true (within r) t) in
    let (t₆, number) = both (a && b && c && d && e && f) g t₇ in
    let (t₅, closing) = both (a && b && c && d && e) f t₆ in
    let (t₄, full) = both (a && b && c && d) e t₅ in
    let (t₃, cause) = both (a && b && c) d t₄ in
    let (t₂, list) = both (a && b) c t₃ in
    let (imsi, opening) = both a b t₂ in
    record { imsi = imsi; opening = opening; list = list; cause = cause; full = full; closing = closing; number = number; node = node }

pub within_is : (r : MmRecord) → Within r → within r ≡ true
unfolding within
within_is r w = rw (w.imsi, w.opening, w.list, w.cause, w.full, w.closing, w.number, w.node)

-- of the list
pub record Places (r : MmRecord) : Type 0 where
  pub most : r.count ≤ 15
  pub list : changes_ok r.opening.zone r.opening.seconds r.place (used r) ≡ true
  pub rest : blanks (drop r.count r.changes) ≡ true

pub places_rules : (r : MmRecord) → list_rule r ≡ true → Places r
unfolding list_rule
places_rules r t =
    let l = changes_ok r.opening.zone r.opening.seconds r.place (used r) in
    let (u, rest) = both (leb r.count 15 && l) (blanks (drop r.count r.changes)) t in
    let (most, list) = both (leb r.count 15) l u in
    record { most = leb-true r.count 15 most; list = list; rest = rest }

pub places_are : (r : MmRecord) → Places r → list_rule r ≡ true
unfolding list_rule
places_are r p = rw (le-leb r.count 15 p.most, p.list, p.rest)

pub number_most : (c n : ℕ) → number_ok c n ≡ true → n ≤ 10 ^ 15
unfolding number_ok
number_most c n t = leb-true n (10 ^ 15) (both (leb n (10 ^ 15)) _ t).0

-- ---- from fields to a record and back

-- a list that was read has a change
changes_back : (o : Option (List Change)) → opt_good (tag Changes) changes o → unless_none (or_none o) ≡ o
changes_back None g = refl
changes_back (Some cs) g = unless_some cs (good_each cs g).1

pub fields_back : (w : Fields) → body.good w → T true → of_record (to_record w) ≡ w
unfolding body of_record to_record
fields_back (_, (imsi, (sgsn, (rac, (lac, (cs, (o, (duration, (cause, (number, (node, _))))))))))) g t =
    let list = g.1.1.1.1.1 in
    let last = list.1.1.1.1 in
    let l : unless_none (take (length (or_none cs)) (padded (or_none cs))) ≡ cs = ap unless_none (take_padded (or_none cs)) ∙ changes_back cs list.0 in
    let n : unless0 (or_zero number) ≡ number = number_back (tag Number) number last.0 in
    let s : unless_none (take (length (or_none node)) (fill_to 20 0 (or_none node))) ≡ node =
    ap unless_none (take_fill 20 0 (or_none node)) ∙ octets_back (tag NodeId) 20 node last.1.0 in
    λ i. tt ⨾ imsi ⨾ sgsn ⨾ rac ⨾ lac ⨾ l i ⨾ o ⨾ duration ⨾ cause ⨾ n i ⨾ s i ⨾ tt

-- ---- from a record to fields and back

-- what is not used in a record is as the fields leave it
pub record Made (r : MmRecord) : Type 0 where
  pub list : padded (used r) ≡ r.changes
  pub count : length (used r) ≡ r.count
  pub node : fill_to 20 0 (take r.nodelen r.nodeid) ≡ r.nodeid
  pub nodelen : length (take r.nodelen r.nodeid) ≡ r.nodelen

pub made : (r : MmRecord) → Made r → to_record (of_record r) ≡ r
unfolding of_record to_record
made r m =
    let c = none_kept (used r) in
    let k = none_kept (take r.nodelen r.nodeid) in
    let list = ap padded c ∙ m.list in
    let count = ap length c ∙ m.count in
    let node = ap (fill_to 20 0) k ∙ m.node in
    let nodelen = ap length k ∙ m.nodelen in
    λ i. record {
      imsi = r.imsi;
      sgsn = r.sgsn;
      place = r.place;
      changes = list i;
      count = count i;
      opening = r.opening;
      duration = r.duration;
      cause = r.cause;
      number = number_kept r.number i;
      nodeid = node i;
      nodelen = nodelen i;
    }

rules_made : (r : MmRecord) → T (rules r) → Made r
rules_made r t =
    let h = shape r (and_l (shaped r) (within r) t) in
    let w = withins r (and_r (shaped r) (within r) t) in
    let n = node_rules r.nodeid r.nodelen (true_T _ w.node) in
    let p = places_rules r w.list in
    record {
      list = sym (padded_used r.changes r.count h.changes p.most p.rest);
      count = length-take-le r.count r.changes (omega (arith, h.changes, p.most));
      node = fill_take 20 0 r.nodelen r.nodeid h.node n.most (zeros_are (drop r.nodelen r.nodeid) n.rest);
      nodelen = length-take-le r.nodelen r.nodeid (omega (arith, h.node, n.most));
    }

pub record_back : (r : MmRecord) → T (rules r) → T true × (to_record (of_record r) ≡ r)
record_back r t = (tt, made r (rules_made r t))
