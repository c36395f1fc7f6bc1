-- Demand 3 of a call of one event, after calls of any kind, from the same for calls of any kind: for each kind of subject.
use mathlib.Core.Path.{◌≡◌, refl, sym, ap, ◌∙◌}
use Rattle.std.specs.Prelude.{Option, None, Some}
use mathlib.Core.List.{List, [], ◌∷◌, map, cons≢nil}
use Prim.Native.Nat.{ℕ}
use lib.Dec.{eqb}
use borrow.Author.Tests.{eqb-true, eqb-false, ne_eqb}
use Rattle.format.proofs.Tests.{by}
use Rattle.cdrs.specs.Cdr.{Cdr}
use Rattle.profile.specs.declared.Profile.{Profile}
use Rattle.event.specs.Fields.{time_of}
use Rattle.history.specs.Lists.{each}
use Rattle.history.specs.History.{History}
use Rattle.history.specs.Records.{Rules, Record, cause_for, since_opening, closes, record_at, records_at}
use Rattle.history.specs.Log.{Accepted, heard}
use Rattle.history.specs.Run.{run, log}
use Rattle.history.specs.Demand.{under}
use Rattle.history.specs.Calls.{open_one, closes_in, OneCall}
use Rattle.node.specs.declared.Node.{Node}
use Rattle.node.specs.Sound.{fresh_node}
use Rattle.node.specs.Run.{Call, step, after}
use Rattle.once.specs.Once.{answer, node_now, marked, machine, node_then, Kind, activations, OneFor, records_under, ClosesUnder, EachCall}
use Rattle.once.proofs.Calls.{wrote, octets_are}

-- ---- the node after calls and their log are the same, whichever records they are said to write

module _ (records : Node → Call → List Cdr) where
  pub run_same : (cs : List Call) (n : Node) → run (machine records) n cs ≡ after n cs
  unfolding after
  run_same [] n = refl
  run_same (c ∷ cs) n = run_same cs (node_now n c)

  pub log_same : (cs : List Call) (n : Node) → log (machine records) n cs ≡ log (machine (λ n c. [])) n cs
  log_same [] n = refl
  log_same (c ∷ cs) n = rw (log_same cs (node_now n c))

-- ---- one call

-- A kind whose rules work out its closing conditions, and whose records have the causes that they are closed with.
module _ {G N S E C B : Type 0} (K : Kind G N S E C B) (p : Profile) (calls : List Call) (s b : List ℕ)
    (says_so : (r : History S E) (t : ℕ) (e : E) (c : ℕ) → cause_for K.rules r t e ≡ Some c → K.Closes r t e c)
    (holds_so : (r : History S E) (t : ℕ) (e : E) (c : ℕ) → K.Closes r t e c → cause_for K.rules r t e ≡ Some c)
    (for : (name : N) (r : Record S E) → K.cause_of (K.forms.as_written name r) ≡ r.cause)
    (one_call : (name : N) → OneCall K.rules K.meaning K.forms K.sight (machine wrote) (fresh_node p) K.settings calls (step s b) name) where
  abbrev R : Rules S E
  R = K.rules

  abbrev n : Node
  n = node_then p calls

  abbrev c : Call
  c = step s b

  abbrev t : ℕ
  t = time_of s

  abbrev applied_one : Accepted (List ℕ)
  applied_one = record { time = t; event = s }

  refused : (answer n c ≡ 0 → ⊥) → wrote n c ≡ []
  refused z = rw (ne_eqb (answer n c) 0 z)

  module _ (name : N) where
    abbrev closed : List (Record S E)
    closed = closes_in R (open_one R (activations K p calls name)) t (heard R K.meaning name (K.meaning.says s))

    abbrev out : List B
    out = records_under K p wrote calls s b name

    abbrev written : Record S E → B
    written = K.forms.as_written name

    accepted : answer n c ≡ 0 → out ≡ map written closed
    accepted z =
        let same-run = run_same wrote calls (fresh_node p) in
        let same_log = log_same wrote calls (fresh_node p) in
        let o = rw (same-run, same_log) at ((one_call name).one applied_one) in
        o (rw z)

    made : (h : History S E) (e : E) (k : ℕ) → closes R h t e ≡ Some k → map written (records_at R h t e) ≡ written (record_at R h t e k) ∷ []
    made h e k q = rw q

    -- a record is written: by the open history, by what it hears, by what that closes
    module _ (cause : ℕ) where
      by_closing : (h : History S E) (e : E) (o : Option ℕ) → closes R h t e ≡ o
          → OneFor K.cause_of (map written (records_at R h t e)) cause → closes R h t e ≡ Some cause
      by_closing h e None q w = absurd (cons≢nil (sym w.alone ∙ rw q))
      by_closing h e (Some k) q w =
          let i : K.cause_of w.sole ∷ [] ≡ K.cause_of (written (record_at R h t e k)) ∷ [] =
          ap (λ (rs : List B). map K.cause_of rs) (sym w.alone ∙ made h e k q) in
          let j : K.cause_of w.sole ≡ K.cause_of (written (record_at R h t e k)) = cc in
          q ∙ ap Some (sym (j ∙ for name (record_at R h t e k)) ∙ w.for)

      found : answer n c ≡ 0 → (o : Option (History S E)) (q : Option E) → open_one R (activations K p calls name) ≡ o
          → heard R K.meaning name (K.meaning.says s) ≡ q → OneFor K.cause_of (map written (closes_in R o t q)) cause
          → ClosesUnder K p wrote calls s b name cause
      found z None q i j w = absurd (cons≢nil (sym w.alone))
      found z (Some h) None i j w = absurd (cons≢nil (sym w.alone))
      found z (Some h) (Some e) i j w = record {
        accepted = z;
        history = h;
        is_open = i;
        event = e;
        hears = j;
        condition = says_so (since_opening R h) t e cause (by_closing h e (closes R h t e) refl w);
      }

      why : OneFor K.cause_of out cause → ClosesUnder K p wrote calls s b name cause
      why w = by (eqb (answer n c) 0)
          (λ z. let a = eqb-true (answer n c) 0 z in found a _ _ refl refl (rw (accepted a) at w))
          (λ z. absurd (cons≢nil (sym w.alone
          ∙ ap (λ (rs : List Cdr). under K.meaning.same K.sight.name_of name (each K.sight.kindred rs)) (refused (eqb-false (answer n c) 0 z)))))

      written_so : ClosesUnder K p wrote calls s b name cause → OneFor K.cause_of out cause
      written_so z =
          let k = holds_so (since_opening R z.history) t z.event cause z.condition in
          record {
            sole = written (record_at R z.history t z.event cause);
            alone = accepted z.accepted ∙ rw (z.is_open, z.hears) (made z.history z.event cause k);
            for = for name (record_at R z.history t z.event cause);
          }

  pub each_call : EachCall K p wrote calls s b
  each_call = record {
    refused = λ z. octets_are n c ∙ ap marked (refused z);
    accepted = λ z name. accepted name z;
    exactly = λ name cause. ((λ w. why name cause w), (λ z. written_so name cause z));
  }
