-- Every octet once, of the node (demand 3): the theorem.
use mathlib.Core.Path.{◌≡◌, refl, sym, ap, ◌∙◌}
use mathlib.Core.Bool.{true}
use Rattle.std.specs.Prelude.{Some}
use mathlib.Core.List.{List, [], ◌∷◌}
use Prim.Native.Nat.{ℕ}
use native.Mathlib.Omega.{arith}
use Rattle.cdrs.specs.Cdr.{Cdr, cdr_enc}
use Rattle.profile.specs.declared.Profile.{Profile}
use Rattle.profile.specs.Profile.{profile_ok}
use Rattle.event.specs.declared.Name.{Name}
use Rattle.history.specs.History.{History}
use Rattle.history.specs.Records.{Record, cause_for}
use Rattle.history.specs.Log.{Accepted}
use Rattle.history.specs.Run.{all_written, log}
use Rattle.history.specs.Table.{settled}
use Rattle.history.proofs.Runs.{runs}
use Rattle.history.specs.Demand.{Sight, Demand3}
use Rattle.history.specs.Calls.{OneCall}
use Rattle.history.proofs.Lists.{each_append}
use Rattle.history.proofs.Records.{exactly_when}
use Rattle.history.proofs.Whole.{unchanged}
use Rattle.history.proofs.Demand.{demand3}
use Rattle.history.proofs.Calls as history-calls
use Rattle.node.specs.declared.Node.{Node}
use Rattle.node.specs.declared.Settings.{Settings}
use Rattle.node.specs.Sound.{fresh_node, fresh_of}
use Rattle.node.specs.Run.{Call, step}
use Rattle.once.specs.Charging.{Brought, Force, Heard, settles, settings_of, after, rules, meaning, forms}
use Rattle.once.specs.Attaching as attaching
use Rattle.once.specs.Once.{node_now, node_then, marked, machine, set_to, sight, mm_sight, outputs, Kind, contexts, subscribers, Charged, Once}
use Rattle.once.proofs.Five.{says_so, holds_so}
use Rattle.once.proofs.Closings.{one_condition, one_cause}
use Rattle.once.proofs.Three as three
use Rattle.once.proofs.Handles.{handling, sound}
use Rattle.once.proofs.Enrolls.{enrolling}
use Rattle.once.proofs.Enrolls as enrolls
use Rattle.once.proofs.Calls.{wrote, octets_are, lengths_are, lengths_fit, buffer_is, counted}
use Rattle.once.proofs.Pairs.{pair_says}
use Rattle.once.proofs.Readable.{output_reads}
use Rattle.once.proofs.EachCall.{run_same, each_call}
use Rattle.once.proofs.Serving.{State, state, node, calls, view, mm_view, served, mm_served, run_is, written_is, log_is, all_kept}

-- the octets of all calls are the records of all calls
outputs_are : (cs : List Call) (n : Node) → outputs n cs ≡ marked (all_written (machine wrote) n cs)
outputs_are [] n = refl
outputs_are (c ∷ cs) n = rw (octets_are n c, outputs_are cs (node_now n c)) (sym (each_append (λ r. 0xC3 ∷ 0x5A ∷ cdr_enc r) (wrote n c) (all_written (machine wrote) (node_now n c) cs)))

-- what holds of the node without its profile holds of the node
module _ {G N S E C B : Type 0} (K : Kind G N S E C B) (p : Profile) (cs : List Call) (n : N) where
  abbrev fresh : State
  fresh = state (fresh_node p)

  abbrev apart : Sight N C B State Cdr
  apart = record {
    slots = λ a. K.sight.slots (node p a);
    name = K.sight.name;
    kindred = K.sight.kindred;
    name_of = K.sight.name_of;
  }

  together : Demand3 K.rules K.meaning K.forms apart (calls p) fresh K.settings cs n
      → Demand3 K.rules K.meaning K.forms K.sight (machine wrote) (fresh_node p) K.settings cs n
  together d =
      let l = log_is p (machine wrote) all_kept cs fresh in
      record {
        closed = rw (written_is p (machine wrote) all_kept cs fresh, l) d.closed;
        open_now = rw (run_is p (machine wrote) all_kept cs fresh, l) d.open_now;
        released = rw l d.released;
        all_reported = rw l d.all_reported;
        in_order = rw l d.in_order;
        in_time = rw l d.in_time;
        once = rw l d.once;
      }

-- so it does of both kinds
module _ (p : Profile) (cs : List Call) where
  pdp_charged : (n : Name) → Demand3 rules meaning (forms p) sight (machine wrote) (fresh_node p) (settings_of p) cs n
  pdp_charged n =
      together (contexts p) p cs n
      (demand3 rules meaning (forms p) (handling p) (view p) (calls p) (λ s. s.settings) (sound p) (λ a. a.settings) (λ a. a.clock) (served p)
      (state (fresh_node p)) refl cs n)

  mm_charged : (n : ℕ) → Demand3 attaching.rules attaching.meaning (attaching.forms p) mm_sight (machine wrote) (fresh_node p) tt cs n
  mm_charged n =
      together (subscribers p) p cs n
      (demand3 attaching.rules attaching.meaning (attaching.forms p) (enrolling p) (mm_view p) (calls p) (λ s. tt) (enrolls.sound p) (λ a. tt) (λ a. a.clock)
      (mm_served p) (state (fresh_node p)) refl cs n)

-- a kind that is charged, and whose rules work out its closing conditions
charged : {G N S E C B : Type 0} (K : Kind G N S E C B) (p : Profile)
    → ((cs : List Call) (n : N) → Demand3 K.rules K.meaning K.forms K.sight (machine wrote) (fresh_node p) K.settings cs n)
    → ((r : History S E) (t : ℕ) (e : E) (c : ℕ) → cause_for K.rules r t e ≡ Some c → K.Closes r t e c)
    → ((r : History S E) (t : ℕ) (e : E) (c : ℕ) → K.Closes r t e c → cause_for K.rules r t e ≡ Some c)
    → ((name : N) (r : Record S E) → K.cause_of (K.forms.as_written name r) ≡ r.cause)
    → ((r : History S E) (t : ℕ) (e : E) (j k : ℕ) → K.Closes r t e j → K.Closes r t e k → j ≡ k) → Charged K p wrote
charged K p d says holds for one = record {
  demand = d;
  each_call = λ cs s b. each_call K p cs s b says holds for (one_call cs (step s b));
  one_call = one_call;
  conditions = exactly_when K.rules K.Closes (λ r t e c. ((λ i. says r t e c i), (λ z. holds r t e c z)));
  one_cause = one;
}
  where
    one_call : (cs : List Call) (c : Call) (n : _) → OneCall K.rules K.meaning K.forms K.sight (machine wrote) (fresh_node p) K.settings cs c n
    one_call cs c n = history-calls.one_call K.rules K.meaning K.forms K.sight (machine wrote) (fresh_node p) K.settings n (λ is. d is n) cs c

-- what the node is set to, by the accepted events
module _ (p : Profile) where
  settled_is : (g : Settings) (l : List (Accepted (List ℕ))) → settled (handling p) g l ≡ set_to g l
  settled_is g [] = refl
  settled_is g (c ∷ l) = settled_is (settles g c.event) l

  is_set_to : (cs : List Call) → (node_then p cs).settings ≡ set_to (settings_of p) (log (machine wrote) (fresh_node p) cs)
  is_set_to cs =
      let a = state (fresh_node p) in
      let r = runs (handling p) (view p) (calls p) (λ b. b.settings) (λ b. b.clock) (served p) cs a in
      ap (λ (n : Node). n.settings) (sym (run_same wrote cs (fresh_node p)) ∙ run_is p (machine wrote) all_kept cs a)
      ∙ r.settings_now ∙ settled_is (settings_of p) (log (calls p) a cs)
      ∙ ap (set_to (settings_of p)) (sym (log_is p (machine wrote) all_kept cs a))

-- no event changes what an activation brings
brought_kept : (s : Force) (e : Heard) → ◌≡◌ {A = Brought} (after s e).brought s.brought
brought_kept s (Heard.traffic u d) = refl
brought_kept s (Heard.qos q) = refl
brought_kept s Heard.tariff = refl
brought_kept s (Heard.release cause) = refl
brought_kept s Heard.tick = refl
brought_kept s Heard.management = refl
brought_kept s (Heard.replaces i x) = refl

-- For every profile in range and all calls, refused ones among them, from a fresh node.
pub every_octet_once : (p : Profile) → profile_ok p ≡ true → Once p
unfolding fresh_of
every_octet_once p ok = record {
  made = rw ok;
  records_by = wrote;
  octets = octets_are;
  lengths = lengths_are;
  fit = lengths_fit;
  others = buffer_is;
  all_octets_lem = λ cs. outputs_are cs (fresh_node p);
  reads = λ h cs. output_reads p cs ok (outputs_are cs (fresh_node p)) h;
  sessions = charged (contexts p) p (pdp_charged p) says_so holds_so (λ n r. refl) one_cause;
  mobility = charged (subscribers p) p (mm_charged p) three.says_so three.holds_so (λ n r. refl) three.one_cause;
  pair = pair_says;
  counted = λ cs. let e = rw (run_same wrote cs (fresh_node p)) at (counted cs (fresh_node p)) in omega arith;
  is_set_to = is_set_to p;
  one_condition = one_condition;
  mm_one_condition = three.one_condition;
  brought = unchanged rules (λ s. s.brought) brought_kept;
}
