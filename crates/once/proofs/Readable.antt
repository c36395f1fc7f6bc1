-- The octets of all calls from a fresh node read mark by mark as the records that they are.
use mathlib.Core.Path.{◌≡◌, refl, sym, ap, ◌∙◌}
use mathlib.Core.Bool.{true}
use Rattle.std.specs.Prelude.{Some}
use mathlib.Core.List.{List, [], ◌∷◌, ◌++◌, map}
use Prim.Native.Nat.{ℕ}
use Rattle.format.proofs.Tests.{and_i, true_T}
use Rattle.scdr.specs.declared.Record as scdr
use Rattle.scdr.specs.Rules.{shaped, within}
use Rattle.mcdr.specs.declared.MmRecord.{MmRecord}
use Rattle.cdrs.specs.Cdr.{Cdr, pdp, mm}
use Rattle.cdrs.specs.List.{list_enc, record_list}
use Rattle.cdrs.proofs.Listed.{AllRight, list_reads}
use Rattle.profile.specs.declared.Profile.{Profile}
use Rattle.profile.specs.Profile.{profile_ok}
use Rattle.event.specs.Fields.{time_of}
use Rattle.history.specs.Lists.{All}
use Rattle.history.specs.Run.{Machine, all_written}
use Rattle.node.specs.declared.Node.{Node}
use Rattle.node.specs.Sound.{fresh_node}
use Rattle.node.specs.Step.{records_of, mm_records_of, said_of}
use Rattle.node.specs.Run.{Call, step, batch, Given}
use Rattle.node.specs.Held.{Octets, HeldProfile, Whole}
use Rattle.node.proofs.ContextKept.{Fine}
use Rattle.node.proofs.SubscribersKept.{MmFine}
use Rattle.node.proofs.NodeKept.{records_good, mm_records_good}
use Rattle.node.proofs.Demands.{answered}
use Rattle.node.proofs.StepKept.{step_kept}
use Rattle.node.proofs.Singles.{One}
use Rattle.node.proofs.BatchDemands.{pairs_octets}
use Rattle.node.proofs.Runs.{fresh_whole, one_kept}
use Rattle.once.specs.Once.{marked, machine, outputs}
use Rattle.once.proofs.Steps.{wrote_one, called, wrote_some, wrote_none}
use Rattle.once.proofs.Calls.{single, ones, wrote, wrote_is}

-- marked records are the octets of their list
marked_list : (rs : List Cdr) → marked rs ≡ list_enc rs
unfolding list_enc
marked_list [] = refl
marked_list (r ∷ rs) = rw (marked_list rs)

right : (rs : List scdr.Record) → All Fine rs → AllRight (map pdp rs)
right [] a = tt
right (r ∷ rs) a = (and_i (shaped r) (within r) (true_T (shaped r) a.0.shaped) (true_T (within r) a.0.within), right rs a.1)

mm_right : (rs : List MmRecord) → All MmFine rs → AllRight (map mm rs)
mm_right [] a = tt
mm_right (r ∷ rs) a = (a.0, mm_right rs a.1)

right_append : (a b : List Cdr) → AllRight a → AllRight b → AllRight (a ++ b)
right_append [] b p q = q
right_append (r ∷ a) b p q = (p.0, right_append a b p.1 q)

-- ---- the records of calls on a sound node

-- those of each call, and so of all
module _ {I : Type 0} (X : Machine Node I (List ℕ) Cdr) (Good : I → Type 0)
    (kept : (n : Node) (i : I) → Whole n → Good i → Whole (X.after n i))
    (one_right : (n : Node) (i : I) → Whole n → Good i → AllRight (X.writes n i)) where
  all_right : (is : List I) (n : Node) → Whole n → All Good is → AllRight (all_written X n is)
  all_right [] n w o = tt
  all_right (i ∷ is) n w o =
      right_append (X.writes n i) (all_written X (X.after n i) is) (one_right n i w o.0)
      (all_right is (X.after n i) (kept n i w o.0) o.1)

one_right : (n : Node) (c : One) → Whole n → Octets c.event → AllRight (wrote_one n c)
one_right n c w o =
    called n c
    (λ z.
    let e = sym (answered n c.event c.buffer) ∙ z.answers in
    let rs = records_of n (time_of c.event) (said_of c.event) in
    let qs = mm_records_of n (time_of c.event) (said_of c.event) in
    rw (wrote_some n c z)
    (right_append (map pdp rs) (map mm qs) (right rs (records_good n c.event c.buffer w.held o e))
    (mm_right qs (mm_records_good n c.event c.buffer w.held o e))))
    (λ z. rw (wrote_none n c z) tt)

ones_octets : (n : Node) (c : Call) → Given c → All (λ o. Octets o.event) (ones n c)
ones_octets n (step s b) o = (o, tt)
ones_octets n (batch m t vs b) o = pairs_octets n m t vs b

wrote_right : (n : Node) (c : Call) → Whole n → Given c → AllRight (wrote n c)
wrote_right n c w o =
    rw (wrote_is n c)
    (all_right single (λ a. Octets a.event) (λ m a. step_kept m a.event a.buffer) one_right (ones n c) n w (ones_octets n c o))

pub output_reads : (p : Profile) (cs : List Call) → profile_ok p ≡ true → outputs (fresh_node p) cs ≡ marked (all_written (machine wrote) (fresh_node p) cs)
    → HeldProfile p → All Given cs → record_list (outputs (fresh_node p) cs) ≡ Some (all_written (machine wrote) (fresh_node p) cs)
output_reads p cs ok e h o =
    let rs = all_written (machine wrote) (fresh_node p) cs in
    ap record_list (e ∙ marked_list rs) ∙ list_reads rs (all_right (machine wrote) Given one_kept wrote_right cs (fresh_node p) (fresh_whole p ok h) o)
