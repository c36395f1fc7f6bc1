-- A call of either kind does what calls of one event do one by one: an event is one, a list of reports is one for each pair that it applies.
-- So its records are theirs, and its octets are its records.
use mathlib.Core.Path.{◌≡◌, refl, sym, ap, ◌∙◌}
use mathlib.Core.List.{List, [], ◌∷◌, ◌++◌, map, append-nil}
use Prim.Native.Nat.{ℕ, zero, suc, ◌+◌, ◌≤◌}
use native.Mathlib.Omega.{arith}
use lib.ListN.{length, take, drop, length-append}
use Rattle.cdrs.specs.Cdr.{Cdr, cdr_enc}
use Rattle.event.specs.Fields.{time_of}
use Rattle.history.specs.Log.{Accepted}
use Rattle.history.specs.Run.{Machine, if_zero, applied, run, all_written, log}
use Rattle.history.proofs.Lists.{each_append}
use Rattle.node.specs.declared.Node.{Node}
use Rattle.node.specs.Step as step
use Rattle.node.specs.Batch.{reports_of, batch_of}
use Rattle.node.specs.Run.{Call, step, batch, after_one, after}
use Rattle.node.proofs.Singles.{Front, front_long, One, call, got, step_front, AllAccepted, octets_by}
use Rattle.node.proofs.BatchDemands.{pairs_done, one_by_one_lem, later_octets}
use Rattle.once.specs.Once.{node_now, length_now, buffer_now, buffer_of, octets_now, marked, machine}
use Rattle.once.proofs.Steps.{wrote_one, called, no_zero, octets_one_lem}

-- ---- calls of one event

abbrev at : List ℕ → Accepted (List ℕ)
at s = record { time = time_of s; event = s }

abbrev pub single : Machine Node One (List ℕ) Cdr
single = record { holds = λ c. at c.event ∷ []; applies = λ n c. if_zero (got n c).0; after = λ n c. (got n c).1.0; writes = wrote_one }

run_single : (cs : List One) (n : Node) → run single n cs ≡ after n (map call cs)
unfolding after after_one
run_single [] n = refl
run_single (c ∷ cs) n = run_single cs (got n c).1.0

log_single : (cs : List One) (n : Node) → AllAccepted n cs → log single n cs ≡ map at (map (λ c. c.event) cs)
log_single [] n z = refl
log_single (c ∷ cs) n z = rw (z.0, log_single cs (got n c).1.0 z.1)

octets_single : (cs : List One) (n : Node) → octets_by n cs ≡ marked (all_written single n cs)
octets_single [] n = refl
octets_single (c ∷ cs) n =
    rw (octets_one_lem n c, octets_single cs (got n c).1.0) (sym (each_append (λ r. 0xC3 ∷ 0x5A ∷ cdr_enc r) (wrote_one n c) (all_written single (got n c).1.0 cs)))

-- ---- any call

-- the calls of one event that it is
abbrev pub ones : Node → Call → List One
ones n (step s b) = record { event = s; buffer = b } ∷ []
ones n (batch m t vs b) = pairs_done n m t vs b

-- the records that it writes
abbrev pub wrote : Node → Call → List Cdr
wrote n (step s b) = wrote_one n (record { event = s; buffer = b })
wrote n (batch m t vs b) = all_written single n (pairs_done n m t vs b)

take_map : {A B : Type 0} (f : A → B) (k : ℕ) (xs : List A) → take k (map f xs) ≡ map f (take k xs)
take_map f zero xs = refl
take_map f (suc k) [] = refl
take_map f (suc k) (x ∷ xs) = rw (take_map f k xs)

module _ (n : Node) where
  pub node_is : (c : Call) → node_now n c ≡ run single n (ones n c)
  unfolding after_one
  node_is (step s b) = refl
  node_is (batch m t vs b) = sym (run_single (pairs_done n m t vs b) n ∙ (one_by_one_lem n m t vs b).node)

  pub events_are : (c : Call) → applied (machine wrote) n c ≡ log single n (ones n c)
  events_are (step s b) = sym (append-nil _)
  events_are (batch m t vs b) =
      let z = one_by_one_lem n m t vs b in
      take_map at (batch_of n m t vs b).applied (reports_of m t vs)
      ∙ ap (λ (ss : List (List ℕ)). map at ss) (sym z.events)
      ∙ sym (log_single (pairs_done n m t vs b) n z.accepted)

  pub wrote_is : (c : Call) → wrote n c ≡ all_written single n (ones n c)
  wrote_is (step s b) = sym (append-nil _)
  wrote_is (batch m t vs b) = refl

  -- its octets are its records, and the others are as before

  pub octets_are : (c : Call) → octets_now n c ≡ marked (wrote n c)
  octets_are (step s b) = octets_one_lem n (record { event = s; buffer = b })
  octets_are (batch m t vs b) = sym (one_by_one_lem n m t vs b).octets ∙ octets_single (pairs_done n m t vs b) n

  front : (c : Call) → Front (length_now n c) (buffer_of c) (buffer_now n c)
  front (step s b) = step_front n s b
  front (batch m t vs b) = later_octets n m t vs b

  pub lengths_are : (c : Call) → length_now n c ≡ length (marked (wrote n c))
  lengths_are c = sym (front_long (front c)) ∙ ap length (octets_are c)

  pub lengths_fit : (c : Call) → length_now n c ≤ length (buffer_of c)
  lengths_fit c = (front c).fits

  pub buffer_is : (c : Call) → buffer_now n c ≡ marked (wrote n c) ++ drop (length_now n c) (buffer_of c)
  buffer_is c = (front c).later ∙ ap (λ (x : List ℕ). x ++ drop (length_now n c) (buffer_of c)) (octets_are c)

-- ---- how many events the node has accepted

-- each call counts those that it applied, and so do calls
module _ {I : Type 0} (X : Machine Node I (List ℕ) Cdr)
    (one : (n : Node) (i : I) → (X.after n i).accepted ≡ n.accepted + length (applied X n i)) where
  count : (is : List I) (n : Node) → (run X n is).accepted ≡ n.accepted + length (log X n is)
  count [] n = omega arith
  count (i ∷ is) n = omega (arith, one n i, count is (X.after n i), length-append (applied X n i) (log X (X.after n i) is))

count_one : (n : Node) (c : One) → (got n c).1.0.accepted ≡ n.accepted + length (applied single n c)
unfolding step.node_after
count_one n c = called n c (λ z. rw (z.node, z.answers)) (λ z. rw (z.node, no_zero (got n c).0 (single.holds c) z.answers) (omega arith))

pub counted : (cs : List Call) (n : Node) → (run (machine wrote) n cs).accepted ≡ n.accepted + length (log (machine wrote) n cs)
counted = count (machine wrote) (λ n c. rw (node_is n c, events_are n c) (count single count_one (ones n c) n))
