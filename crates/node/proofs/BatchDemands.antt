-- Demand 1 of a list of reports, as 02 reads it (W2), and what the call does: over any node, name, time, list of numbers and lent buffer.
-- `batch_of` is a fold of `step_of`; these theorems say what that is. That it keeps a sound node sound is `batch_kept` (BatchKept).
use mathlib.Core.Path.{◌≡◌, refl, sym, ap, ◌∙◌}
use mathlib.Core.Bool.{true, false, not, cond, ◌||◌}
use mathlib.Core.List.{List, [], ◌∷◌, ◌++◌, map}
use Prim.Native.Nat.{ℕ, ◌/◌, ◌%◌, ◌^◌, ◌<◌}
use native.Mathlib.Numerals.{add-one}
use native.Mathlib.Omega.{arith}
use lib.Dec.{leb, ltb, eqb}
use lib.ListN.{length, drop, length-map}
use borrow.Author.Tests.{eqb-true, eqb-false, eq-eqb, ne_eqb}
use Rattle.format.proofs.Tests.{by}
use Rattle.event.specs.declared.Name.{Name}
use Rattle.event.specs.declared.Event.TheVariants as E
use Rattle.std.specs.Prelude.{Ok}
use Rattle.event.specs.Fields.{time_of}
use Rattle.event.specs.Rows.{Row, row, first_fit, rows}
use Rattle.event.specs.Event.{event_of, decoded}
use Rattle.event.proofs.Saying.{none_fits as octets_fit, says_so}
use Rattle.event.specs.Traffic.{traffic_event}
use Rattle.event.proofs.Traffics.{traffic_said}
use Rattle.history.specs.Lists.{All}
use Rattle.node.specs.declared.Node.{Node}
use Rattle.node.specs.Sound.{sound, latest, most_accepted}
use Rattle.node.specs.Step.{Words, handling, subscribing, slots, places, output, said_of, unknown_set, other_edition, refusals, step_of}
use Rattle.history.specs.Table.{not_active, is_active, all_taken}
use Rattle.node.specs.Held.{Octets, Held}
use Rattle.node.specs.Batch.{Done, pairs_of, reports_of, one_by_one, list_refusals, batch_by, batch_of}
use Rattle.node.proofs.RefusalRows.{table_rows, later_rows, parted, numbered_rows, fit_more}
use Rattle.node.proofs.Demands.{number_of, among, in_table, not_given, answered}
use Rattle.node.proofs.BatchKept.{reports_octets, batch_not_13}
use Rattle.node.proofs.Singles.{Front, front_none, front_long, front_dropped, One, step_front, octets_by, Singly, stopped, none_done}
use Rattle.node.proofs.Singles.{done, others, ones_on, ones_stop, ones_none, singly, done_all, ones_front, ones_answer, ones_first}

-- ---- events one by one

-- all of them, where the answer is 0
ones_all : (ss : List (List ℕ)) (n : Node) (b : List ℕ) → (one_by_one step_of n ss b).answer ≡ 0 → (one_by_one step_of n ss b).applied ≡ length ss
ones_all [] n b h = rw (ones_none n b)
ones_all (s ∷ ss) n b h =
    let r = step_of n s b in
    let f = ones_first n s ss b h in
    rw (ones_on n s ss b f.0) (omega (arith, ones_all ss r.1.0 (drop r.1.1.0 r.1.1.1) f.1))

-- d, and then a refusal with k: what was done stays, so many were applied
abbrev refused_after : Done Node → ℕ → ℕ → Done Node
refused_after d j k = record { answer = k; applied = j; left = d.left; written = d.written; buffer = d.buffer }

-- "stopping at the first refused pair"; "a refusal keeps the applied pairs' node, output and written length": where the events ss are all
-- applied, and the next one is refused with k by the node that they left and in the room that they left, the rest is not looked at.
pub stops : (ss : List (List ℕ)) (n : Node) (b s : List ℕ) (rest : List (List ℕ)) (k : ℕ) → (one_by_one step_of n ss b).answer ≡ 0
    → (step_of (one_by_one step_of n ss b).left s (drop (one_by_one step_of n ss b).written (one_by_one step_of n ss b).buffer)).0 ≡ k → (k ≡ 0 → ⊥)
    → one_by_one step_of n (ss ++ (s ∷ rest)) b ≡ refused_after (one_by_one step_of n ss b) (length ss) k
stops [] n b s rest k h e z =
    let i = rw (ones_none n b) at e in
    rw (ones_none n b) (ones_stop n s rest b (rw i (ne_eqb k 0 z)) ∙ rw i)
stops (x ∷ ss) n b s rest k h e z =
    let r = step_of n x b in
    let f = ones_first n x ss b h in
    let d = others n x ss b in
    let i = rw (ones_on n x ss b f.0, front_dropped (step_front n x b) d.written d.buffer) at e in
    let j = stops ss r.1.0 (drop r.1.1.0 r.1.1.1) s rest k f.1 i z in
    rw (ones_on n x ss b f.0, ones_on n x (ss ++ (s ∷ rest)) b f.0, j, add-one (length ss))

-- ---- the call

-- half of the numbers
pub pairs_half : (vs : List ℕ) → length (pairs_of vs) ≡ length vs / 2
unfolding pairs_of
pairs_half [] = omega arith
pairs_half (up ∷ []) = omega arith
pairs_half (up ∷ (down ∷ vs)) = omega (arith, pairs_half vs)

module _ (n : Node) (m : Name) (t : ℕ) (vs b : List ℕ) where
  -- "a list of odd length is 14, after 13 and before all else"
  pub in_order : map number_of (list_refusals n vs) ≡ 13 ∷ 14 ∷ []
  unfolding list_refusals
  in_order = refl

  abbrev k : ℕ
  k = first_fit (list_refusals n vs)

  listed : eqb k 0 ≡ true → batch_of n m t vs b ≡ one_by_one step_of n (reports_of m t vs) b
  unfolding batch_of batch_by
  listed e = rw e

  unlisted : eqb k 0 ≡ false → batch_of n m t vs b ≡ stopped k n b
  unfolding batch_of batch_by
  unlisted e = rw e

  -- 13 and 14: nothing applied, the same node, the same buffer
  pub unsound : sound n ≡ false → batch_of n m t vs b ≡ stopped 13 n b
  unfolding batch_of batch_by list_refusals first_fit
  unsound e = rw e

  pub odd : sound n ≡ true → length vs % 2 ≡ 1 → batch_of n m t vs b ≡ stopped 14 n b
  unfolding batch_of batch_by list_refusals first_fit
  odd e o = rw (e, eq-eqb (length vs % 2) 1 o)

  -- else the events of the pairs, one by one
  pub even : sound n ≡ true → (length vs % 2 ≡ 1 → ⊥) → batch_of n m t vs b ≡ one_by_one step_of n (reports_of m t vs) b
  unfolding batch_of batch_by list_refusals first_fit
  even e o = rw (e, ne_eqb (length vs % 2) 1 o)

  -- 13 and 14 are given only then: 13 of a node that the code can hold
  pub only_13 : Held n → (batch_of n m t vs b).answer ≡ 13 → sound n ≡ false
  only_13 h e = by (sound n) (λ ok. absurd (batch_not_13 n m t vs b (record { sound = ok; held = h }) e)) (λ z. z)

  never_14 : batch_of n m t vs b ≡ one_by_one step_of n (reports_of m t vs) b → (batch_of n m t vs b).answer ≡ 14 → ⊥
  unfolding refusals
  never_14 q =
      rw q (ones_answer (λ k. k ≡ 14 → ⊥) Octets (λ e. omega arith) (λ a s c o e. not_given 14 (refusals a s c) refl (sym (answered a s c) ∙ e))
      (reports_of m t vs) n b (reports_octets m t (pairs_of vs)))

  pub only_14 : (batch_of n m t vs b).answer ≡ 14 → (sound n ≡ true) × (length vs % 2 ≡ 1)
  only_14 e =
      by (sound n)
      (λ ok. by (eqb (length vs % 2) 1)
      (λ o. (ok, eqb-true (length vs % 2) 1 o))
      (λ o. absurd (never_14 (even ok (eqb-false (length vs % 2) 1 o)) e)))
      (λ z. let i = rw (unsound z) at e in absurd (omega arith))

  -- "An empty list changes nothing, the clock included", whatever the name and the time are.
  pub empty : sound n ≡ true → batch_of n m t [] b ≡ stopped 0 n b
  unfolding batch_of batch_by list_refusals first_fit pairs_of
  empty e = rw e (ones_none n b)

  -- The answer 0 says that every pair was applied.
  pub all_taken_lem : (batch_of n m t vs b).answer ≡ 0 → (batch_of n m t vs b).applied ≡ length (pairs_of vs)
  all_taken_lem h =
      by (eqb k 0)
      (λ e. rw (listed e) (ones_all (reports_of m t vs) n b (rw (listed e) at h) ∙ length-map (pairs_of vs) _))
      (λ e. absurd (eqb-false k 0 e (rw (unlisted e) at h)))

  -- "One call does what the same traffic events do one by one", whatever it answers: these are the calls of one event of the pairs that it
  -- applied, each with the buffer that the last one left.
  pub pairs_done : List One
  pairs_done = cond (eqb k 0) (done n (reports_of m t vs) b) []

  pub one_by_one_lem : Singly n (reports_of m t vs) (batch_of n m t vs b) pairs_done
  unfolding pairs_done
  one_by_one_lem =
      by (eqb k 0)
      (λ e. rw (listed e, e) (singly (reports_of m t vs) n b))
      (λ e. rw (unlisted e, e) (none_done k n (reports_of m t vs) b))

  -- and their events are octets
  pub pairs_octets : All (λ c. Octets c.event) pairs_done
  unfolding pairs_done
  pairs_octets = by (eqb k 0) (λ e. rw e (done_all Octets (reports_of m t vs) n b (reports_octets m t (pairs_of vs)))) (λ e. rw e tt)

  -- Refused or not, what is written fits, and all later octets of the buffer are as before.
  pub later_octets : Front (batch_of n m t vs b).written b (batch_of n m t vs b).buffer
  later_octets =
      by (eqb k 0)
      (λ e. rw (listed e) (ones_front (reports_of m t vs) n b))
      (λ e. rw (unlisted e) (front_none b))

  -- so its written length is that of what those calls write
  pub written_length : length (octets_by n pairs_done) ≡ (batch_of n m t vs b).written
  written_length = ap length one_by_one_lem.octets ∙ front_long later_octets

-- ---- which numbers there are: with numbers of 32 bits an event of a pair is never refused with 1 to 5, 9 or 10

-- 0, and the others in the order in which they are tried
abbrev pub answers : List ℕ
answers = 0 ∷ 13 ∷ 14 ∷ 6 ∷ 7 ∷ 8 ∷ 11 ∷ []

-- an event that names a context to tell it something is not refused as an activation is
module _ (n : Node) (s b : List ℕ) (m : Name) (up down : ℕ) (told : event_of s ≡ E.Traffic m up down) where
  abbrev w : Words
  w = said_of s

  abbrev of_traffic : List Row
  of_traffic = row 13 (not (sound n)) ∷ row 14 false ∷ row 6 (ltb latest (time_of s) || ltb (time_of s) n.clock) ∷ row 7 (leb most_accepted n.accepted)
      ∷ row 8 (not_active (handling n.profile) w.contexts (slots n)) ∷ row 11 (ltb (length b) (length (output n (time_of s) w))) ∷ []

  -- nor as one for a set of limits, or for a subscriber, is
  record Passes : Type 0 where
    set : unknown_set n.profile.sets w.set ≡ false
    edition : other_edition n.settings w.replaces ≡ false
    new : is_active (handling n.profile) w.contexts (slots n) ≡ false
    room : all_taken (handling n.profile) w.contexts (slots n) ≡ false
    attached : not_active (subscribing n.profile) w.subscribers (places n) ≡ false
    detached : is_active (subscribing n.profile) w.subscribers (places n) ≡ false
    vacant : all_taken (subscribing n.profile) w.subscribers (places n) ≡ false

  passes : Passes
  unfolding unknown_set other_edition not_active is_active all_taken
  passes = record { set = rw told; edition = rw told; new = rw told; room = rw told; attached = rw told; detached = rw told; vacant = rw told }

  later_rows_lem : first_fit (row 13 (not (sound n)) ∷ later_rows n (time_of s) w b) ≡ first_fit of_traffic
  unfolding first_fit later_rows table_rows
  later_rows_lem = rw (passes.set, passes.edition, passes.new, passes.room, passes.attached, passes.detached, passes.vacant)

  rows_first : first_fit (rows s) ≡ 0
      → first_fit (row 13 (not (sound n)) ∷ (rows s ++ later_rows n (time_of s) w b)) ≡ first_fit (row 13 (not (sound n)) ∷ later_rows n (time_of s) w b)
  unfolding first_fit
  rows_first e = ap (λ (k : ℕ). cond (not (sound n)) 13 k) (fit_more (rows s) (later_rows n (time_of s) w b) (numbered_rows s) e)

  traffic_numbers : first_fit (rows s) ≡ 0 → among (step_of n s b).0 answers ≡ true
  traffic_numbers e = rw (answered n s b ∙ ap first_fit (parted n s b) ∙ rows_first e ∙ later_rows_lem) (in_table of_traffic)

module _ (m : Name) (t : ℕ) (ht : t < 2 ^ 32) (hi : m.id < 2 ^ 32) (hg : m.ggsn < 2 ^ 32) where
  abbrev Fair : List ℕ → Type 0
  Fair s = (n : Node) (b : List ℕ) → among (step_of n s b).0 answers ≡ true

  said_fair : (s : List ℕ) (up down : ℕ) → decoded s ≡ Ok (t, E.Traffic m up down) → Fair s
  said_fair s up down e n b = traffic_numbers n s b m up down (sym (says_so s e).1) (octets_fit s e)

  reports_fair : (vs : List ℕ) → All (λ v. v < 2 ^ 32) vs → All Fair (reports_of m t vs)
  unfolding pairs_of
  reports_fair [] a = tt
  reports_fair (up ∷ []) a = tt
  reports_fair (up ∷ (down ∷ vs)) a =
      (said_fair (traffic_event m t up down) up down (traffic_said m t up down ht hi hg a.0 a.1.0), reports_fair vs a.1.1)

  pub numbers : (n : Node) (vs b : List ℕ) → All (λ v. v < 2 ^ 32) vs → among (batch_of n m t vs b).answer answers ≡ true
  numbers n vs b a =
      by (sound n)
      (λ ok. by (eqb (length vs % 2) 1)
      (λ o. rw (odd n m t vs b ok (eqb-true (length vs % 2) 1 o)))
      (λ o. rw (even n m t vs b ok (eqb-false (length vs % 2) 1 o))
      (ones_answer (λ k. among k answers ≡ true) Fair refl (λ c s d f. f c d) (reports_of m t vs) n b (reports_fair vs a))))
      (λ z. rw (unsound n m t vs b z))
