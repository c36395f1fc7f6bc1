-- The next event of a file charged: what is known of it whatever the node says; and that it is the same in a window, if that has 292 octets or the
-- rest of the file.
use mathlib.Core.Path.{◌≡◌, refl, sym, ap, ◌∙◌}
use mathlib.Core.Bool.{Bool, true, false, not, cond}
use mathlib.Core.List.{List, []}
use Prim.Native.Nat.{ℕ, ◌≤◌, ◌<◌}
use native.Mathlib.Omega.{arith}
use lib.Dec.{eqb}
use lib.ListN.{length, get_or, take, length-take}
use lib.Seq.{get_or-take, take_all, take-take}
use borrow.Author.Tests.{eqb-false, le-leb, le-ltb, ne_eqb}
use Rattle.format.proofs.Tests.{by}
use Rattle.event.specs.Kinds.{whole_of}
use Rattle.event.specs.Rows.{first_fit, marked, known}
use Rattle.event.specs.Framing.{next_length}
use Rattle.event.proofs.Framed.{whole_most, whole_same, next_within, next_some}
use Rattle.node.specs.declared.Node.{Node}
use Rattle.node.specs.Sound.{sound}
use Rattle.node.specs.Step.{refusals, step_of}
use Rattle.node.specs.Held.{Octets}
use Rattle.node.proofs.Brings.{octet_at}
use Rattle.node.proofs.Demands.{refused}
use Rattle.charging.specs.File.{next_event, roomy, taken, first_of}

-- ---- how far it goes

module _ (n : Node) (m : ℕ) (r : ℕ × (Node × (ℕ × List ℕ))) where
  taken_came : (taken n m r).answer ≡ 0 → (taken n m r).came ≡ m
  taken_came = by (eqb r.0 0) (λ e. rw e (λ z. refl)) (λ e. rw e (λ z. absurd (eqb-false r.0 0 e z)))

  taken_within : (taken n m r).came ≤ m
  taken_within = by (eqb r.0 0) (λ e. rw e (omega arith)) (λ e. rw e (omega arith))

module _ (n : Node) (s : List ℕ) where
  pub first_came : (first_of n s).answer ≡ 0 → (first_of n s).came ≡ next_length s
  unfolding first_of
  first_came e = taken_came n (next_length s) (step_of n (next_event s) roomy) e

  pub first_within : (first_of n s).came ≤ length s
  unfolding first_of
  first_within = omega (arith, taken_within n (next_length s) (step_of n (next_event s) roomy), next_within s)

  -- an accepted event of something is something
  pub first_moves : 1 ≤ length s → (first_of n s).answer ≡ 0 → 1 ≤ (first_of n s).came
  first_moves h e = omega (arith, first_came e, next_some s h)

-- ---- in a window

next_known : (s : List ℕ) → known s ≡ true → whole_of s ≤ length s → next_length s ≡ whole_of s
unfolding next_length
next_known s k h = rw (k, le-leb (whole_of s) (length s) h)

next_unknown : (s : List ℕ) → known s ≡ false → next_length s ≡ length s
unfolding next_length
next_unknown s k = rw k

event_unknown : (s : List ℕ) → known s ≡ false → next_event s ≡ s
event_unknown s k = take_all (next_length s) s (omega (arith, next_unknown s k))

-- the refusal of octets whose kind is none: it does not depend on what follows their kind
strange : Node → Bool → ℕ
strange n m = cond (not (sound n)) 13 (cond (not m) 2 3)

strange_fit : (n : Node) (s b : List ℕ) → 7 ≤ length s → known s ≡ false → first_fit (refusals n s b) ≡ strange n (marked s)
unfolding refusals first_fit strange
strange_fit n s b h k = rw (le-ltb (length s) 7 h, k)

strange_some : (n : Node) (m : Bool) → strange n m ≡ 0 → ⊥
unfolding strange
strange_some n true = by (sound n) (λ e. rw e (λ z. omega arith)) (λ e. rw e (λ z. omega arith))
strange_some n false = by (sound n) (λ e. rw e (λ z. omega arith)) (λ e. rw e (λ z. omega arith))

pub taken_refused : (n : Node) (m k : ℕ) {b : List ℕ} {r : ℕ × (Node × (ℕ × List ℕ))} → r ≡ (k, (n, (0, b))) → (k ≡ 0 → ⊥)
    → taken n m r ≡ record { answer = k; node = n; out = []; came = 0; events = 0; last = 0 }
taken_refused n m k e z = rw (e, ne_eqb k 0 z)

first_strange : (n : Node) (s : List ℕ) → 7 ≤ length s → known s ≡ false
    → first_of n s ≡ record { answer = strange n (marked s); node = n; out = []; came = 0; events = 0; last = 0 }
unfolding first_of
first_strange n s h k =
    let z = strange_some n (marked s) in
    rw (event_unknown s k)
    (taken_refused n (next_length s) (strange n (marked s)) (refused n s roomy (strange n (marked s)) (strange_fit n s roomy h k) z) z)

module _ (n : Node) (s : List ℕ) (h : ℕ) (o : Octets s) (long : 292 ≤ length (take h s)) where
  abbrev t : List ℕ
  t = take h s

  pub hand_most : (292 ≤ h) × (292 ≤ length s)
  hand_most = (omega (arith, length-take h s), omega (arith, length-take h s))

  same_at : (i : ℕ) → i < 292 → get_or t i 0 ≡ get_or s i 0
  same_at i l = get_or-take h s i 0 (omega (arith, hand_most.0))

  same_known : known t ≡ known s
  unfolding known
  same_known = rw (same_at 2 (omega arith))

  same_marked : marked t ≡ marked s
  unfolding marked
  same_marked = rw (same_at 0 (omega arith), same_at 1 (omega arith))

  same_whole : whole_of t ≡ whole_of s
  same_whole = whole_same s t (same_at 2 (omega arith)) (same_at 36 (omega arith))

  whole_there : whole_of s ≤ 292
  whole_there = whole_most s (octet_at s o 36)

  next_same : known s ≡ true → next_length t ≡ next_length s
  next_same k =
      next_known t (same_known ∙ k) (omega (arith, same_whole, whole_there))
      ∙ same_whole
      ∙ sym (next_known s k (omega (arith, whole_there, hand_most.1)))

  event_same : known s ≡ true → next_event t ≡ next_event s
  event_same k =
      rw (next_same k)
      (take-take (next_length s) h s (omega (arith, next_known s k (omega (arith, whole_there, hand_most.1)), whole_there, hand_most.0)))

  known_long : known s ≡ true → first_of n t ≡ first_of n s
  unfolding first_of
  known_long k = rw (event_same k, next_same k)

  strange_long : known s ≡ false → first_of n t ≡ first_of n s
  strange_long k =
      first_strange n t (omega arith) (same_known ∙ k)
      ∙ rw same_marked (sym (first_strange n s (omega (arith, hand_most.1)) k))

  first_long : first_of n t ≡ first_of n s
  first_long = by (known s) known_long strange_long

-- the next event in hand is the next event of the file
pub first_same : (n : Node) (s : List ℕ) (h : ℕ) (ended : Bool) → Octets s → (ended ≡ true → length s ≤ h) → (ended ≡ false → 292 ≤ length (take h s))
    → first_of n (take h s) ≡ first_of n s
first_same n s h true o e l = ap (first_of n) (take_all h s (e refl))
first_same n s h false o e l = first_long n s h o (l refl)
