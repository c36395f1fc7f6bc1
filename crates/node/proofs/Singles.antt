-- Events done one by one, as calls of one event: those that were applied, each with the buffer that the last one left; and the room that they
-- leave.
use mathlib.Core.Path.{◌≡◌, refl, sym, ap, ◌∙◌}
use mathlib.Core.Bool.{true, false, cond}
use mathlib.Core.List.{List, [], ◌∷◌, ◌++◌, map, append_assoc}
use Prim.Native.Nat.{ℕ, ◌+◌, ◌≤◌}
use native.Mathlib.Numerals.{add-one}
use native.Mathlib.Omega.{arith}
use lib.Dec.{eqb}
use lib.ListN.{length, take, drop, length-append, length-drop}
use lib.Seq.{length-take-le, take-append_seam, take-append-add, drop-append-add, drop_at, drop-drop}
use borrow.Author.Tests.{eqb-true, eqb-false}
use Rattle.format.proofs.Tests.{by}
use Rattle.event.specs.Fields.{time_of}
use Rattle.history.specs.Lists.{All}
use Rattle.node.specs.declared.Node.{Node}
use Rattle.node.specs.Step.{said_of, output, step_of}
use Rattle.node.specs.Batch.{Done, and_then, one_by_one}
use Rattle.node.specs.Run.{Call, step, after_one, after}
use Rattle.node.proofs.Demands.{answered, accepted, refused}
use Rattle.node.proofs.NodeKept.{accepts}

-- ---- a buffer after a call: so many octets at its start were written, all later ones are as before

pub record Front (w : ℕ) (b b' : List ℕ) : Type 0 where
  pub fits : w ≤ length b
  pub size : length b' ≡ length b
  pub later : b' ≡ take w b' ++ drop w b

pub front_none : (b : List ℕ) → Front 0 b b
front_none b = record { fits = omega arith; size = refl; later = refl }

front_of : (x b : List ℕ) → length x ≤ length b → Front (length x) b (x ++ drop (length x) b)
front_of x b h = record { fits = h; size = simp (length-append, length-drop) (omega arith); later = rw take-append_seam }

module _ {w : ℕ} {b b' : List ℕ} (f : Front w b b') where
  pub front_long : length (take w b') ≡ w
  front_long = length-take-le w b' (omega (arith, f.fits, f.size))

  -- what is behind it
  front_rest : drop w b' ≡ drop w b
  front_rest = ap (λ (x : List ℕ). drop w x) f.later ∙ drop_at (take w b') (drop w b) w front_long

  pub front_taken : (v : ℕ) (c : List ℕ) → take (w + v) (take w b' ++ c) ≡ take w b' ++ take v c
  front_taken v c = ap (λ (k : ℕ). take (k + v) (take w b' ++ c)) (sym front_long) ∙ take-append-add (take w b') c v

  pub front_dropped : (v : ℕ) (c : List ℕ) → drop (w + v) (take w b' ++ c) ≡ drop v c
  front_dropped v c = ap (λ (k : ℕ). drop (k + v) (take w b' ++ c)) (sym front_long) ∙ drop-append-add (take w b') c v

  -- and then more of it
  front_then : (v : ℕ) (c : List ℕ) → Front v (drop w b') c → Front (w + v) b (take w b' ++ c)
  front_then v c g = record {
    fits = omega (arith, f.fits, f.size, g.fits, length-drop w b');
    size = omega (arith, f.fits, f.size, g.size, length-append (take w b') c, front_long, length-drop w b');
    later =
        ap (λ (x : List ℕ). take w b' ++ x) (g.later ∙ ap (λ (x : List ℕ). take v c ++ drop v x) front_rest ∙ rw drop-drop)
        ∙ sym (append_assoc (take w b') (take v c) (drop (w + v) b))
        ∙ ap (λ (x : List ℕ). x ++ drop (w + v) b) (sym (front_taken v c));
  }

-- ---- a call of one event

pub record One : Type 0 where
  pub event : List ℕ
  pub buffer : List ℕ

abbrev pub call : One → Call
call c = step c.event c.buffer

-- what is answered to it: number, node, written length, buffer
abbrev pub got : Node → One → ℕ × (Node × (ℕ × List ℕ))
got n c = step_of n c.event c.buffer

-- the octets that it writes
abbrev pub octets_one : Node → One → List ℕ
octets_one n c = take (got n c).1.1.0 (got n c).1.1.1

pub step_refused : (n : Node) (s b : List ℕ) → eqb (step_of n s b).0 0 ≡ false → step_of n s b ≡ ((step_of n s b).0, (n, (0, b)))
step_refused n s b e = refused n s b (step_of n s b).0 (sym (answered n s b)) (eqb-false (step_of n s b).0 0 e)

pub step_front : (n : Node) (s b : List ℕ) → Front (step_of n s b).1.1.0 b (step_of n s b).1.1.1
step_front n s b =
    by (eqb (step_of n s b).0 0)
    (λ e.
    let z = sym (answered n s b) ∙ eqb-true (step_of n s b).0 0 e in
    rw (accepted n s b z) (front_of (output n (time_of s) (said_of s)) b (accepts n s b z).fits))
    (λ e. rw (step_refused n s b e) (front_none b))

-- ---- calls of one event one after another

-- each of them is accepted
abbrev pub AllAccepted : Node → List One → Type 0
AllAccepted n [] = Unit {0}
AllAccepted n (c ∷ cs) = ((got n c).0 ≡ 0) × AllAccepted (got n c).1.0 cs

-- all that they write
abbrev pub octets_by : Node → List One → List ℕ
octets_by n [] = []
octets_by n (c ∷ cs) = octets_one n c ++ octets_by (got n c).1.0 cs

-- What a call of events ss does is what the calls cs do: these are the events that it applied, each was accepted, and the node and the written
-- octets are theirs.
pub record Singly (n : Node) (ss : List (List ℕ)) (d : Done Node) (cs : List One) : Type 0 where
  pub count : length cs ≡ d.applied
  pub events : map (λ c. c.event) cs ≡ take d.applied ss
  pub accepted : AllAccepted n cs
  pub node : after n (map call cs) ≡ d.left
  pub octets : octets_by n cs ≡ take d.written d.buffer

-- nothing was applied
abbrev pub stopped : ℕ → Node → List ℕ → Done Node
stopped k n b = record { answer = k; applied = 0; left = n; written = 0; buffer = b }

pub none_done : (k : ℕ) (n : Node) (ss : List (List ℕ)) (b : List ℕ) → Singly n ss (stopped k n b) []
unfolding after
none_done k n ss b = record { count = refl; events = refl; accepted = tt; node = refl; octets = refl }

-- ---- events one by one

-- the calls of those that are applied, each with what the last one left of the buffer
pub done : Node → List (List ℕ) → List ℕ → List One
done n [] b = []
done n (s ∷ ss) b = cond (eqb (step_of n s b).0 0)
    (record { event = s; buffer = b } ∷ done (step_of n s b).1.0 ss (drop (step_of n s b).1.1.0 (step_of n s b).1.1.1))
    []

module _ (n : Node) (s : List ℕ) (ss : List (List ℕ)) (b : List ℕ) where
  abbrev r : ℕ × (Node × (ℕ × List ℕ))
  r = step_of n s b

  -- the others, after the first
  abbrev pub others : Done Node
  others = one_by_one step_of r.1.0 ss (drop r.1.1.0 r.1.1.1)

  -- the first is accepted
  pub ones_on : eqb r.0 0 ≡ true → one_by_one step_of n (s ∷ ss) b ≡ record {
    answer = others.answer;
    applied = others.applied + 1;
    left = others.left;
    written = r.1.1.0 + others.written;
    buffer = take r.1.1.0 r.1.1.1 ++ others.buffer;
  }
  unfolding one_by_one and_then
  ones_on e = rw e

  -- the first is refused
  pub ones_stop : eqb r.0 0 ≡ false → one_by_one step_of n (s ∷ ss) b ≡ stopped r.0 n b
  unfolding one_by_one and_then
  ones_stop e =
      let q = step_refused n s b e in
      rw e (λ i. record { answer = r.0; applied = 0; left = (q i).1.0; written = (q i).1.1.0; buffer = (q i).1.1.1 })

pub ones_none : (n : Node) (b : List ℕ) → one_by_one step_of n [] b ≡ stopped 0 n b
unfolding one_by_one
ones_none n b = refl

pub singly : (ss : List (List ℕ)) (n : Node) (b : List ℕ) → Singly n ss (one_by_one step_of n ss b) (done n ss b)
unfolding done after after_one
singly [] n b = rw (ones_none n b) (none_done 0 n [] b)
singly (s ∷ ss) n b =
    let r = step_of n s b in
    let d = others n s ss b in
    let i = singly ss r.1.0 (drop r.1.1.0 r.1.1.1) in
    by (eqb r.0 0)
    (λ e. rw (ones_on n s ss b e, e) (record {
      count = omega (arith, i.count);
      events = rw (add-one, i.events);
      accepted = (eqb-true r.0 0 e, i.accepted);
      node = i.node;
      octets = rw i.octets (sym (front_taken (step_front n s b) d.written d.buffer));
    }))
    (λ e. rw (ones_stop n s ss b e, e) (none_done r.0 n (s ∷ ss) b))

-- what holds of the events holds of theirs
pub done_all : (P : List ℕ → Type 0) (ss : List (List ℕ)) (n : Node) (b : List ℕ) → All P ss → All (λ c. P c.event) (done n ss b)
unfolding done
done_all P [] n b a = tt
done_all P (s ∷ ss) n b a =
    let r = step_of n s b in
    by (eqb r.0 0) (λ e. rw e (a.0, done_all P ss r.1.0 (drop r.1.1.0 r.1.1.1) a.1)) (λ e. rw e tt)

pub ones_front : (ss : List (List ℕ)) (n : Node) (b : List ℕ) → Front (one_by_one step_of n ss b).written b (one_by_one step_of n ss b).buffer
ones_front [] n b = rw (ones_none n b) (front_none b)
ones_front (s ∷ ss) n b =
    let r = step_of n s b in
    let d = others n s ss b in
    by (eqb r.0 0)
    (λ e.
    rw (ones_on n s ss b e)
    (front_then (step_front n s b) d.written d.buffer (ones_front ss r.1.0 (drop r.1.1.0 r.1.1.1))))
    (λ e. rw (ones_stop n s ss b e) (front_none b))

-- a property of 0, and of the answer to each of the events, is one of the answer to all
pub ones_answer : (Q : ℕ → Type 0) (P : List ℕ → Type 0) → Q 0 → ((n : Node) (s b : List ℕ) → P s → Q (step_of n s b).0)
    → (ss : List (List ℕ)) (n : Node) (b : List ℕ) → All P ss → Q (one_by_one step_of n ss b).answer
ones_answer Q P z f [] n b a = rw (ones_none n b) z
ones_answer Q P z f (s ∷ ss) n b a =
    let r = step_of n s b in
    by (eqb r.0 0)
    (λ e. rw (ones_on n s ss b e) (ones_answer Q P z f ss r.1.0 (drop r.1.1.0 r.1.1.1) a.1))
    (λ e. rw (ones_stop n s ss b e) (f n s b a.0))

-- where the answer to all is 0, the first was accepted, and so were the others
pub ones_first : (n : Node) (s : List ℕ) (ss : List (List ℕ)) (b : List ℕ) → (one_by_one step_of n (s ∷ ss) b).answer ≡ 0
    → (eqb (step_of n s b).0 0 ≡ true) × ((others n s ss b).answer ≡ 0)
ones_first n s ss b h =
    by (eqb (step_of n s b).0 0)
    (λ e. (e, rw (ones_on n s ss b e) at h))
    (λ e. absurd (eqb-false (step_of n s b).0 0 e (rw (ones_stop n s ss b e) at h)))
