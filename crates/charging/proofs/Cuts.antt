-- A file cut into windows anywhere gives what the whole gives.
use mathlib.Core.Path.{◌≡◌, refl, sym, ap, ◌∙◌}
use mathlib.Core.Bool.{Bool, true, ◌&&◌}
use mathlib.Core.List.{List, [], ◌∷◌}
use Prim.Native.Nat.{ℕ, zero, suc, ◌-◌, ◌≤◌, ◌<◌}
use native.Mathlib.Omega.{arith}
use lib.Dec.{leb, eqb}
use lib.ListN.{length, take, drop, length-take, length-drop}
use lib.Seq.{drop-drop}
use borrow.Author.Tests.{leb-true, le-leb, lt-leb, eqb-true, eqb-false}
use Rattle.format.proofs.Tests.{by, both, either}
use Rattle.octets.proofs.Fronts.{drop_take}
use Rattle.history.specs.Lists.{All}
use Rattle.node.specs.declared.Node.{Node}
use Rattle.node.specs.Held.{Octets}
use Rattle.charging.specs.Done.{Done, nothing, joined, and_then}
use Rattle.charging.specs.File.{first_of, charged_in, charged}
use Rattle.charging.specs.Window.{ready, here_in, here}
use Rattle.charging.specs.Turns.{Turn, in_turn, in_turns}
use Rattle.charging.proofs.Joins.{and_ok, and_no, and_same, nothing_then, then_nothing, and_assoc}
use Rattle.charging.proofs.Firsts.{first_moves, first_same}
use Rattle.charging.proofs.Windows.{here_not, here_one, is_ready}

-- ---- lists

pub drop_octets : (k : ℕ) (s : List ℕ) → Octets s → Octets (drop k s)
drop_octets zero s o = o
drop_octets (suc k) [] o = tt
drop_octets (suc k) (x ∷ s) o = drop_octets k s o.1

-- ---- the whole file: more octets allowed than it has change nothing

charged_none : (k : ℕ) (n : Node) (s : List ℕ) → length s < 1 → charged_in k n s ≡ nothing n
unfolding charged_in
charged_none zero n s h = refl
charged_none (suc k) n s h = rw (lt-leb 1 (length s) h)

charged_some : (k : ℕ) (n : Node) (s : List ℕ) → 1 ≤ length s
    → charged_in (suc k) n s ≡ and_then (first_of n s) (charged_in k (first_of n s).node (drop (first_of n s).came s))
unfolding charged_in
charged_some k n s h = rw (le-leb 1 (length s) h)

-- an accepted event leaves less
less : (k : ℕ) (n : Node) (s : List ℕ) → 1 ≤ length s → length s ≤ suc k → (first_of n s).answer ≡ 0 → length (drop (first_of n s).came s) ≤ k
less k n s h l e = omega (arith, length-drop (first_of n s).came s, first_moves n s h e)

charged_enough : (k m : ℕ) (n : Node) (s : List ℕ) → length s ≤ k → length s ≤ m → charged_in k n s ≡ charged_in m n s
charged_enough zero m n s a b = charged_none zero n s (omega arith) ∙ sym (charged_none m n s (omega arith))
charged_enough (suc k) zero n s a b = charged_none (suc k) n s (omega arith) ∙ sym (charged_none zero n s (omega arith))
charged_enough (suc k) (suc m) n s a b =
    either 1 (length s)
    (λ h.
    let d = first_of n s in
    charged_some k n s h
    ∙ and_same d (charged_in k d.node (drop d.came s)) (charged_in m d.node (drop d.came s))
    (λ e. charged_enough k m d.node (drop d.came s) (less k n s h a e) (less m n s h b e))
    ∙ sym (charged_some m n s h))
    (λ h. charged_none (suc k) n s h ∙ sym (charged_none (suc m) n s h))

-- ---- what was done, and what is left for R to do

abbrev rest : (Node → List ℕ → Done) → Done → List ℕ → Done
rest R d s = R d.node (drop d.came s)

module _ (R : Node → List ℕ → Done) (s : List ℕ) where
  rest_is : {d e : Done} → d ≡ e → and_then d (rest R d s) ≡ and_then e (rest R e s)
  rest_is e = rw e

  rest_joined : (d e : Done) → d.answer ≡ 0 → and_then (and_then d e) (rest R (and_then d e) s) ≡ and_then d (and_then e (rest R e (drop d.came s)))
  rest_joined d e z =
      rest_is (and_ok d e z)
      ∙ ap (λ (x : Done). and_then x (rest R (joined d e) s)) (sym (and_ok d e z))
      ∙ and_assoc d e (rest R (joined d e) s)
      ∙ ap (λ (l : List ℕ). and_then d (and_then e (R e.node l))) (sym (drop-drop e.came d.came s))

  rest_refused : (d e : Done) → (d.answer ≡ 0 → ⊥) → and_then (and_then d e) (rest R (and_then d e) s) ≡ d
  rest_refused d e z = rest_is (and_no d e z) ∙ and_no d (rest R d s) z

  -- what does the same as d, and then does what is left behind it
  rest_then : (d e x : Done) → (d.answer ≡ 0 → x ≡ and_then e (rest R e (drop d.came s))) → and_then d x ≡ and_then (and_then d e) (rest R (and_then d e) s)
  rest_then d e x f =
      by (eqb d.answer 0)
      (λ t. let z = eqb-true d.answer 0 t in ap (and_then d) (f z) ∙ sym (rest_joined d e z))
      (λ t. let z = eqb-false d.answer 0 t in and_no d x z ∙ sym (rest_refused d e z))

-- ---- one window

stays : (f m : ℕ) (n : Node) (s : List ℕ) {w : Done} → length s ≤ f → length s ≤ m → w ≡ nothing n → charged_in f n s ≡ and_then w (rest (charged_in m) w s)
stays f m n s a b e = charged_enough f m n s a b ∙ sym (nothing_then n (charged_in m n s)) ∙ sym (rest_is (charged_in m) s e)

-- the next event in hand, and the window behind it
hand_one : (k : ℕ) (ended : Bool) (n : Node) (s : List ℕ) (h room : ℕ) → ready ended (length (take h s)) room ≡ true → first_of n (take h s) ≡ first_of n s
    → here_in (suc k) ended n (take h s) room
    ≡ and_then (first_of n s) (here_in k ended (first_of n s).node (take (h - (first_of n s).came) (drop (first_of n s).came s)) (room - length (first_of n s).out))
hand_one k ended n s h room r q = here_one k ended n (take h s) room r ∙ rw (q, drop_take (first_of n s).came h s)

in_hand_lem : (k f m : ℕ) (ended : Bool) (n : Node) (s : List ℕ) (h room : ℕ) → Octets s → (ended ≡ true → length s ≤ h) → length s ≤ f → length s ≤ m
    → charged_in f n s ≡ and_then (here_in k ended n (take h s) room) (rest (charged_in m) (here_in k ended n (take h s) room) s)
unfolding here_in
in_hand_lem zero f m ended n s h room o e a b = stays f m n s a b refl
in_hand_lem (suc k) zero m ended n s h room o e a b =
    by (ready ended (length (take h s)) room)
    (λ r. absurd (let g = (is_ready ended (length (take h s)) room r).some in omega (arith, length-take h s)))
    (λ r. stays zero m n s a b (here_not (suc k) ended n (take h s) room r))
in_hand_lem (suc k) (suc f) m ended n s h room o e a b =
    by (ready ended (length (take h s)) room)
    (λ r.
    let g = is_ready ended (length (take h s)) room r in
    let i : 1 ≤ length s = omega (arith, length-take h s, g.some) in
    let d = first_of n s in
    let c = d.came in
    let w = here_in k ended d.node (take (h - c) (drop c s)) (room - length d.out) in
    charged_some f n s i
    ∙ rest_then (charged_in m) s d w (charged_in f d.node (drop c s))
    (λ z.
    in_hand_lem k f m ended d.node (drop c s) (h - c) (room - length d.out) (drop_octets c s o)
    (λ t. let j = e t in omega (arith, length-drop c s))
    (less f n s i a z) (omega (arith, length-drop c s)))
    ∙ sym (rest_is (charged_in m) s (hand_one k ended n s h room r (first_same n s h ended o e g.long))))
    (λ r. stays (suc f) m n s a b (here_not (suc k) ended n (take h s) room r))

-- ---- turn after turn

module _ (t : Turn) (n : Node) (s : List ℕ) where
  -- the end is seen only where it is
  turn_end : (t.looked && leb (length s) t.hand) ≡ true → length s ≤ t.hand
  turn_end e = leb-true (length s) t.hand (both t.looked (leb (length s) t.hand) e).1

  -- a turn does the first of what the whole does, and leaves the rest
  pub turn_is : Octets s → charged n s ≡ and_then (in_turn t n s) (charged (in_turn t n s).node (drop (in_turn t n s).came s))
  unfolding charged here
  turn_is o =
      let d = in_turn t n s in
      let l = drop d.came s in
      let e = t.looked && leb (length s) t.hand in
      in_hand_lem (length (take t.hand s)) (length s) (length s) e n s t.hand t.room o turn_end (omega arith) (omega arith)
      ∙ ap (and_then d) (charged_enough (length s) (length l) d.node l (omega (arith, length-drop d.came s)) (omega arith))

pub turns_are : (ts : List Turn) (n : Node) (s : List ℕ) → Octets s
    → charged n s ≡ and_then (in_turns ts n s) (charged (in_turns ts n s).node (drop (in_turns ts n s).came s))
unfolding in_turns
turns_are [] n s o = sym (nothing_then n (charged n s))
turns_are (t ∷ ts) n s o =
    let d = in_turn t n s in
    let l = drop d.came s in
    turn_is t n s o ∙ rest_then charged s d (in_turns ts d.node l) (charged d.node l) (λ z. turns_are ts d.node l (drop_octets d.came s o))

-- A file of octets, cut into windows anywhere: once all of it is done, or an event is refused, that is what the whole gives. The node, the octets
-- in order, how far it came, the number of events, and the answer are the same.
pub cut_anywhere : (ts : List Turn) (n : Node) (s : List ℕ) → Octets s → ((in_turns ts n s).answer ≡ 0 → (in_turns ts n s).came ≡ length s)
    → in_turns ts n s ≡ charged n s
unfolding charged
cut_anywhere ts n s o f =
    let d = in_turns ts n s in
    let l = drop d.came s in
    by (eqb d.answer 0)
    (λ t.
    let z = eqb-true d.answer 0 t in
    let y : length l < 1 = omega (arith, length-drop d.came s, f z) in
    sym (turns_are ts n s o ∙ ap (and_then d) (charged_none (length l) d.node l y) ∙ then_nothing d d.node z refl))
    (λ t. sym (turns_are ts n s o ∙ and_no d (charged d.node l) (eqb-false d.answer 0 t)))

-- ---- and it is done after so many turns as the file has octets

-- a turn that looks for the end, and has room, and 292 octets in hand if the file still has them
pub record Able (t : Turn) : Type 0 where
  pub looked : t.looked ≡ true
  pub hand : 292 ≤ t.hand
  pub room : 16416 ≤ t.room

able_ready : (t : Turn) (s : List ℕ) → Able t → 1 ≤ length s → ready (t.looked && leb (length s) t.hand) (length (take t.hand s)) t.room ≡ true
able_ready t s a h =
    let l = length-take t.hand s in
    let some = le-leb 1 (length (take t.hand s)) (omega (arith, a.hand)) in
    let room = le-leb 16416 t.room a.room in
    either (length s) t.hand
    (λ j. rw (a.looked, le-leb (length s) t.hand j, some, room))
    (λ j. rw (a.looked, lt-leb (length s) t.hand j, le-leb 292 (length (take t.hand s)) (omega (arith, a.hand)), some, room))

-- it refuses an event or comes on
here_moves : (k : ℕ) (ended : Bool) (n : Node) (s : List ℕ) (room : ℕ) → 1 ≤ k → ready ended (length s) room ≡ true
    → (here_in k ended n s room).answer ≡ 0 → 1 ≤ (here_in k ended n s room).came
here_moves zero ended n s room l r = absurd (omega arith)
here_moves (suc k) ended n s room l r =
    let d = first_of n s in
    let w = here_in k ended d.node (drop d.came s) (room - length d.out) in
    by (eqb d.answer 0)
    (λ t.
    let z = eqb-true d.answer 0 t in
    rw (here_one k ended n s room r, and_ok d w z) (λ y. omega (arith, first_moves n s (is_ready ended (length s) room r).some z)))
    (λ t.
    let z = eqb-false d.answer 0 t in
    rw (here_one k ended n s room r, and_no d w z) (λ y. absurd (z y)))

turn_moves : (t : Turn) (n : Node) (s : List ℕ) → Able t → 1 ≤ length s → (in_turn t n s).answer ≡ 0 → 1 ≤ (in_turn t n s).came
unfolding here
turn_moves t n s a h =
    let e = t.looked && leb (length s) t.hand in
    let l = take t.hand s in
    let r = able_ready t s a h in
    here_moves (length l) e n l t.room (is_ready e (length l) t.room r).some r

-- in any windows of 292 octets or more, where the end is looked for
pub turns_enough : (ts : List Turn) (n : Node) (s : List ℕ) → Octets s → All Able ts → length s ≤ length ts → in_turns ts n s ≡ charged n s
unfolding in_turns charged
turns_enough [] n s o a l = sym (charged_none (length s) n s (omega arith))
turns_enough (t ∷ ts) n s o a l =
    let d = in_turn t n s in
    let r = drop d.came s in
    and_same d (in_turns ts d.node r) (charged d.node r)
    (λ z.
    turns_enough ts d.node r (drop_octets d.came s o) a.1
    (either 1 (length s)
    (λ h. omega (arith, length-drop d.came s, turn_moves t n s a.0 h z))
    (λ h. omega (arith, length-drop d.came s))))
    ∙ sym (turn_is t n s o)
