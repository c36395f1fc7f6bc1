-- What is answered where the room is looked for first: there is room, or there is none.
use mathlib.Core.Path.{◌≡◌, refl, ap, ◌∙◌}
use mathlib.Core.Bool.{cond}
use mathlib.Core.List.{List, [], ◌∷◌, ◌++◌}
use Prim.Native.Nat.{ℕ, zero, suc, ◌+◌, ◌≤◌, ◌<◌}
use native.Mathlib.Omega.{arith}
use lib.Dec.{eqb}
use lib.ListN.{length, drop, get_or, set}
use borrow.Author.Tests.{le-leb, lt-leb}
use Rattle.format.proofs.Tests.{either}
use Rattle.profile.specs.declared.Profile.{Profile}
use Rattle.context.specs.declared.Context.{Context}
use Rattle.history.specs.Slots.{across, along}
use Rattle.history.proofs.Ranges.{across_one, along_one}
use Rattle.node.specs.declared.Node.{Node}
use Rattle.node.specs.declared.Message.{Message}
use Rattle.node.specs.declared.Settings.{Settings}
use Rattle.node.specs.Private.Range.{slot_next, slot_out, Stands, advanced, tried_of, Tries, tried_all, TriesAll, served_of, Serves}

module _ (p : Profile) (gs : Settings) (t : ℕ) (h : Message) (c : Context) (b : List ℕ) where
  pub tries_full : {size : ℕ} → size ≡ length (slot_out p gs t h c) → length b < size → Tries p gs t h c b b 11 c 0
  unfolding tried_of
  tries_full e l = record { is = rw (lt-leb (length (slot_out p gs t h c)) (length b) (omega arith)) }

  pub tries_done : {b' : List ℕ} {at : ℕ} {c' : Context} → length (slot_out p gs t h c) ≤ length b
      → Stands (slot_next p gs t h c) (slot_out p gs t h c) b b' 0 c' at → Tries p gs t h c b b' 0 c' at
  unfolding tried_of
  tries_done {b'} {at} {c'} l w =
      let x = slot_out p gs t h c in
      let e = w.written.end in
      let z : at ≡ length x = omega arith in
      let v = w.value in
      let u : b' ≡ x ++ drop (length x) b = w.written.buf ∙ ap (λ (j : ℕ). x ++ drop j b) z in
      record { is = rw (le-leb (length x) (length b) l) (λ i. (0, (v i, (z i, u i)))) }

-- the same of the whole table
module _ (p : Profile) (gs : Settings) (t : ℕ) (h : Message) (cs : List Context) (b : List ℕ) where
  abbrev all_out : List ℕ
  all_out = along 0 16 (slot_out p gs t h) cs

  pub all_full : {size : ℕ} → size ≡ length all_out → length b < size → TriesAll p gs t h cs b b 11 cs 0
  unfolding tried_all
  all_full e l = record { is = rw (lt-leb (length all_out) (length b) (omega arith)) }

  pub all_done : {b' : List ℕ} {at : ℕ} {ds : List Context} → length all_out ≤ length b
      → Stands (across 0 16 (slot_next p gs t h) cs) all_out b b' 0 ds at → TriesAll p gs t h cs b b' 0 ds at
  unfolding tried_all
  all_done {b'} {at} {ds} l w =
      let x = all_out in
      let e = w.written.end in
      let z : at ≡ length x = omega arith in
      let v = w.value in
      let u : b' ≡ x ++ drop (length x) b = w.written.buf ∙ ap (λ (j : ℕ). x ++ drop j b) z in
      record { is = rw (le-leb (length x) (length b) l) (λ i. (0, (v i, (z i, u i)))) }

-- what stands at a place that there is, whatever stands in for one that there is not
pub get_d_any : {A : Type 0} (xs : List A) (i : ℕ) (d e : A) → i < length xs → get_or xs i d ≡ get_or xs i e
get_d_any [] i d e h = absurd (omega arith)
get_d_any (x ∷ xs) zero d e h = refl
get_d_any (x ∷ xs) (suc i) d e h = get_d_any xs i d e (omega arith)

-- ---- a slot heard alone

module _ (n : Node) (i t : ℕ) (h : Message) (d : Context) (l : i < length n.contexts) where
  abbrev here : Context
  here = get_or n.contexts i d

  alone : along i (i + 1) (slot_out n.profile n.settings t h) n.contexts ≡ slot_out n.profile n.settings t h here
  alone = along_one (slot_out n.profile n.settings t h) i n.contexts d l

  placed : across i (i + 1) (slot_next n.profile n.settings t h) n.contexts ≡ set n.contexts i (slot_next n.profile n.settings t h here)
  placed = across_one (slot_next n.profile n.settings t h) i n.contexts d l

  -- what is answered of it is answered of the node, with what then stands in its place
  pub served_one : {b b' : List ℕ} {a k a' k' : ℕ} {c : Context} {m : Node} → Tries n.profile n.settings t h here b b' a c k → a' ≡ a
      → m ≡ cond (eqb a 0) (advanced n t (set n.contexts i c)) n → k' ≡ cond (eqb a 0) k 0 → Serves n i (i + 1) t h b b' a' m k'
  unfolding served_of tried_of
  served_one {b} {b'} {a} {k} {a'} {k'} {c} {m} w p q r =
      let x = slot_out n.profile n.settings t h here in
      either (length x) (length b)
      (λ y.
      let e = rw (le-leb (length x) (length b) y) at w.is in
      let u = ap (λ (z : ℕ × (Context × (ℕ × List ℕ))). z.0) e in
      let v = ap (λ (z : ℕ × (Context × (ℕ × List ℕ))). z.1.0) e in
      let f : m ≡ advanced n t (set n.contexts i (slot_next n.profile n.settings t h here)) = q ∙ rw (u, v) in
      let g : k' ≡ length x = r ∙ rw u (ap (λ (z : ℕ × (Context × (ℕ × List ℕ))). z.1.1.0) e) in
      let o : a' ≡ 0 = p ∙ u in
      record { is = rw (alone, placed, le-leb (length x) (length b) y) (λ j. (o j, (f j, (g j, (e j).1.1.1)))) })
      (λ y.
      let e = rw (lt-leb (length x) (length b) y) at w.is in
      let u = ap (λ (z : ℕ × (Context × (ℕ × List ℕ))). z.0) e in
      let f : m ≡ n = q ∙ rw u in
      let g : k' ≡ 0 = r ∙ rw u in
      let o : a' ≡ 11 = p ∙ u in
      record { is = rw (alone, placed, lt-leb (length x) (length b) y) (λ j. (o j, (f j, (g j, (e j).1.1.1)))) })
