-- A list of which some is in hand: what is counted there, and what is left, give the whole.
use Rattle.std.proofs.Common.{◌≡◌, ℕ, zero, suc, ◌+◌, ◌-◌, ◌≤◌, Bool, true, false, ◌||◌, leb, List, length, take, drop, sym, refl, ap, ◌∙◌, arith, length-drop, length-take, drop-drop, le-leb, leb-true}
use Rattle.format.proofs.Tests.{by, both}
use Rattle.octets.proofs.Fronts.{drop_take}
use Rattle.tally.specs.declared.Tally.{Tally}
use Rattle.tally.specs.Look.{look_of}
use Rattle.tally.specs.Tally.{fits, and_then, ready, tallied_in, tallied}
use Rattle.tally.proofs.Looks.{look_within}
use Rattle.tally.proofs.Tallies.{then_at, going, in_stop, in_step, some_left, step}
use Rattle.tally.proofs.Windows.{look_local}

-- from t over s, w was reached: what is left behind it gives the same
pub record Reached (id ggsn : ℕ) (t : Tally) (s : List ℕ) (w : Tally) : Type 0 where
  pub is : tallied true id ggsn t s ≡ tallied true id ggsn w (drop (w.at - t.at) s)
  pub on : t.at ≤ w.at
  pub within : w.at ≤ t.at + length s

or_else : (a b : Bool) → (a || b) ≡ true → (a ≡ true → ⊥) → b ≡ true
or_else true b e n = absurd (n refl)
or_else false b e n = e

module _ (id ggsn : ℕ) where
  reached_start : (t : Tally) (s : List ℕ) → Reached id ggsn t s t
  reached_start t s =
      let z : t.at - t.at ≡ 0 = omega arith in
      record { is = ap (λ (i : ℕ). tallied true id ggsn t (drop i s)) (sym z); on = omega arith; within = omega arith }

  -- a step more at the front
  reached_step : (t w : Tally) (s : List ℕ) → going true id ggsn t (length s) ≡ true
      → Reached id ggsn (and_then t (look_of id ggsn s)) (drop (look_of id ggsn s).at s) w → Reached id ggsn t s w
  reached_step t w s g r =
      let k = look_of id ggsn s in
      let a = then_at t k in
      let o = r.on in
      let i = r.within in
      let z : k.at + (w.at - (and_then t k).at) ≡ w.at - t.at = omega arith in
      record {
        is = step true id ggsn t s g
            ∙ r.is
            ∙ ap (tallied true id ggsn w) (drop-drop (w.at - (and_then t k).at) k.at s ∙ ap (λ (i : ℕ). drop i s) z);
        on = omega arith;
        within = omega (arith, length-drop k.at s, look_within id ggsn s);
      }

  -- where a step is taken in hand, what is in hand decides it; and it is taken of the whole
  module _ (e : Bool) (t : Tally) (s : List ℕ) (h : ℕ) (f : e ≡ true → length s ≤ h) (g : going e id ggsn t (length (take h s)) ≡ true) where
    hand_look : look_of id ggsn (take h s) ≡ look_of id ggsn s
    hand_look =
        let r = (both (fits t.fault) (ready e (length (take h s))) g).1 in
        let q = (both (leb 1 (length (take h s))) (e || leb 1026 (length (take h s))) r).1 in
        look_local id ggsn h s (λ l. leb-true 1026 (length (take h s)) (or_else e (leb 1026 (length (take h s))) q (λ y. omega (arith, f y))))

    whole_going : going true id ggsn t (length s) ≡ true
    whole_going =
        let l = some_left e id ggsn t (length (take h s)) g in
        rw ((both (fits t.fault) (ready e (length (take h s))) g).0, le-leb 1 (length s) (omega (arith, length-take h s)))

  in_hand_lem : (n : ℕ) (e : Bool) (t : Tally) (s : List ℕ) (h : ℕ) → (e ≡ true → length s ≤ h) → Reached id ggsn t s (tallied_in n e id ggsn t (take h s))
  unfolding tallied_in
  in_hand_lem zero e t s h f = reached_start t s
  in_hand_lem (suc n) e t s h f =
      by (going e id ggsn t (length (take h s)))
      (λ g.
      let k = look_of id ggsn s in
      let d = hand_look e t s h f g in
      let q : tallied_in (suc n) e id ggsn t (take h s) ≡ tallied_in n e id ggsn (and_then t k) (take (h - k.at) (drop k.at s)) =
      in_step e id ggsn n t (take h s) g
      ∙ ap (λ (y : Tally). tallied_in n e id ggsn (and_then t y) (drop y.at (take h s))) d
      ∙ ap (tallied_in n e id ggsn (and_then t k)) (drop_take k.at h s) in
      rw q (reached_step t _ s (whole_going e t s h f g)
      (in_hand_lem n e (and_then t k) (drop k.at s) (h - k.at) (λ y. omega (arith, length-drop k.at s, f y)))))
      (λ g. rw (in_stop e id ggsn (suc n) t (take h s) g) (reached_start t s))

  pub hand : (e : Bool) (t : Tally) (s : List ℕ) (h : ℕ) → (e ≡ true → length s ≤ h) → Reached id ggsn t s (tallied e id ggsn t (take h s))
  unfolding tallied
  hand e t s h f = in_hand_lem (length (take h s)) e t s h f
