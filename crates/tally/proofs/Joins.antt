-- What is counted from t on is t, and then what is counted from nothing on.
use Rattle.std.proofs.Common.{◌≡◌, ℕ, zero, suc, ◌+◌, ◌%◌, ◌^◌, ◌<◌, ◌≤◌, Bool, true, false, eqb, List, length, drop, sym, refl, ap, ◌∙◌, ap₂, arith, eqb-true}
use borrow.Author.Tests.{eqb-false}
use Rattle.format.proofs.Tests.{by, both}
use Rattle.tally.specs.declared.Fault.{Fault}
use Rattle.tally.specs.declared.Tally.{Tally}
use Rattle.tally.specs.Look.{stops, look_of}
use Rattle.tally.specs.Tally.{fits, start, and_then, ready, tallied_in, tallied}
use Rattle.tally.specs.Turns.{onto}
use Rattle.tally.proofs.Looks.{look_one, look_moves}
use Rattle.tally.proofs.Tallies.{no_fault, so_far, then_stops, then_counts, then_none, then_fits, then_at, going, in_stop, in_step}

module _ (t : Tally) where
  -- with no bound met
  pub onto_then : (u : Tally) → fits t.fault ≡ true → t.at + u.at < 2 ^ 64 → t.count + u.count < 2 ^ 64 → onto t u ≡ and_then t u
  unfolding onto and_then
  onto_then u f a c =
      let x : (t.at + u.at) % 2 ^ 64 ≡ t.at + u.at = omega arith in
      let y : (t.count + u.count) % 2 ^ 64 ≡ t.count + u.count = omega arith in
      rw f (by (fits u.fault) (λ e. rw (e, x, y)) (λ e. rw (e, x)))

  -- nothing more
  then_start : fits t.fault ≡ true → and_then t start ≡ t
  unfolding and_then
  then_start f =
      let x : t.at + 0 ≡ t.at = omega arith in
      let y : t.count + 0 ≡ t.count = omega arith in
      ap₂ {C = Tally} (λ (i c : ℕ). so_far i c t.number) x y
      ∙ ap (λ (g : Fault). record { fault = g; at = t.at; count = t.count; number = t.number }) (sym (no_fault t.fault f))

  -- one after another, joined in either order
  module _ (u k : Tally) (f : fits u.fault ≡ true) where
    further : (and_then t u).at + k.at ≡ t.at + (u.at + k.at)
    further = omega (arith, then_at t u)

    then_count : (and_then t u).count ≡ t.count + u.count
    unfolding and_then
    then_count = rw f

    more : (and_then t u).count + k.count ≡ t.count + (u.count + k.count)
    more = omega (arith, then_count)

    assoc_stops : fits k.fault ≡ false → and_then (and_then t u) k ≡ and_then t (and_then u k)
    assoc_stops e =
        then_stops (and_then t u) k e
        ∙ ap (stops k.fault) further
        ∙ sym (then_stops t (stops k.fault (u.at + k.at)) e)
        ∙ ap (and_then t) (sym (then_stops u k e))

    module _ (e : fits k.fault ≡ true) where
      assoc_counts : (k.count ≡ 0 → ⊥) → and_then (and_then t u) k ≡ and_then t (and_then u k)
      assoc_counts n =
          then_counts (and_then t u) k e n
          ∙ ap₂ {C = Tally} (λ (i c : ℕ). so_far i c k.number) further more
          ∙ sym (then_counts t (so_far (u.at + k.at) (u.count + k.count) k.number) refl (λ z. n (omega arith)))
          ∙ ap (and_then t) (sym (then_counts u k e n))

      -- the same of a number that is taken from t, or from u
      numbered : (n : ℕ) → (and_then t u).number ≡ n
          → and_then t (so_far (u.at + k.at) (u.count + k.count) u.number) ≡ so_far (t.at + (u.at + k.at)) (t.count + (u.count + k.count)) n
          → k.count ≡ 0 → and_then (and_then t u) k ≡ and_then t (and_then u k)
      numbered n d g z =
          then_none (and_then t u) k e z
          ∙ ap (λ (m : ℕ). so_far ((and_then t u).at + k.at) ((and_then t u).count + k.count) m) d
          ∙ ap₂ {C = Tally} (λ (i c : ℕ). so_far i c n) further more
          ∙ sym g
          ∙ ap (and_then t) (sym (then_none u k e z))

      assoc_none : k.count ≡ 0 → and_then (and_then t u) k ≡ and_then t (and_then u k)
      assoc_none z =
          let x = so_far (u.at + k.at) (u.count + k.count) u.number in
          by (eqb u.count 0)
          (λ y.
          let v = eqb-true u.count 0 y in
          numbered t.number (ap (λ (w : Tally). w.number) (then_none t u f v)) (then_none t x refl (omega arith)) z)
          (λ y.
          let v = eqb-false u.count 0 y in
          numbered u.number (ap (λ (w : Tally). w.number) (then_counts t u f v)) (then_counts t x refl (λ q. v (omega arith))) z)

    then_assoc : and_then (and_then t u) k ≡ and_then t (and_then u k)
    then_assoc =
        by (fits k.fault)
        (λ e. by (eqb k.count 0) (λ y. assoc_none e (eqb-true k.count 0 y)) (λ y. assoc_counts e (eqb-false k.count 0 y)))
        assoc_stops

-- all steps
module _ (e : Bool) (id ggsn : ℕ) (t : Tally) where
  then_in : (n : ℕ) (u : Tally) (s : List ℕ) → tallied_in n e id ggsn (and_then t u) s ≡ and_then t (tallied_in n e id ggsn u s)
  unfolding tallied_in
  then_in zero u s = refl
  then_in (suc n) u s =
      let same : going e id ggsn (and_then t u) (length s) ≡ going e id ggsn u (length s) = rw (then_fits t u) in
      by (going e id ggsn u (length s))
      (λ g.
      let k = look_of id ggsn s in
      in_step e id ggsn n (and_then t u) s (same ∙ g)
      ∙ ap (λ (x : Tally). tallied_in n e id ggsn x (drop k.at s)) (then_assoc t u k (both (fits u.fault) (ready e (length s)) g).0)
      ∙ then_in n (and_then u k) (drop k.at s)
      ∙ ap (and_then t) (sym (in_step e id ggsn n u s g)))
      (λ g. in_stop e id ggsn (suc n) (and_then t u) s (same ∙ g) ∙ ap (and_then t) (sym (in_stop e id ggsn (suc n) u s g)))

  pub from_start : fits t.fault ≡ true → (s : List ℕ) → and_then t (tallied e id ggsn start s) ≡ tallied e id ggsn t s
  unfolding tallied
  from_start f s = sym (then_in (length s) start s) ∙ ap (λ (x : Tally). tallied_in (length s) e id ggsn x s) (then_start t f)

-- no more records than octets
module _ (e : Bool) (id ggsn : ℕ) where
  few_then : (t : Tally) (s : List ℕ) → t.count ≤ t.at → (and_then t (look_of id ggsn s)).count ≤ (and_then t (look_of id ggsn s)).at
  unfolding and_then
  few_then t s h =
      let k = look_of id ggsn s in
      let o = look_one id ggsn s in
      by (fits k.fault) (λ f. let m = look_moves id ggsn s f in rw f (omega arith)) (λ f. rw f (omega arith))

  few_in : (n : ℕ) (t : Tally) (s : List ℕ) → t.count ≤ t.at → (tallied_in n e id ggsn t s).count ≤ (tallied_in n e id ggsn t s).at
  unfolding tallied_in
  few_in zero t s h = h
  few_in (suc n) t s h =
      by (going e id ggsn t (length s))
      (λ g. rw (in_step e id ggsn n t s g) (few_in n (and_then t (look_of id ggsn s)) (drop (look_of id ggsn s).at s) (few_then t s h)))
      (λ g. rw (in_stop e id ggsn (suc n) t s g) h)

  pub few : (t : Tally) (s : List ℕ) → t.count ≤ t.at → (tallied e id ggsn t s).count ≤ (tallied e id ggsn t s).at
  unfolding tallied
  few t s h = few_in (length s) t s h
