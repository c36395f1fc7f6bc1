-- A count step by step: where it stops, where it goes on, and the loop that counts.
use Rattle.std.proofs.Common.{◌≡◌, ℕ, zero, suc, ◌+◌, ◌-◌, ◌<◌, ◌≤◌, Bool, true, false, ◌&&◌, leb, List, length, take, drop, sym, refl, ap, ◌∙◌, arith, length-drop, take_all, drop-drop, eq-eqb, ne_eqb, leb-true}
use borrow.Author.Tests.{lt-leb}
use Rattle.format.proofs.Tests.{by, both}
use Rattle.tally.specs.declared.Fault.{Fault}
use Rattle.tally.specs.declared.Fault.TheVariants as F
use Rattle.tally.specs.declared.Tally.{Tally}
use Rattle.tally.specs.Look.{stops, look_of}
use Rattle.tally.specs.Tally.{fits, start, and_then, ready, tallied_in, tallied}
use Rattle.tally.proofs.Seeks.{not_both}
use Rattle.tally.proofs.Looks.{look_one, look_within, look_moves}

-- all fits: there is no fault
pub no_fault : (f : Fault) → fits f ≡ true → f ≡ F.None
no_fault F.None e = refl
no_fault F.Mark e = absurd (not_both e)
no_fault F.Cut e = absurd (not_both e)
no_fault F.Value e = absurd (not_both e)
no_fault F.Field e = absurd (not_both e)

-- what was counted, where all fits
abbrev pub so_far : ℕ → ℕ → ℕ → Tally
so_far at count number = record { fault = F.None; at = at; count = count; number = number }

-- ---- one and then another

module _ (t k : Tally) where
  pub then_stops : fits k.fault ≡ false → and_then t k ≡ stops k.fault (t.at + k.at)
  unfolding and_then
  then_stops e = rw e

  module _ (e : fits k.fault ≡ true) where
    pub then_counts : (k.count ≡ 0 → ⊥) → and_then t k ≡ so_far (t.at + k.at) (t.count + k.count) k.number
    unfolding and_then
    then_counts n =
        rw (e, ne_eqb k.count 0 n)
        (ap (λ (f : Fault). record { fault = f; at = t.at + k.at; count = t.count + k.count; number = k.number }) (no_fault k.fault e))

    pub then_none : k.count ≡ 0 → and_then t k ≡ so_far (t.at + k.at) (t.count + k.count) t.number
    unfolding and_then
    then_none n =
        rw (e, eq-eqb k.count 0 n)
        (ap (λ (f : Fault). record { fault = f; at = t.at + k.at; count = t.count + k.count; number = t.number }) (no_fault k.fault e))

  -- what does not fit stays so
  pub then_fits : fits (and_then t k).fault ≡ fits k.fault
  unfolding and_then
  then_fits = by (fits k.fault) (λ e. rw (e, e)) (λ e. rw (e, e))

  -- how far it goes
  pub then_at : (and_then t k).at ≡ t.at + k.at
  unfolding and_then
  then_at = by (fits k.fault) (λ e. rw e) (λ e. rw e)

-- ---- steps

module _ (ended : Bool) (id ggsn : ℕ) where
  -- is a step taken from t, with so many octets left?
  abbrev pub going : Tally → ℕ → Bool
  going t n = fits t.fault && ready ended n

  pub in_stop : (n : ℕ) (t : Tally) (s : List ℕ) → going t (length s) ≡ false → tallied_in n ended id ggsn t s ≡ t
  unfolding tallied_in
  in_stop zero t s h = refl
  in_stop (suc n) t s h = rw h

  pub in_step : (n : ℕ) (t : Tally) (s : List ℕ) → going t (length s) ≡ true
      → tallied_in (suc n) ended id ggsn t s ≡ tallied_in n ended id ggsn (and_then t (look_of id ggsn s)) (drop (look_of id ggsn s).at s)
  unfolding tallied_in
  in_step n t s h = rw h

  -- octets are left then
  pub some_left : (t : Tally) (n : ℕ) → going t n ≡ true → 1 ≤ n
  some_left t n h = leb-true 1 n (both (leb 1 n) _ (both (fits t.fault) (ready ended n) h).1).0

  pub stuck : (t : Tally) (n : ℕ) → fits t.fault ≡ false → going t n ≡ false
  stuck t n h = rw h

  pub none_left : (t : Tally) (n : ℕ) → n < 1 → going t n ≡ false
  none_left t n h = rw (lt-leb 1 n h) (go (fits t.fault))
    where
      go : (b : Bool) → (b && false) ≡ false
      go true = refl
      go false = refl

  -- behind a step less is left, or it was the last
  behind : (n m : ℕ) (t : Tally) (s : List ℕ) → 1 ≤ length s → length s ≤ suc n → length s ≤ suc m
      → (length (drop (look_of id ggsn s).at s) ≤ n → length (drop (look_of id ggsn s).at s) ≤ m
      → tallied_in n ended id ggsn (and_then t (look_of id ggsn s)) (drop (look_of id ggsn s).at s)
      ≡ tallied_in m ended id ggsn (and_then t (look_of id ggsn s)) (drop (look_of id ggsn s).at s))
      → tallied_in n ended id ggsn (and_then t (look_of id ggsn s)) (drop (look_of id ggsn s).at s)
      ≡ tallied_in m ended id ggsn (and_then t (look_of id ggsn s)) (drop (look_of id ggsn s).at s)
  behind n m t s l a b f =
      let k = look_of id ggsn s in
      let r = drop k.at s in
      by (fits k.fault)
      (λ e. let i = look_moves id ggsn s e in f (omega (arith, length-drop k.at s)) (omega (arith, length-drop k.at s)))
      (λ e. let h = stuck (and_then t k) (length r) (then_fits t k ∙ e) in in_stop n (and_then t k) r h ∙ sym (in_stop m (and_then t k) r h))

  -- more steps than there are octets change nothing
  in_enough : (n m : ℕ) (t : Tally) (s : List ℕ) → length s ≤ n → length s ≤ m → tallied_in n ended id ggsn t s ≡ tallied_in m ended id ggsn t s
  in_enough zero m t s a b = let h = none_left t (length s) (omega arith) in in_stop zero t s h ∙ sym (in_stop m t s h)
  in_enough (suc n) zero t s a b = let h = none_left t (length s) (omega arith) in in_stop (suc n) t s h ∙ sym (in_stop zero t s h)
  in_enough (suc n) (suc m) t s a b =
      by (going t (length s))
      (λ h.
      in_step n t s h
      ∙ behind n m t s (some_left t (length s) h) a b (λ i j. in_enough n m (and_then t (look_of id ggsn s)) (drop (look_of id ggsn s).at s) i j)
      ∙ sym (in_step m t s h))
      (λ h. in_stop (suc n) t s h ∙ sym (in_stop (suc m) t s h))

  -- the same of all steps
  pub stop : (t : Tally) (s : List ℕ) → going t (length s) ≡ false → tallied ended id ggsn t s ≡ t
  unfolding tallied
  stop t s h = in_stop (length s) t s h

  pub step : (t : Tally) (s : List ℕ) → going t (length s) ≡ true
      → tallied ended id ggsn t s ≡ tallied ended id ggsn (and_then t (look_of id ggsn s)) (drop (look_of id ggsn s).at s)
  unfolding tallied
  step t s h =
      let i = some_left t (length s) h in
      let n = length s - 1 in
      let l = drop (look_of id ggsn s).at s in
      let z : length s ≡ suc n = omega arith in
      ap (λ (n : ℕ). tallied_in n ended id ggsn t s) z
      ∙ in_step n t s h
      ∙ behind n (length s) t s i (omega arith) (omega arith) (λ a b. in_enough n (length s) (and_then t (look_of id ggsn s)) l a b)
      ∙ in_enough (length s) (length l) (and_then t (look_of id ggsn s)) l (omega (arith, length-drop (look_of id ggsn s).at s)) (omega arith)

-- ---- the loop that counts: what was counted and what is left give the whole

pub record Tallying (ended : Bool) (id ggsn : ℕ) (s : List ℕ) (at count number : ℕ) : Type 0 where
  pub is : tallied ended id ggsn start s ≡ tallied ended id ggsn (so_far at count number) (drop at s)
  pub within : at ≤ length s
  pub few : count ≤ at

module _ {ended : Bool} {id ggsn : ℕ} {s : List ℕ} where
  pub tally_start : Tallying ended id ggsn s 0 0 0
  tally_start = record { is = refl; within = omega arith; few = omega arith }

  module _ {at count number : ℕ} (i : Tallying ended id ggsn s at count number) where
    pub tally_end : ready ended (length s - at) ≡ false → so_far at count number ≡ tallied ended id ggsn start s
    tally_end h = sym (i.is ∙ stop ended id ggsn (so_far at count number) (drop at s) (rw (length-drop at s) h))

    -- a step over the rest of s
    module _ (h : ready ended (length s - at) ≡ true) {k : Tally} (l : k ≡ look_of id ggsn (take (length s - at) (drop at s))) where
      e : k ≡ look_of id ggsn (drop at s)
      e = l ∙ ap (look_of id ggsn) (take_all (length s - at) (drop at s) (omega (arith, length-drop at s)))

      one_more : tallied ended id ggsn start s ≡ tallied ended id ggsn (and_then (so_far at count number) k) (drop (at + k.at) s)
      one_more =
          i.is
          ∙ step ended id ggsn (so_far at count number) (drop at s) (rw (length-drop at s) h)
          ∙ rw (← e) (ap (tallied ended id ggsn (and_then (so_far at count number) k)) (drop-drop k.at at s))

      pub tally_within : at + k.at ≤ length s
      tally_within = omega (arith, ap (λ (y : Tally). y.at) e, look_within id ggsn (drop at s), length-drop at s, i.within)

      pub tally_refused : fits k.fault ≡ false → stops k.fault (at + k.at) ≡ tallied ended id ggsn start s
      tally_refused f =
          let t = and_then (so_far at count number) k in
          let d = stop ended id ggsn t (drop (at + k.at) s) (rw (then_fits (so_far at count number) k, f)) in
          sym (one_more ∙ d ∙ then_stops (so_far at count number) k f)

      module _ (f : fits k.fault ≡ true) where
        pub tally_moves : 4 ≤ k.at
        tally_moves = rw e (look_moves id ggsn (drop at s) (rw e at f))

        -- one record more at most
        pub tally_one : k.count ≤ 1
        tally_one = rw e (look_one id ggsn (drop at s))

        pub tally_named : (k.count ≡ 0 → ⊥) → Tallying ended id ggsn s (at + k.at) (count + k.count) k.number
        tally_named n = record {
          is = one_more ∙ ap (λ (t : Tally). tallied ended id ggsn t (drop (at + k.at) s)) (then_counts (so_far at count number) k f n);
          within = tally_within;
          few = omega (arith, tally_moves, tally_one, i.few);
        }

        pub tally_other : k.count ≡ 0 → Tallying ended id ggsn s (at + k.at) (count + k.count) number
        tally_other n = record {
          is = one_more ∙ ap (λ (t : Tally). tallied ended id ggsn t (drop (at + k.at) s)) (then_none (so_far at count number) k f n);
          within = tally_within;
          few = omega (arith, tally_moves, tally_one, i.few);
        }
