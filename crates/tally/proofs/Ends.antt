-- A count of any octets ends: at their end; or with 21, and nothing counted. Nothing more is claimed where they are no list that reads in full.
use Rattle.std.proofs.Common.{◌≡◌, ℕ, zero, suc, ◌+◌, ◌<◌, ◌≤◌, true, false, List, length, drop, sym, refl, ap, ◌∙◌, arith, length-drop, le-leb}
use Rattle.format.proofs.Tests.{by, both, either}
use Rattle.tally.specs.declared.Fault.{Fault}
use Rattle.tally.specs.declared.Fault.TheVariants as F
use Rattle.tally.specs.declared.Tally.{Tally}
use Rattle.tally.specs.Look.{look_of}
use Rattle.tally.specs.Tally.{answer_of, fits, start, and_then, tallied_in, tallied, count_of}
use Rattle.tally.proofs.Seeks.{not_both}
use Rattle.tally.proofs.Looks.{look_within, look_moves}
use Rattle.tally.proofs.Tallies.{then_stops, then_at, then_fits, going, in_stop, in_step, stuck}

pub record Ends (n : ℕ) (t : Tally) : Type 0 where
  pub counted : answer_of t.fault ≡ 0 → t.at ≡ n
  pub refused : (answer_of t.fault ≡ 0 → ⊥) → (answer_of t.fault ≡ 21) × (t.count ≡ 0) × (t.number ≡ 0)

-- 0 says that all fits
well : (f : Fault) → answer_of f ≡ 0 → fits f ≡ true
well F.None e = refl
well F.Mark e = absurd (omega arith)
well F.Cut e = absurd (omega arith)
well F.Value e = absurd (omega arith)
well F.Field e = absurd (omega arith)

ill : (f : Fault) → (answer_of f ≡ 0 → ⊥) → (fits f ≡ false) × (answer_of f ≡ 21)
ill F.None n = absurd (n refl)
ill F.Mark n = (refl, refl)
ill F.Cut n = (refl, refl)
ill F.Value n = (refl, refl)
ill F.Field n = (refl, refl)

-- what was counted and what is left make n octets; or nothing is counted
record Adds (n : ℕ) (t : Tally) (s : List ℕ) : Type 0 where
  sum : fits t.fault ≡ true → t.at + length s ≡ n
  none : fits t.fault ≡ false → (t.count ≡ 0) × (t.number ≡ 0)

module _ (id ggsn n : ℕ) where
  ends_here : (t : Tally) (s : List ℕ) → Adds n t s → (fits t.fault ≡ true → length s < 1) → Ends n t
  ends_here t s a h = record {
    counted = λ e. let f = well t.fault e in omega (arith, a.sum f, h f);
    refused = λ e. let (f, d) = ill t.fault e in (d, (a.none f).0, (a.none f).1);
  }

  -- a step is taken wherever octets are left
  stops_only : (t : Tally) (s : List ℕ) → going true id ggsn t (length s) ≡ false → fits t.fault ≡ true → length s < 1
  stops_only t s g f =
      either 1 (length s)
      (λ l. absurd (not_both (sym g ∙ rw (f, le-leb 1 (length s) l))))
      (λ l. l)

  adds_more : (t : Tally) (s : List ℕ) → Adds n t s → going true id ggsn t (length s) ≡ true
      → Adds n (and_then t (look_of id ggsn s)) (drop (look_of id ggsn s).at s)
  adds_more t s a g =
      let k = look_of id ggsn s in
      let w = look_within id ggsn s in
      record {
        sum = λ f. omega (arith, then_at t k, length-drop k.at s, a.sum (both (fits t.fault) _ g).0);
        none = λ f. let z = then_stops t k (sym (then_fits t k) ∙ f) in (ap (λ (x : Tally). x.count) z, ap (λ (x : Tally). x.number) z);
      }

  ends_in : (m : ℕ) (t : Tally) (s : List ℕ) → length s ≤ m → Adds n t s → Ends n (tallied_in m true id ggsn t s)
  unfolding tallied_in
  ends_in zero t s h a = ends_here t s a (λ f. omega arith)
  ends_in (suc m) t s h a =
      by (going true id ggsn t (length s))
      (λ g. rw (in_step true id ggsn m t s g) (go g (adds_more t s a g) (λ l b. ends_in m (and_then t (look_of id ggsn s)) (drop (look_of id ggsn s).at s) l b)))
      (λ g. rw (in_stop true id ggsn (suc m) t s g) (ends_here t s a (stops_only t s g)))
    where
      r : List ℕ
      r = drop (look_of id ggsn s).at s

      w : Tally
      w = and_then t (look_of id ggsn s)

      go : going true id ggsn t (length s) ≡ true → Adds n w r → (length r ≤ m → Adds n w r → Ends n (tallied_in m true id ggsn w r))
          → Ends n (tallied_in m true id ggsn w r)
      go g b f =
          let k = look_of id ggsn s in
          by (fits k.fault)
          (λ e. let i = look_moves id ggsn s e in f (omega (arith, length-drop k.at s)) b)
          (λ e.
          let d = then_fits t k ∙ e in
          rw (in_stop true id ggsn m w r (stuck true id ggsn w (length r) d)) (ends_here w r b (λ y. absurd (not_both (sym d ∙ y)))))

-- of any octets
pub ends : (id ggsn : ℕ) (s : List ℕ) → Ends (length s) (count_of id ggsn s)
unfolding count_of tallied
ends id ggsn s = ends_in id ggsn (length s) (length s) start s (omega arith) (record { sum = λ f. omega arith; none = λ f. (refl, refl) })
