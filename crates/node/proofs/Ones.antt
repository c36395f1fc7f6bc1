-- Events done one by one: what the first of them did and what the others do after it; and that what is done elsewhere in the same way does
-- the same.
use mathlib.Core.Path.{◌≡◌, refl, ap, ◌∙◌}
use mathlib.Core.List.{List, [], ◌∷◌, ◌++◌, map, append_assoc}
use Prim.Native.Nat.{ℕ, ◌+◌}
use native.Mathlib.Omega.{arith}
use lib.Dec.{eqb}
use lib.ListN.{take, drop}
use borrow.Author.Tests.{ne_eqb}
use Rattle.format.proofs.Tests.{by}
use Rattle.history.specs.Lists.{All}
use Rattle.node.specs.Batch.{Done, and_then, one_by_one}

-- ---- some were applied already

module _ {A : Type 0} where
  -- k of them, which wrote these octets, so many; and then d
  abbrev pub joined : ℕ → ℕ → List ℕ → Done A → Done A
  joined k at front d =
      record { answer = d.answer; applied = d.applied + k; left = d.left; written = at + d.written; buffer = front ++ d.buffer }

  module _ (k at : ℕ) (front : List ℕ) where
    module _ {E : Type 0} (step : A → E → List ℕ → ℕ × (A × (ℕ × List ℕ))) {a a' : A} {e : E} (es : List E) {b b' : List ℕ} where
      -- one more is applied
      pub joined_more : {w : ℕ} → step a e b ≡ (0, (a', (w, b')))
          → joined k at front (one_by_one step a (e ∷ es) b) ≡ joined (k + 1) (at + w) (front ++ take w b') (one_by_one step a' es (drop w b'))
      unfolding one_by_one and_then
      joined_more {w} q =
          let d = one_by_one step a' es (drop w b') in
          let p : d.applied + 1 + k ≡ d.applied + (k + 1) = omega arith in
          let o : at + (w + d.written) ≡ at + w + d.written = omega arith in
          let r : front ++ (take w b' ++ d.buffer) ≡ (front ++ take w b') ++ d.buffer = rw append_assoc in
          rw q (λ i. record { answer = d.answer; applied = p i; left = d.left; written = o i; buffer = r i })

      -- the next is refused
      pub joined_stop : {j : ℕ} → (j ≡ 0 → ⊥) → step a e b ≡ (j, (a', (0, b')))
          → joined k at front (one_by_one step a (e ∷ es) b) ≡ record { answer = j; applied = k; left = a'; written = at; buffer = front ++ b' }
      unfolding one_by_one and_then
      joined_stop {j} z q =
          let p : 0 + k ≡ k = omega arith in
          let o : at + 0 ≡ at = omega arith in
          rw (q, ne_eqb j 0 z) (λ i. record { answer = j; applied = p i; left = a'; written = o i; buffer = front ++ b' })

    -- there is none
    pub joined_end : {E : Type 0} (step : A → E → List ℕ → ℕ × (A × (ℕ × List ℕ))) (a : A) (b : List ℕ) → joined k at front (one_by_one step a [] b)
        ≡ record { answer = 0; applied = k; left = a; written = at; buffer = front ++ b }
    unfolding one_by_one
    joined_end step a b =
        let p : 0 + k ≡ k = omega arith in
        let q : at + 0 ≡ at = omega arith in
        λ i. record { answer = 0; applied = p i; left = a; written = q i; buffer = front ++ b }

  -- none was applied yet
  pub joined_none : (d : Done A) → d ≡ joined 0 0 [] d
  joined_none d =
      let p : d.applied ≡ d.applied + 0 = omega arith in
      let q : d.written ≡ 0 + d.written = omega arith in
      λ i. record { answer = d.answer; applied = p i; left = d.left; written = q i; buffer = d.buffer }

-- ---- the same elsewhere

module _ {A B : Type 0} (put : B → A) where
  abbrev pub through : ℕ × (B × (ℕ × List ℕ)) → ℕ × (A × (ℕ × List ℕ))
  through r = (r.0, (put r.1.0, (r.1.1.0, r.1.1.1)))

  abbrev pub through_all : Done B → Done A
  through_all d = record { answer = d.answer; applied = d.applied; left = put d.left; written = d.written; buffer = d.buffer }

  then_through : (r : ℕ × (B × (ℕ × List ℕ))) (d : Done B) → and_then (through r) (through_all d) ≡ through_all (and_then r d)
  unfolding and_then
  then_through r d = by (eqb r.0 0) (λ e. rw e) (λ e. rw e)

  -- What is put into A does there, event by event, what it does in B, as long as it is good: then all events do so.
  module _ {E F : Type 0} (f : A → E → List ℕ → ℕ × (A × (ℕ × List ℕ))) (g : B → F → List ℕ → ℕ × (B × (ℕ × List ℕ))) (event : F → E)
      (Good : B → Type 0) (Fine : F → Type 0)
      (same : (s : B) (v : F) (b : List ℕ) → Good s → Fine v → f (put s) (event v) b ≡ through (g s v b))
      (kept : (s : B) (v : F) (b : List ℕ) → Good s → Fine v → Good (g s v b).1.0) where
    pub alike : (vs : List F) (s : B) (b : List ℕ) → Good s → All Fine vs → one_by_one f (put s) (map event vs) b ≡ through_all (one_by_one g s vs b)
    unfolding one_by_one
    alike [] s b w a = refl
    alike (v ∷ vs) s b w a =
        let r = g s v b in
        let d = alike vs r.1.0 (drop r.1.1.0 r.1.1.1) (kept s v b w a.0) a.1 in
        rw (same s v b w a.0) (ap (λ (z : Done A). and_then (through r) z) d ∙ then_through r _)
