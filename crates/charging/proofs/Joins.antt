-- Laws of what was done one after another.
use mathlib.Core.Path.{◌≡◌, refl, sym, ap, ◌∙◌}
use mathlib.Core.List.{List, append_assoc, append-nil}
use Prim.Native.Nat.{ℕ}
use native.Mathlib.Omega.{arith}
use lib.Dec.{eqb}
use borrow.Author.Tests.{eqb-true, eqb-false, ne_eqb}
use Rattle.format.proofs.Tests.{by}
use Rattle.node.specs.declared.Node.{Node}
use Rattle.charging.specs.Done.{Done, nothing, later, joined, and_then}

-- ---- equal in each part

abbrev pub made : ℕ → Node → List ℕ → ℕ → ℕ → ℕ → Done
made answer node out came events last = record { answer = answer; node = node; out = out; came = came; events = events; last = last }

pub same_done : (a b : Done) → a.answer ≡ b.answer → a.node ≡ b.node → a.out ≡ b.out → a.came ≡ b.came → a.events ≡ b.events
    → a.last ≡ b.last → a ≡ b
same_done a b p q r s t u =
    ap (λ (x : ℕ). made x a.node a.out a.came a.events a.last) p
    ∙ ap (λ (x : Node). made b.answer x a.out a.came a.events a.last) q
    ∙ ap (λ (x : List ℕ). made b.answer b.node x a.came a.events a.last) r
    ∙ ap (λ (x : ℕ). made b.answer b.node b.out x a.events a.last) s
    ∙ ap (λ (x : ℕ). made b.answer b.node b.out b.came x a.last) t
    ∙ ap (λ (x : ℕ). made b.answer b.node b.out b.came b.events x) u

-- ---- the later of two lengths

later_of_none : (b : ℕ) → later 0 b ≡ b
later_of_none b = by (eqb b 0) (λ e. rw e (sym (eqb-true b 0 e))) (λ e. rw e)

later_yes : (a b : ℕ) → b ≡ 0 → later a b ≡ a
later_yes a b e = rw e

pub later_no : (a b : ℕ) → (b ≡ 0 → ⊥) → later a b ≡ b
later_no a b z = rw (ne_eqb b 0 z)

later_assoc : (a b c : ℕ) → later (later a b) c ≡ later a (later b c)
later_assoc a b c =
    by (eqb c 0)
    (λ e. let z = eqb-true c 0 e in later_yes (later a b) c z ∙ ap (λ (x : ℕ). later a x) (sym (later_yes b c z)))
    (λ e. let z = eqb-false c 0 e in later_no (later a b) c z ∙ sym (later_no a c z) ∙ ap (λ (x : ℕ). later a x) (sym (later_no b c z)))

-- ---- one after the other

module _ (a b : Done) where
  pub and_ok : a.answer ≡ 0 → and_then a b ≡ joined a b
  unfolding and_then
  and_ok e = rw e

  pub and_no : (a.answer ≡ 0 → ⊥) → and_then a b ≡ a
  unfolding and_then
  and_no z = rw (ne_eqb a.answer 0 z)

pub and_same : (a x y : Done) → (a.answer ≡ 0 → x ≡ y) → and_then a x ≡ and_then a y
and_same a x y f =
    by (eqb a.answer 0)
    (λ e. ap (and_then a) (f (eqb-true a.answer 0 e)))
    (λ e. let z = eqb-false a.answer 0 e in and_no a x z ∙ sym (and_no a y z))

pub nothing_then : (n : Node) (b : Done) → and_then (nothing n) b ≡ b
nothing_then n b =
    and_ok (nothing n) b refl
    ∙ same_done (joined (nothing n) b) b refl refl refl (omega arith) (omega arith) (later_of_none b.last)

pub then_nothing : (a : Done) (n : Node) → a.answer ≡ 0 → a.node ≡ n → and_then a (nothing n) ≡ a
then_nothing a n e q =
    and_ok a (nothing n) e
    ∙ same_done (joined a (nothing n)) a (sym e) (sym q) (append-nil a.out) (omega arith) (omega arith) refl

joined_assoc : (a b c : Done) → joined (joined a b) c ≡ joined a (joined b c)
joined_assoc a b c =
    same_done (joined (joined a b) c) (joined a (joined b c)) refl refl (append_assoc a.out b.out c.out) (omega arith) (omega arith)
    (later_assoc a.last b.last c.last)

pub and_assoc : (a b c : Done) → and_then (and_then a b) c ≡ and_then a (and_then b c)
and_assoc a b c =
    by (eqb a.answer 0)
    (λ e.
    let i = eqb-true a.answer 0 e in
    ap (λ (x : Done). and_then x c) (and_ok a b i)
    ∙ by (eqb b.answer 0)
    (λ f.
    let j = eqb-true b.answer 0 f in
    and_ok (joined a b) c j ∙ joined_assoc a b c ∙ sym (and_ok a (joined b c) i) ∙ ap (and_then a) (sym (and_ok b c j)))
    (λ f.
    let j = eqb-false b.answer 0 f in
    and_no (joined a b) c j ∙ sym (and_ok a b i) ∙ ap (and_then a) (sym (and_no b c j))))
    (λ e.
    let z = eqb-false a.answer 0 e in
    ap (λ (x : Done). and_then x c) (and_no a b z) ∙ and_no a c z ∙ sym (and_no a (and_then b c) z))
