-- A list of reports keeps a sound node sound, whatever it answers, and that is never 13.
use mathlib.Core.Path.{◌≡◌}
use mathlib.Core.List.{List, [], ◌∷◌, ◌++◌, map}
use Prim.Native.Nat.{ℕ, zero, suc, ◌%◌, ◌<◌}
use native.Mathlib.Omega.{arith}
use lib.Dec.{eqb}
use lib.ListN.{length, drop}
use Rattle.format.proofs.Tests.{by}
use Rattle.ber.specs.Int.{lowest}
use Rattle.event.specs.declared.Name.{Name}
use Rattle.event.specs.Rows.{first_fit}
use Rattle.event.specs.Traffic.{traffic_event}
use Rattle.history.specs.Lists.{All}
use Rattle.history.proofs.Lists.{all_append}
use Rattle.node.specs.declared.Node.{Node}
use Rattle.node.specs.Step.{step_of}
use Rattle.node.specs.Held.{Octets, Whole}
use Rattle.node.specs.Batch.{pairs_of, reports_of, and_then, one_by_one, list_refusals, batch_by, batch_of}
use Rattle.node.proofs.StepKept.{step_kept, not_13}

-- ---- the octets of a report

lowest_octets : (k n : ℕ) → Octets (lowest k n)
unfolding lowest
lowest_octets zero n = tt
lowest_octets (suc k) n = all_append (λ x. x < 256) (lowest k _) _ (lowest_octets k _) (omega arith, tt)

pub report_octets : (m : Name) (t up down : ℕ) → Octets (traffic_event m t up down)
unfolding traffic_event
report_octets m t up down = (omega arith, (omega arith, (omega arith, more t _ (more m.id _ (more m.ggsn _ (more up _ (lowest_octets 4 down)))))))
  where
    more : (x : ℕ) (s : List ℕ) → Octets s → Octets (lowest 4 x ++ s)
    more x s o = all_append (λ y. y < 256) (lowest 4 x) s (lowest_octets 4 x) o

pub reports_octets : (m : Name) (t : ℕ) (vs : List (ℕ × ℕ)) → All Octets (map (λ v. traffic_event m t v.0 v.1) vs)
reports_octets m t [] = tt
reports_octets m t (v ∷ vs) = (report_octets m t v.0 v.1, reports_octets m t vs)

-- ---- events one by one

pub each_kept : (ss : List (List ℕ)) (n : Node) (b : List ℕ) → Whole n → All Octets ss → Whole (one_by_one step_of n ss b).left
unfolding one_by_one and_then
each_kept [] n b w o = w
each_kept (s ∷ ss) n b w o =
    let r = step_of n s b in
    let k = step_kept n s b w o.0 in
    by (eqb r.0 0)
    (λ e. rw e (each_kept ss r.1.0 (drop r.1.1.0 r.1.1.1) k o.1))
    (λ e. rw e k)

each_not_13 : (ss : List (List ℕ)) (n : Node) (b : List ℕ) → Whole n → All Octets ss → (one_by_one step_of n ss b).answer ≡ 13 → ⊥
unfolding one_by_one and_then
each_not_13 [] n b w o e = omega arith
each_not_13 (s ∷ ss) n b w o e =
    let r = step_of n s b in
    by (eqb r.0 0)
    (λ z. each_not_13 ss r.1.0 (drop r.1.1.0 r.1.1.1) (step_kept n s b w o.0) o.1 (rw z at e))
    (λ z. not_13 n s b w.sound (rw z at e))

-- ---- the call

module _ (n : Node) (m : Name) (t : ℕ) (vs b : List ℕ) (w : Whole n) where
  pub batch_kept : Whole (batch_of n m t vs b).left
  unfolding batch_of batch_by
  batch_kept =
      by (eqb (first_fit (list_refusals n vs)) 0)
      (λ e. rw e (each_kept (reports_of m t vs) n b w (reports_octets m t (pairs_of vs))))
      (λ e. rw e w)

  pub batch_not_13 : (batch_of n m t vs b).answer ≡ 13 → ⊥
  unfolding batch_of batch_by list_refusals first_fit
  batch_not_13 e =
      let z = rw w.sound at e in
      by (eqb (length vs % 2) 1)
      (λ o. let x = rw o at z in omega arith)
      (λ o. each_not_13 (reports_of m t vs) n b w (reports_octets m t (pairs_of vs)) (rw o at z))
