-- The node takes the next event in a part of the buffer that has just the room for any: what is answered is what `first_of` says.
use mathlib.Core.Path.{◌≡◌, sym, ap, ◌∙◌}
use mathlib.Core.List.{List, [], ◌++◌}
use Prim.Native.Nat.{ℕ, ◌≤◌}
use native.Mathlib.Omega.{arith}
use lib.ListN.{length, drop, length-replicate}
use lib.Seq.{take-append_seam}
use Rattle.event.specs.Fields.{time_of}
use Rattle.event.specs.Rows.{first_fit}
use Rattle.event.specs.Framing.{next_length}
use Rattle.node.specs.declared.Node.{Node}
use Rattle.node.specs.Step.{said_of, node_after, output, refusals, Steps}
use Rattle.node.proofs.Demands.{answered, refused, accepted}
use Rattle.node.proofs.NodeKept.{accepts}
use Rattle.charging.specs.File.{next_event, roomy, first_of}
use Rattle.charging.proofs.Joins.{made}
use Rattle.charging.proofs.Firsts.{taken_refused}

abbrev Answer : Type 0
Answer = ℕ × (Node × (ℕ × List ℕ))

pub room_size : length roomy ≡ 16416
unfolding roomy
room_size = length-replicate {A = ℕ} 16416 0

-- it is refused with the number a
pub record Refuses (n : Node) (s b b' : List ℕ) (a : ℕ) : Type 0 where
  pub first : first_of n s ≡ made a n [] 0 0 0
  pub buffer : b' ≡ b

-- it is accepted, with the node n' after it, and w octets written
pub record Accepts (n : Node) (s b b' : List ℕ) (n' : Node) (w : ℕ) : Type 0 where
  pub out : List ℕ
  pub first : first_of n s ≡ made 0 n' out (next_length s) 1 (next_length s)
  pub size : w ≡ length out
  pub fits : length out ≤ 16416
  pub buffer : b' ≡ out ++ drop (length out) b

module _ (n : Node) (s b : List ℕ) (size : length b ≡ 16416) where
  abbrev e : List ℕ
  e = next_event s

  abbrev x : List ℕ
  x = output n (time_of e) (said_of e)

  -- the room alone decides
  same_rows : refusals n e b ≡ refusals n e roomy
  unfolding refusals
  same_rows = rw (size, room_size)

  same_fit : first_fit (refusals n e b) ≡ first_fit (refusals n e roomy)
  same_fit = ap first_fit same_rows

  -- where it is refused
  first_refused : (k : ℕ) → first_fit (refusals n e b) ≡ k → (k ≡ 0 → ⊥) → first_of n s ≡ made k n [] 0 0 0
  unfolding first_of
  first_refused k f z = taken_refused n (next_length s) k (refused n e roomy k (sym same_fit ∙ f) z) z

  -- where it is accepted
  first_accepted : first_fit (refusals n e b) ≡ 0
      → first_of n s ≡ made 0 (node_after n (time_of e) (said_of e)) x (next_length s) 1 (next_length s)
  unfolding first_of
  first_accepted f = rw (accepted n e roomy (sym same_fit ∙ f), take-append_seam x (drop (length x) roomy))

  module _ {b' : List ℕ} {a w : ℕ} {n' : Node} (p : Steps n e b b' a n' w) where
    fit : first_fit (refusals n e b) ≡ a
    fit = sym (answered n e b) ∙ ap (λ (r : Answer). r.0) (sym p.is)

    pub took_refused : (a ≡ 0 → ⊥) → Refuses n s b b' a
    took_refused z = record {
      first = first_refused a fit z;
      buffer = ap (λ (r : Answer). r.1.1.1) (p.is ∙ refused n e b a fit z);
    }

    pub took_accepted : a ≡ 0 → Accepts n s b b' n' w
    took_accepted z =
        let f = fit ∙ z in
        let q = p.is ∙ accepted n e b f in
        let same : node_after n (time_of e) (said_of e) ≡ n' = ap (λ (r : Answer). r.1.0) (sym q) in
        record {
          out = x;
          first = first_accepted f ∙ rw same;
          size = ap (λ (r : Answer). r.1.1.0) q;
          fits = omega (arith, (accepts n e b f).fits);
          buffer = ap (λ (r : Answer). r.1.1.1) q;
        }
