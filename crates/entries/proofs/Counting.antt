-- The loop that counts: what was counted and what is left to count make the whole.
use mathlib.Core.Path.{◌≡◌, ap, ◌∙◌}
use Rattle.std.specs.Prelude.{None, Some}
use mathlib.Core.List.{List}
use Prim.Native.Nat.{ℕ, suc, ◌+◌, ◌-◌, ◌≤◌}
use native.Mathlib.Omega.{arith}
use lib.ListN.{length}
use Rattle.entries.specs.Entry.{entry_at}
use Rattle.entries.specs.Steps.{place_of, places_from, places_of, count_of}
use Rattle.entries.proofs.Stands.{stands}
use Rattle.entries.proofs.Walks.{one_more, no_more}

pub record Counted (s : List ℕ) (n at : ℕ) : Type 0 where
  pub within : at ≤ length s
  pub few : n ≤ at
  pub is : count_of s ≡ n + length (places_from (length s - n) s at)

pub counted_start : (s : List ℕ) → Counted s 0 0
unfolding count_of places_of
counted_start s = let z : length s - 0 ≡ length s = omega arith in record { within = omega arith; few = omega arith; is = rw z (omega arith) }

pub counted_more : {s : List ℕ} {n at : ℕ} {p : ℕ × ℕ} → Counted s n at → place_of (entry_at s at) ≡ Some p → Counted s (n + 1) p.1
counted_more {s} {n} {at} {p} i e =
    let w = stands s at p e in
    let l = w.long in
    let k = w.inside in
    let f = i.few in
    let z : length s - n ≡ suc (length s - (n + 1)) = omega arith in
    let m = ap length (ap (λ (m : ℕ). places_from m s at) z ∙ one_more s at p e (length s - (n + 1))) in
    let q = i.is in
    record { within = k; few = omega arith; is = omega arith }

pub counted_end : {s : List ℕ} {n at : ℕ} → Counted s n at → place_of (entry_at s at) ≡ None → n ≡ count_of s
counted_end {s} {n} {at} i e = let q = i.is in let m = ap length (no_more s at e (length s - n)) in omega arith
