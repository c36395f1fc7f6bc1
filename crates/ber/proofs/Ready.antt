-- Contents that are made ready in an array and put under a tag, where a test passes.
use mathlib.Core.Path.{◌≡◌, refl, sym, ap, ◌∙◌}
use mathlib.Core.Bool.{Bool, true, false}
use mathlib.Core.List.{List}
use Prim.Native.Nat.{ℕ, ◌≤◌, ◌<◌}
use native.Mathlib.Omega.{arith}
use lib.ListN.{length, take}
use Rattle.format.specs.Maybe.{guard}
use Rattle.ber.specs.Tlv.{tlv_enc, tlv_form}
use Rattle.ber.specs.Write.{Puts}
use Rattle.ber.specs.Private.Wrote.{Wrote}
use Rattle.ber.specs.Private.Filled.{Filled}
use Rattle.ber.proofs.Tlvs.{tlv_yes}
use Rattle.std.specs.Prelude.{Option, None, Some, IsSome, IsSomeAnd}
use Rattle.ber.proofs.Writers.{puts_is, puts_none, filled}

-- the front of an array holds what was written
pub filled_of : {x b b' : List ℕ} {m : ℕ} {r : Option ℕ} → length b ≡ m → Wrote x b b' 0 r → length x ≤ m → IsSomeAnd r (λ n. Filled x m b' n)
filled_of {x} {b} {b'} {m} {r} e w h = go r w
  where
    go : (r : Option ℕ) → Wrote x b b' 0 r → IsSomeAnd r (λ n. Filled x m b' n)
    go None w = w.room (omega arith)
    go (Some r) w = let q = filled w (omega arith) in record { front = q.0; size = q.1; most = h; inside = q.2 }

-- contents that are always made ready are
pub made_ready : (x b : List ℕ) (m : ℕ) (o : Option ℕ) → IsSomeAnd o (λ n. Filled x m b n) → IsSome o
made_ready x b m None f = absurd f
made_ready x b m (Some n) f = refl

pub ready_as : (x b : List ℕ) (m : ℕ) (o : Option ℕ) {n : ℕ} → IsSomeAnd o (λ n. Filled x m b n) → o ≡ Some n → Filled x m b n
ready_as x b m o f e = rw e at f

-- the count of the octets that are lent is theirs
pub filled_count : {x b : List ℕ} {m r : ℕ} → Filled x m b r → r ≡ length (take r b)
filled_count f = f.size ∙ ap length (sym f.front)

-- what does not pass its test is not written
pub puts_not : (t : Bool) (x : List ℕ) {b : List ℕ} {at : ℕ} → t ≡ false → Puts (guard t x) b b at None
puts_not t x h = puts_is (rw h) puts_none

-- the test passed, and the contents x were made ready as y
pub ready : (t : Bool) (tag : ℕ) {x y : List ℕ} → t ≡ true → y ≡ x → length x < 65536 → tlv_form tag y ≡ guard t (tlv_enc tag x)
ready t tag {x} {y} h e l = ap (tlv_form tag) e ∙ tlv_yes tag x l ∙ rw h
