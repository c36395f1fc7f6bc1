-- A window's events: none where it is not ready, or one more.
use mathlib.Core.Path.{◌≡◌, refl}
use mathlib.Core.Bool.{Bool, true, false, ◌&&◌, ◌||◌}
use mathlib.Core.List.{List}
use Prim.Native.Nat.{ℕ, zero, suc, ◌-◌, ◌≤◌}
use lib.Dec.{leb}
use lib.ListN.{length, drop}
use borrow.Author.Tests.{leb-true}
use Rattle.format.proofs.Tests.{both}
use Rattle.node.specs.declared.Node.{Node}
use Rattle.charging.specs.Done.{nothing, and_then}
use Rattle.charging.specs.File.{first_of}
use Rattle.charging.specs.Window.{ready, here_in}

pub here_not : (k : ℕ) (ended : Bool) (n : Node) (s : List ℕ) (room : ℕ) → ready ended (length s) room ≡ false → here_in k ended n s room ≡ nothing n
unfolding here_in
here_not zero ended n s room h = refl
here_not (suc k) ended n s room h = rw h

pub here_one : (k : ℕ) (ended : Bool) (n : Node) (s : List ℕ) (room : ℕ) → ready ended (length s) room ≡ true
    → here_in (suc k) ended n s room
    ≡ and_then (first_of n s) (here_in k ended (first_of n s).node (drop (first_of n s).came s) (room - length (first_of n s).out))
unfolding here_in
here_one k ended n s room h = rw h

-- what a window says that is ready
pub record Ready (ended : Bool) (here room : ℕ) : Type 0 where
  pub some : 1 ≤ here
  pub long : ended ≡ false → 292 ≤ here
  pub wide : 16416 ≤ room

or_false : (a b : Bool) → (a || b) ≡ true → a ≡ false → b ≡ true
or_false a b e z = rw z at e

pub is_ready : (ended : Bool) (here room : ℕ) → ready ended here room ≡ true → Ready ended here room
is_ready ended here room e =
    let p = both (leb 1 here && (ended || leb 292 here)) (leb 16416 room) e in
    let q = both (leb 1 here) (ended || leb 292 here) p.0 in
    record {
      some = leb-true 1 here q.0;
      long = λ z. leb-true 292 here (or_false ended (leb 292 here) q.1 z);
      wide = leb-true 16416 room p.1;
    }
