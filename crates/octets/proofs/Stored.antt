-- Names as they are stored, by what the code finds.
use mathlib.Core.Path.{◌≡◌, refl}
use mathlib.Core.Bool.{Bool, true, false, ◌&&◌}
use mathlib.Core.List.{List}
use Prim.Native.Nat.{ℕ, ◌-◌, ◌≤◌, ◌<◌}
use native.Mathlib.Omega.{arith}
use lib.Dec.{leb}
use lib.ListN.{length, take, drop, length-drop}
use lib.Seq.{take_all}
use borrow.Author.Tests.{le-leb, lt-leb}
use Rattle.octets.specs.declared.chars.Class.{Class}
use Rattle.octets.specs.declared.chars.Class.TheVariants.{Apn, Node}
use Rattle.octets.specs.Chars.{all_of, apn_char, is_zero, char_of}
use Rattle.octets.specs.Names.{apn_ok, node_ok, stored}

-- all of the rest of an array of m, from n on
pub rest_all : (a : List ℕ) (m n : ℕ) → length a ≡ m → take (m - n) (drop n a) ≡ drop n a
rest_all a m n l = take_all (m - n) (drop n a) (omega (arith, length-drop n a))

module _ (class : Class) (a : List ℕ) (n : ℕ) where
  pub stored_many : length a < n → false ≡ stored class a n
  unfolding stored
  stored_many h = rw (lt-leb n (length a) h)

  pub stored_rest : n ≤ length a → {u v : Bool} → u ≡ all_of (char_of class) (take n a) → v ≡ all_of is_zero (drop n a) → (u && v) ≡ stored class a n
  unfolding stored
  stored_rest h p q = rw (le-leb n (length a) h, p, q)

joined : (a b c d : Bool) → (a && (b && c && d)) ≡ (a && b && c && d)
joined true b c d = refl
joined false b c d = refl

module _ (a : List ℕ) (n : ℕ) {u : Bool} where
  pub apn_is : length a ≡ 63 → u ≡ stored Apn a n → (leb 1 n && u) ≡ apn_ok a n
  unfolding stored apn_ok
  apn_is l e = rw (e, l) (joined (leb 1 n) (leb n 63) (all_of apn_char (take n a)) (all_of is_zero (drop n a)))

  pub node_is : length a ≡ 20 → u ≡ stored Node a n → u ≡ node_ok a n
  unfolding stored node_ok
  node_is l e = rw (e, l)
