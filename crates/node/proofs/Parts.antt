-- A part of a buffer, from a place to its end: what it is, and the buffer once it is written.
use mathlib.Core.Path.{◌≡◌, sym, ap, ◌∙◌}
use mathlib.Core.List.{List, ◌++◌, append_assoc, append-nil}
use Prim.Native.Nat.{ℕ, ◌+◌, ◌-◌, ◌≤◌}
use native.Mathlib.Omega.{arith}
use lib.ListN.{length, take, drop, length-append, length-take, length-drop, take-append-drop, drop_of_length-le}
use lib.Seq.{take_all, take_at, drop_at}
use borrow.Rule.Slice.PartMut.{mid_of, put_mid}

module _ (out ys : List ℕ) (at w : ℕ) (h : at ≤ length out) where
  pub part_is : mid_of at (length out - at) out ≡ drop at out
  part_is = take_all (length out - at) (drop at out) (omega (arith, length-drop at out))

  pub put_is : put_mid at (length out - at) out ys ≡ take at out ++ ys
  put_is =
      let e = drop_of_length-le (drop at out) {i = length out - at} (omega (arith, length-drop at out)) in
      ap (λ (z : List ℕ). take at out ++ (ys ++ z)) e ∙ rw append-nil

  long : length (take at out) ≡ at
  long = omega (arith, length-take at out)

  module _ (l : w ≤ length ys) where
    pub front_is : take at out ++ take w ys ≡ take (at + w) (put_mid at (length out - at) out ys)
    front_is =
        let e = length-take w ys in
        let z : length (take at out ++ take w ys) ≡ at + w = simp length-append (omega (arith, long)) in
        sym (rw put_is (ap (λ (z : List ℕ). take (at + w) (take at out ++ z)) (sym (take-append-drop w ys))
        ∙ ap (take (at + w)) (sym (append_assoc (take at out) (take w ys) (drop w ys)))
        ∙ take_at (take at out ++ take w ys) (drop w ys) (at + w) z))

    pub rest_is : drop w ys ≡ drop (at + w) (put_mid at (length out - at) out ys)
    rest_is =
        let e = length-take w ys in
        let z : length (take at out ++ take w ys) ≡ at + w = simp length-append (omega (arith, long)) in
        sym (rw put_is (ap (λ (z : List ℕ). drop (at + w) (take at out ++ z)) (sym (take-append-drop w ys))
        ∙ ap (drop (at + w)) (sym (append_assoc (take at out) (take w ys) (drop w ys)))
        ∙ drop_at (take at out ++ take w ys) (drop w ys) (at + w) z))

    pub ends_within : length ys ≡ length out - at → at + w ≤ length (put_mid at (length out - at) out ys)
    ends_within e = rw put_is (simp length-append (omega (arith, long)))
