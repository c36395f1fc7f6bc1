-- The next event of a file: it lies within what is left of the file, and is not nothing.
use mathlib.Core.Path.{◌≡◌, refl, sym, ap, ◌∙◌}
use mathlib.Core.Bool.{Bool, true, false, cond, ◌&&◌}
use mathlib.Core.List.{List}
use Prim.Native.Nat.{ℕ, ◌≤◌, ◌<◌, ◌+◌}
use native.Mathlib.Omega.{arith}
use lib.Dec.{leb}
use lib.ListN.{length}
use borrow.Author.Tests.{leb-true, leb-false}
use Rattle.std.specs.Prelude.{None, Some, min}
use Rattle.std.proofs.Math.Nat.{min-eq_left}
use Rattle.format.proofs.Tests.{by}
use Rattle.event.specs.Fields.{kind_of, count_of}
use Rattle.event.specs.Kinds.{Kind, kinds, row_of, is_row, the_row, whole_of}
use Rattle.event.specs.Kinds.{activate_kind, traffic_kind, qos_kind, tariff_kind, release_kind, tick_kind, management_kind, no_kind}
use Rattle.event.specs.Kinds.{attach_kind, location_kind, subscriber_kind, detach_kind, replace_kind}
use Rattle.event.specs.Rows.{known}
use Rattle.event.specs.Framing.{next_length}
use Rattle.event.proofs.Table.{Every, row_else}

-- ---- by the row

least : (m n : ℕ) → min m n ≡ cond (leb m n) m n
least m n =
    by (leb m n) (λ h. let l = leb-true m n h in rw (h, min-eq_left l)) (λ h. let l = leb-false m n h in rw h (omega arith))

pub next_of : (s : List ℕ) {k : Kind} → row_of s ≡ Some k → min (k.whole s) (length s) ≡ next_length s
unfolding next_length known whole_of
next_of s {k} e =
    least (k.whole s) (length s)
    ∙ sym (ap (λ o. cond (is_row o && leb ((the_row o).whole s) (length s)) ((the_row o).whole s) (length s)) e)

pub next_all : (s : List ℕ) → row_of s ≡ None → length s ≡ next_length s
unfolding next_length known
next_all s e = rw e

-- ---- what the length is good for

within : (k u : Bool) (w n : ℕ) → leb w n ≡ u → cond (k && u) w n ≤ n
within true true w n e = leb-true w n e
within true false w n e = omega arith
within false u w n e = omega arith

some : (t : Bool) (w n : ℕ) → 1 ≤ w → 1 ≤ n → 1 ≤ cond t w n
some true w n a b = a
some false w n a b = b

-- Of a kind's whole length: it is something, none is more than an activate's with 255 octets of name, and it goes by the octet of n alone.
record Sized (k : Kind) : Type 0 where
  some : (s : List ℕ) → 1 ≤ k.whole s
  most : (s : List ℕ) → count_of s < 256 → k.whole s ≤ 292
  same : (s t : List ℕ) → count_of t ≡ count_of s → k.whole t ≡ k.whole s

-- one length for every event of the kind
fixed : (k : Kind) (n : ℕ) → ((s : List ℕ) → k.whole s ≡ n) → 1 ≤ n → n ≤ 292 → Sized k
fixed k n e a b =
    record { some = λ s. omega (arith, e s); most = λ s h. omega (arith, e s); same = λ s t h. e t ∙ sym (e s) }

named : Sized activate_kind
named = record { some = λ s. omega arith; most = λ s h. omega arith; same = λ s t h. ap (λ (i : ℕ). 37 + i) h }

sized : (s : List ℕ) → Sized (the_row (row_of s))
unfolding Every kinds
sized s =
    let b = fixed traffic_kind 23 (λ s. refl) (omega arith) (omega arith) in
    let c = fixed qos_kind 20 (λ s. refl) (omega arith) (omega arith) in
    let d = fixed tariff_kind 7 (λ s. refl) (omega arith) (omega arith) in
    let e = fixed release_kind 16 (λ s. refl) (omega arith) (omega arith) in
    let f = fixed tick_kind 7 (λ s. refl) (omega arith) (omega arith) in
    let g = fixed management_kind 15 (λ s. refl) (omega arith) (omega arith) in
    let h = fixed attach_kind 18 (λ s. refl) (omega arith) (omega arith) in
    let i = fixed location_kind 18 (λ s. refl) (omega arith) (omega arith) in
    let j = fixed subscriber_kind 15 (λ s. refl) (omega arith) (omega arith) in
    let k = fixed detach_kind 16 (λ s. refl) (omega arith) (omega arith) in
    let l = fixed replace_kind 23 (λ s. refl) (omega arith) (omega arith) in
    let z = fixed no_kind 7 (λ s. refl) (omega arith) (omega arith) in
    row_else Sized s (named, (b, (c, (d, (e, (f, (g, (h, (i, (j, (k, (l, tt)))))))))))) z

-- never more than what is left
pub next_within : (s : List ℕ) → next_length s ≤ length s
unfolding next_length
next_within s = within (known s) (leb (whole_of s) (length s)) (whole_of s) (length s) refl

-- and something, where something is left: a program that goes on behind each event comes to the end
pub next_some : (s : List ℕ) → 1 ≤ length s → 1 ≤ next_length s
unfolding next_length whole_of
next_some s h = some (known s && leb (whole_of s) (length s)) (whole_of s) (length s) ((sized s).some s) h

-- ---- what the whole length goes by

pub whole_same : (s t : List ℕ) → kind_of t ≡ kind_of s → count_of t ≡ count_of s → whole_of t ≡ whole_of s
unfolding whole_of
whole_same s t k n = rw (whole_of, k) ((sized s).same s t n)

pub whole_most : (s : List ℕ) → count_of s < 256 → whole_of s ≤ 292
unfolding whole_of
whole_most s h = (sized s).most s h
