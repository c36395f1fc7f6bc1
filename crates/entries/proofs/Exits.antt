-- What stands at a place, by the octets there: a law for each way out of the stepper.
use mathlib.Core.Path.{◌≡◌}
use mathlib.Core.Bool.{true, false}
use Rattle.std.specs.Prelude.{Option, None, Some}
use Prim.Native.Nat.{ℕ, ◌+◌, ◌-◌, ◌≤◌, ◌<◌}
use mathlib.Core.List.{List}
use lib.ListN.{length, get_or}
use borrow.Author.Tests.{le-leb, lt-leb, lt-ltb, le-ltb, eq-eqb, ne_eqb}
use Rattle.ber.specs.Read.{len_at}
use Rattle.entries.specs.declared.Entry.TheVariants.{Found, End, NoMark, Cut, NoValue}
use Rattle.entries.specs.Entry.{is_tag, most_contents, sized_at, value_at, entry_at}

module _ (s : List ℕ) (at : ℕ) where
  pub at_end : length s ≤ at → End ≡ entry_at s at
  unfolding entry_at
  at_end h = rw (le-leb (length s) at h)

  module _ (h : at < length s) where
    pub other_first : (get_or s at 0 ≡ 0xC3 → ⊥) → NoMark at ≡ entry_at s at
    unfolding entry_at
    other_first e = rw (lt-leb (length s) at h, ne_eqb (get_or s at 0) 0xC3 e)

    module _ (e : get_or s at 0 ≡ 0xC3) where
      pub half_mark : length s ≤ at + 1 → Cut at ≡ entry_at s at
      unfolding entry_at
      half_mark k = rw (lt-leb (length s) at h, eq-eqb (get_or s at 0) 0xC3 e, le-leb (length s) (at + 1) k)

      module _ (k : at + 1 < length s) where
        pub other_second : (get_or s (at + 1) 0 ≡ 0x5A → ⊥) → NoMark at ≡ entry_at s at
        unfolding entry_at
        other_second d =
            rw (lt-leb (length s) at h, eq-eqb (get_or s at 0) 0xC3 e, lt-leb (length s) (at + 1) k, ne_eqb (get_or s (at + 1) 0) 0x5A d)

        pub marked : get_or s (at + 1) 0 ≡ 0x5A → value_at s at (at + 2) ≡ entry_at s at
        unfolding entry_at
        marked d =
            rw (lt-leb (length s) at h, eq-eqb (get_or s at 0) 0xC3 e, lt-leb (length s) (at + 1) k, eq-eqb (get_or s (at + 1) 0) 0x5A d)

module _ (s : List ℕ) (from at : ℕ) where
  pub no_tag : length s ≤ at → Cut from ≡ value_at s from at
  unfolding value_at
  no_tag h = rw (le-leb (length s) at h)

  module _ (h : at < length s) where
    pub other_tag : is_tag (get_or s at 0) ≡ false → NoValue at ≡ value_at s from at
    unfolding value_at
    other_tag t = rw (lt-leb (length s) at h, t)

    pub tagged : is_tag (get_or s at 0) ≡ true → {l : Option (ℕ × ℕ)} → l ≡ len_at s (at + 1) → sized_at s from at l ≡ value_at s from at
    unfolding value_at
    tagged t {l} e = rw (lt-leb (length s) at h, t, e)

  pub short_length : length s - (at + 1) < 3 → Cut from ≡ sized_at s from at None
  unfolding sized_at
  short_length h = rw (lt-ltb (length s - (at + 1)) 3 h)

  pub other_length : 3 ≤ length s - (at + 1) → NoValue at ≡ sized_at s from at None
  unfolding sized_at
  other_length h = rw (le-ltb (length s - (at + 1)) 3 h)

  module _ (n a : ℕ) where
    pub whole_value : n ≤ length s - a → Found at (a + n) ≡ sized_at s from at (Some (n, a))
    unfolding sized_at
    whole_value h = rw (le-leb n (length s - a) h)

    module _ (h : length s - a < n) where
      pub long_value : most_contents < n → NoValue at ≡ sized_at s from at (Some (n, a))
      unfolding sized_at
      long_value k = rw (lt-leb n (length s - a) h, lt-ltb most_contents n k)

      pub cut_value : n ≤ most_contents → Cut from ≡ sized_at s from at (Some (n, a))
      unfolding sized_at
      cut_value k = rw (lt-leb n (length s - a) h, le-ltb most_contents n k)
