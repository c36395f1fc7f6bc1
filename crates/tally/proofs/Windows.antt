-- A step looks at 1,026 octets at most: the longest record with its mark. So what is in a window decides it.
use Rattle.std.proofs.Common.{◌≡◌, ℕ, ◌+◌, ◌-◌, ◌<◌, ◌≤◌, cond, ◌&&◌, eqb, ltb, leb, List, [], ◌∷◌, length, get_or, take, drop, sym, refl, ap, ◌∙◌, arith, length-take, take_all, get_or-take, take-take, ltb-false, ltb-true, le-ltb, lt-ltb, le-leb}
use borrow.Author.Tests.{lt-leb}
use Rattle.std.specs.Prelude.{Option, None, Some, Result, Ok, Err}
use Rattle.format.proofs.Tests.{by, both, either}
use Rattle.octets.proofs.Fronts.{drop_take}
use Rattle.ber.specs.Int.{spelt}
use Rattle.ber.specs.Length.{len_one, len_two, len_dec}
use Rattle.ber.specs.Read.{len_at}
use Rattle.ber.proofs.Places.{at_cons}
use Rattle.entries.specs.Entry.{is_tag, most_contents, sized_at, value_at, entry_at}
use Rattle.entries.specs.Read.{octets_in}
use Rattle.tally.specs.declared.Fault.TheVariants as F
use Rattle.tally.specs.declared.Tally.{Tally}
use Rattle.tally.specs.Look.{stops, longest, of_record, look_on, look_of}

-- ---- the length of a record, in the three octets behind its tag

abbrev len_of : ℕ → ℕ → ℕ → Option (ℕ × ℕ)
len_of d e f =
    cond (ltb d 128) (Some (d, 4))
    (cond (eqb d 0x81) (cond (leb 128 e && ltb e 256) (Some (e, 5)) None)
    (cond (eqb d 0x82) (cond (leb 1 e && ltb e 256 && ltb f 256) (Some ((spelt 0 (e ∷ f ∷ [])), 6)) None) None))

module _ (a b c d e f : ℕ) (r : List ℕ) where
  abbrev octets : List ℕ
  octets = a ∷ b ∷ c ∷ d ∷ e ∷ f ∷ r

  len_is : len_at octets 3 ≡ len_of d e f
  unfolding len_at len_dec len_one len_two
  len_is =
      let p : length octets - length (e ∷ f ∷ r) ≡ 4 = omega arith in
      let q : length octets - length (f ∷ r) ≡ 5 = omega arith in
      let z : length octets - length r ≡ 6 = omega arith in
      by (ltb d 128) (λ x. rw x (ap {B = Option (ℕ × ℕ)} (λ (n : ℕ). Some (d, n)) p))
      (λ x. rw x (by (eqb d 0x81)
      (λ y. rw y (by (leb 128 e && ltb e 256) (λ w. rw w (ap {B = Option (ℕ × ℕ)} (λ (n : ℕ). Some (e, n)) q)) (λ w. rw w)))
      (λ y. rw y (by (eqb d 0x82)
      (λ v. rw v (by (leb 1 e && ltb e 256 && ltb f 256) (λ w. rw w (ap {B = Option (ℕ × ℕ)} (λ (n : ℕ). Some (spelt 0 (e ∷ f ∷ []), n)) z)) (λ w. rw w)))
      (λ v. rw v)))))

-- such a length: it takes one to three octets, and three where it is longer than any record's
abbrev Fair : Option (ℕ × ℕ) → Type 0
Fair (Some (m, p)) = (4 ≤ p) × (p ≤ 6) × (most_contents < m → p ≡ 6)
Fair None = Unit {0}

fair : (d e f : ℕ) → Fair (len_of d e f)
fair d e f =
    by (ltb d 128) (λ x. rw x (omega arith, omega arith, λ k. absurd (omega (arith, ltb-true d 128 x))))
    (λ x. rw x (by (eqb d 0x81)
    (λ y. rw y (by (leb 128 e && ltb e 256)
    (λ w. rw w (omega arith, omega arith, λ k. absurd (omega (arith, ltb-true e 256 (both (leb 128 e) (ltb e 256) w).1))))
    (λ w. rw w tt)))
    (λ y. rw y (by (eqb d 0x82)
    (λ v. rw v (by (leb 1 e && ltb e 256 && ltb f 256) (λ w. rw w (omega arith, omega arith, λ k. refl)) (λ w. rw w tt)))
    (λ v. rw v tt)))))

-- ---- a step over octets that hold the longest record

module _ (id ggsn : ℕ) where
  abbrev by_size : Option (ℕ × ℕ) → List ℕ → Tally
  by_size (Some (m, p)) s = cond (ltb most_contents m) (stops F.Value 2) (of_record id ggsn (p + m) (octets_in s (2, p + m)))
  by_size None s = stops F.Value 2

  abbrev by_octets : ℕ → ℕ → ℕ → Option (ℕ × ℕ) → List ℕ → Tally
  by_octets a b c l s =
      cond (eqb a 0xC3) (cond (eqb b 0x5A) (cond (is_tag c) (by_size l s) (stops F.Value 2)) (stops F.Mark 0)) (stops F.Mark 0)

  size_look : (l : Option (ℕ × ℕ)) (s : List ℕ) → Fair l → 1026 ≤ length s → look_on id ggsn s (sized_at s 0 2 l) ≡ by_size l s
  unfolding sized_at
  size_look None s g h = rw (le-ltb (length s - 3) 3 (omega arith))
  size_look (Some (m, p)) s g h =
      by (ltb most_contents m)
      (λ x.
      let k = ltb-true most_contents m x in
      let z = g.2 k in
      by (leb m (length s - p)) (λ y. rw (y, x, lt-ltb longest (p + m - 2) (omega arith))) (λ y. rw (y, x)))
      (λ x.
      let k = ltb-false most_contents m x in
      let i = g.1 in
      rw (le-leb m (length s - p) (omega arith), x, le-ltb longest (p + m - 2) (omega arith)))

  module _ (a b c d e f : ℕ) (r : List ℕ) where
    octets_look : 1026 ≤ length (octets a b c d e f r) → look_of id ggsn (octets a b c d e f r) ≡ by_octets a b c (len_of d e f) (octets a b c d e f r)
    unfolding look_of entry_at value_at
    octets_look h =
        let s = octets a b c d e f r in
        rw (lt-leb (length s) 0 (omega arith), lt-leb (length s) 1 (omega arith), lt-leb (length s) 2 (omega arith), len_is a b c d e f r)
        (by (eqb a 0xC3)
        (λ x. rw x (by (eqb b 0x5A)
        (λ y. rw y (by (is_tag c) (λ w. rw w (size_look (len_of d e f) s (fair d e f) h)) (λ w. rw w)))
        (λ y. rw y)))
        (λ x. rw x))

-- ---- and only over these

octets_local : (h : ℕ) (s : List ℕ) (n : ℕ) → n ≤ h → octets_in (take h s) (2, n) ≡ octets_in s (2, n)
octets_local h s n l = rw (drop_take 2 h s) (take-take (n - 2) (h - 2) (drop 2 s) (omega arith))

module _ (id ggsn : ℕ) where
  size_local : (l : Option (ℕ × ℕ)) (h : ℕ) (s : List ℕ) → Fair l → 1026 ≤ h → by_size id ggsn l (take h s) ≡ by_size id ggsn l s
  size_local None h s g k = refl
  size_local (Some (m, p)) h s g k =
      by (ltb most_contents m) (λ x. rw x)
      (λ x.
      let i = ltb-false most_contents m x in
      let j = g.1 in
      rw x (ap (of_record id ggsn (p + m)) (octets_local h s (p + m) (omega arith))))

  by_local : (a b c : ℕ) (l : Option (ℕ × ℕ)) (h : ℕ) (s : List ℕ) → Fair l → 1026 ≤ h → by_octets id ggsn a b c l (take h s) ≡ by_octets id ggsn a b c l s
  by_local a b c l h s g k =
      by (eqb a 0xC3)
      (λ x. rw x (by (eqb b 0x5A) (λ y. rw y (by (is_tag c) (λ w. rw w (size_local l h s g k)) (λ w. rw w))) (λ y. rw y)))
      (λ x. rw x)

  -- by the six octets at the front
  abbrev at : List ℕ → ℕ → ℕ
  at s i = get_or s i 0

  six : (s : List ℕ) → 6 ≤ length s → s ≡ octets (at s 0) (at s 1) (at s 2) (at s 3) (at s 4) (at s 5) (drop 6 s)
  six s h =
      at_cons s 0 (omega arith)
      ∙ ap (λ (l : List ℕ). at s 0 ∷ l) (at_cons s 1 (omega arith)
      ∙ ap (λ (l : List ℕ). at s 1 ∷ l) (at_cons s 2 (omega arith)
      ∙ ap (λ (l : List ℕ). at s 2 ∷ l) (at_cons s 3 (omega arith)
      ∙ ap (λ (l : List ℕ). at s 3 ∷ l) (at_cons s 4 (omega arith)
      ∙ ap (λ (l : List ℕ). at s 4 ∷ l) (at_cons s 5 (omega arith))))))

  abbrev by_front : List ℕ → List ℕ → Tally
  by_front x s = by_octets id ggsn (at x 0) (at x 1) (at x 2) (len_of (at x 3) (at x 4) (at x 5)) s

  long_look : (s : List ℕ) → 1026 ≤ length s → look_of id ggsn s ≡ by_front s s
  long_look s h =
      let e = six s (omega arith) in
      ap (look_of id ggsn) e
      ∙ octets_look id ggsn (at s 0) (at s 1) (at s 2) (at s 3) (at s 4) (at s 5) (drop 6 s) (omega (arith, ap length e))
      ∙ ap (by_front s) (sym e)

  same_front : (h : ℕ) (s y : List ℕ) → 6 ≤ h → by_front (take h s) y ≡ by_front s y
  same_front h s y l =
      rw (
        get_or-take h s 0 0 (omega arith),
        get_or-take h s 1 0 (omega arith),
        get_or-take h s 2 0 (omega arith),
        get_or-take h s 3 0 (omega arith),
        get_or-take h s 4 0 (omega arith),
        get_or-take h s 5 0 (omega arith),
      )

  long_local : (h : ℕ) (s : List ℕ) → 1026 ≤ h → 1026 ≤ length s → look_of id ggsn (take h s) ≡ look_of id ggsn s
  long_local h s k l =
      long_look (take h s) (omega (arith, length-take h s))
      ∙ same_front h s (take h s) (omega arith)
      ∙ by_local (at s 0) (at s 1) (at s 2) (len_of (at s 3) (at s 4) (at s 5)) h s (fair (at s 3) (at s 4) (at s 5)) k
      ∙ sym (long_look s l)

  -- what is in hand decides a step, where it is all that is left or holds the longest record
  pub look_local : (h : ℕ) (s : List ℕ) → (h < length s → 1026 ≤ length (take h s)) → look_of id ggsn (take h s) ≡ look_of id ggsn s
  look_local h s f =
      either (length s) h
      (λ k. ap (look_of id ggsn) (take_all h s k))
      (λ k. long_local h s (omega (arith, f k, length-take h s)) (omega (arith, f k, length-take h s)))
