-- Where an entry stands: at a mark with a value after it that a record may be, as record lists have them.
use mathlib.Core.Path.{◌≡◌, refl, sym, ap, ap₂, subst, ◌∙◌}
use mathlib.Core.Bool.{Bool, true, false, cond}
use Rattle.std.specs.Prelude.{Option, None, Some}
use Rattle.std.proofs.lemmas.Option.{none-some, same_Some}
use mathlib.Core.List.{List}
use Prim.Native.Nat.{ℕ, suc, ◌+◌, ◌-◌, ◌≤◌, ◌<◌}
use native.Mathlib.Omega.{arith}
use lib.Dec.{leb, ltb, eqb}
use lib.ListN.{length, drop, get_or, drop_of_length-le, length-drop, length-append}
use lib.Seq.{take-append_seam}
use borrow.Author.Tests.{leb-true, leb-false, eqb-true, eqb-false, eq-eqb, ne_eqb}
use Rattle.format.specs.Maybe.{bind}
use Rattle.format.proofs.Maybe.{bind_some, bind_bind}
use Rattle.format.proofs.Tests.{by, either}
use Rattle.ber.specs.Tlv.{tlv_enc, tlv_dec}
use Rattle.ber.specs.Read.{len_at}
use Rattle.ber.proofs.Places.{at_cons, rest_at, rest_is, starts_at, len_none, len_some, part_end, part_other, part_bare, part_cut, part_there}
use Rattle.cdrs.specs.List.{mark_at}
use Rattle.cdrs.proofs.Values.{is_mm, kind_tag, value_of, value_long, value_sound}
use Rattle.entries.specs.declared.Entry.{Entry}
use Rattle.entries.specs.declared.Entry.TheVariants.{Found, End, NoMark, Cut, NoValue}
use Rattle.entries.specs.Entry.{is_tag, most_contents, sized_at, value_at, entry_at}
use Rattle.entries.specs.Steps.{place_of}
use Rattle.entries.specs.Read.{octets_in}
use Rattle.entries.proofs.Exits.{at_end, other_first, half_mark, other_second, marked, no_tag, other_tag, tagged}

-- the place of the record of an entry, by the mark at the front and the value after it
abbrev pub place_by : List ℕ → ℕ → Bool → Option (List ℕ × List ℕ) → Option (ℕ × ℕ)
place_by s at m o = cond m (bind o (λ p. Some (at + 2, length s - length p.1))) None

-- a test that picks one of two answers that are no entry
neither : (t : Bool) (x y : Entry) → place_of x ≡ None → place_of y ≡ None → place_of (cond t x y) ≡ None
neither true x y e d = e
neither false x y e d = d

-- ---- the mark

module _ (s : List ℕ) (at : ℕ) where
  mark_end : length s ≤ at → mark_at (drop at s) ≡ false
  unfolding mark_at
  mark_end h = rw (drop_of_length-le s h)

  module _ (h : at < length s) where
    mark_other : (get_or s at 0 ≡ 0xC3 → ⊥) → mark_at (drop at s) ≡ false
    unfolding mark_at
    mark_other e = rw (at_cons s at h, ne_eqb (get_or s at 0) 0xC3 e)

    module _ (e : get_or s at 0 ≡ 0xC3) where
      mark_half : length s ≤ at + 1 → mark_at (drop at s) ≡ false
      unfolding mark_at
      mark_half k = rw (at_cons s at h, e, drop_of_length-le s k)

      module _ (k : at + 1 < length s) where
        mark_second : (get_or s (at + 1) 0 ≡ 0x5A → ⊥) → mark_at (drop at s) ≡ false
        unfolding mark_at
        mark_second d = rw (at_cons s at h, e, at_cons s (at + 1) k, ne_eqb (get_or s (at + 1) 0) 0x5A d)

        mark_whole : get_or s (at + 1) 0 ≡ 0x5A → mark_at (drop at s) ≡ true
        unfolding mark_at
        mark_whole d = rw (at_cons s at h, e, at_cons s (at + 1) k, d)

-- ---- the value after it

-- a tag that a record may have is that of one kind, and no other is
unlike : true ≡ false → ⊥
unlike e = let u : ◌≡◌ {A = ℕ} 0 1 = cc in omega arith

tag_true : (t : ℕ) → is_tag t ≡ true → t ≡ kind_tag (eqb t 0xA2)
tag_true t e =
    by (eqb t 0xA2) (λ m. rw m (eqb-true t 0xA2 m))
    (λ m. rw m (by (eqb t 0xA0) (λ b. eqb-true t 0xA0 b) (λ b. absurd (unlike (sym (rw (b, m) at e))))))

tag_false : (t : ℕ) → is_tag t ≡ false → t ≡ kind_tag (eqb t 0xA2) → ⊥
tag_false t e k =
    by (eqb t 0xA2) (λ m. unlike (by (eqb t 0xA0) (λ b. rw b at e) (λ b. rw (b, m) at e)))
    (λ m. let z : t ≡ 0xA0 = rw m at k in unlike (rw (eq-eqb t 0xA0 z) at e))

-- the place of the value with a tag, if one stands at a place
abbrev valued : List ℕ → ℕ → ℕ → Option (ℕ × ℕ)
valued s t at = bind (tlv_dec t (drop at s)) (λ p. Some (at, length s - length p.1))

module _ (s : List ℕ) (from : ℕ) where
  module _ (t at : ℕ) (h : at < length s) (k : get_or s at 0 ≡ t) where
    sized : (l : Option (ℕ × ℕ)) → l ≡ len_at s (at + 1) → place_of (sized_at s from at l) ≡ valued s t at
    unfolding sized_at
    sized None e =
        rw (part_bare s at t h k (len_none s (at + 1) (omega arith) e))
        (neither (ltb (length s - (at + 1)) 3) (Cut from) (NoValue at) refl refl)
    sized (Some (n, a)) e =
        let l = len_some s (at + 1) (omega arith) e in
        by (leb n (length s - a))
        (λ b. let m = leb-true n (length s - a) b in rw (b, part_there s at t h k n a l m, rest_at s (a + n) (let z = l.0 in omega arith)))
        (λ b. rw (b, part_cut s at t h k n a l (leb-false n (length s - a) b)) (neither (ltb most_contents n) (NoValue at) (Cut from) refl refl))

  value_tagged : (at : ℕ) → place_of (value_at s from at) ≡ valued s (kind_tag (is_mm (drop at s))) at
  value_tagged at =
      either (length s) at
      (λ h. rw (← no_tag s from at h, part_end s at (kind_tag (is_mm (drop at s))) h))
      (λ h. rw (← starts_at s at 0xA2 h) (by (is_tag (get_or s at 0))
      (λ t. ap place_of (sym (tagged s from at h t refl))
      ∙ sized (kind_tag (eqb (get_or s at 0) 0xA2)) at h (tag_true (get_or s at 0) t) (len_at s (at + 1)) refl)
      (λ t. rw (← other_tag s from at h t, part_other s at (kind_tag (eqb (get_or s at 0) 0xA2)) h (tag_false (get_or s at 0) t)))))

  value_place : (at : ℕ) → place_of (value_at s from at) ≡ bind (value_of (drop at s)) (λ p. Some (at, length s - length p.1))
  unfolding value_of
  value_place at =
      value_tagged at
      ∙ sym (bind_bind (tlv_dec (kind_tag (is_mm (drop at s))) (drop at s)) (λ p. Some (tlv_enc (kind_tag (is_mm (drop at s))) p.0, p.1))
      (λ p. Some (at, length s - length p.1)))

-- the place of the entry at a place is found by the mark there and the value after it
pub place_is : (s : List ℕ) (at : ℕ) → place_of (entry_at s at) ≡ place_by s at (mark_at (drop at s)) (value_of (drop (at + 2) s))
place_is s at =
    either (length s) at (λ h. rw (← at_end s at h, mark_end s at h))
    (λ h. by (eqb (get_or s at 0) 0xC3)
    (λ b. let e = eqb-true (get_or s at 0) 0xC3 b in
    either (length s) (at + 1) (λ k. rw (← half_mark s at h e k, mark_half s at h e k))
    (λ k. by (eqb (get_or s (at + 1) 0) 0x5A)
    (λ m. let d = eqb-true (get_or s (at + 1) 0) 0x5A m in
    ap place_of (sym (marked s at h e k d)) ∙ value_place s at (at + 2) ∙ rw (mark_whole s at h e k d))
    (λ m. let d = eqb-false (get_or s (at + 1) 0) 0x5A m in rw (← other_second s at h e k d, mark_second s at h e k d))))
    (λ b. let e = eqb-false (get_or s at 0) 0xC3 b in rw (← other_first s at h e, mark_other s at h e)))

-- ---- an entry that was found

-- the mark stands at `at`, and after it, up to e, a value that a record may be
pub record Stands (s : List ℕ) (at a e : ℕ) : Type 0 where
  pub begins : a ≡ at + 2
  pub mark : mark_at (drop at s) ≡ true
  pub value : value_of (drop (at + 2) s) ≡ Some (octets_in s (a, e), drop e s)
  -- an entry has at least four octets
  pub long : at + 4 ≤ e
  pub inside : e ≤ length s

stands_value : (s : List ℕ) (at : ℕ) (q : List ℕ × List ℕ) → mark_at (drop at s) ≡ true → value_of (drop (at + 2) s) ≡ Some q
    → Stands s at (at + 2) (length s - length q.1)
stands_value s at q m d =
    let (v, w) = value_sound (drop (at + 2) s) q d in
    let l = sym (length-drop (at + 2) s) ∙ ap length w ∙ length-append q.0 q.1 in
    let n = value_long v in
    let k = rest_is s (at + 2) q.0 q.1 w (omega arith) in
    let f : length s - length q.1 - (at + 2) ≡ length q.0 = omega arith in
    let o : octets_in s (at + 2, length s - length q.1) ≡ q.0 = rw (f, w) (take-append_seam q.0 q.1) in
    record {
      begins = refl;
      mark = m;
      value = d ∙ ap₂ {C = Option (List ℕ × List ℕ)} (λ x y. Some (x, y)) (sym o) k.1;
      long = omega arith;
      inside = omega arith;
    }

-- what the place of a found entry says
pub stands : (s : List ℕ) (at : ℕ) (p : ℕ × ℕ) → place_of (entry_at s at) ≡ Some p → Stands s at p.0 p.1
stands s at p e =
    let f = sym (place_is s at) ∙ e in
    by (mark_at (drop at s))
    (λ m.
    let (q, d, k) = bind_some (value_of (drop (at + 2) s)) (λ p. Some (at + 2, length s - length p.1)) p (rw m at f) in
    subst (λ (p : ℕ × ℕ). Stands s at p.0 p.1) (same_Some _ p k) (stands_value s at q m d))
    (λ m. absurd (none-some p (rw m at f)))

-- the octet after the mark tells the kind
pub kind_at : (s : List ℕ) (a e : ℕ) → a < e → e ≤ length s → is_mm (octets_in s (a, e)) ≡ eqb (get_or s a 0) 0xA2
kind_at s a e h k = let n : e - a ≡ suc (e - a - 1) = omega arith in rw (n, at_cons s a (omega arith))

-- the same of an entry that a `match` took apart
module _ (s : List ℕ) (at : ℕ) {x : Entry} {a e : ℕ} (k : x ≡ Found a e) (q : x ≡ entry_at s at) where
  pub found_place : place_of (entry_at s at) ≡ Some (a, e)
  found_place = ap place_of (sym q ∙ k)

  pub found_stands : Stands s at a e
  found_stands = stands s at (a, e) found_place

  pub found_fits : (a < e) × (e ≤ length s)
  found_fits = let w = found_stands in (omega (arith, w.begins, w.long), w.inside)

-- an answer that is no entry, as a `match` knows it where it is not `Found`
pub other : (x : Entry) → ((a e : ℕ) → x ≡ Found a e → ⊥) → place_of x ≡ None
other (Found a e) k = absurd (k a e refl)
other End k = refl
other (NoMark p) k = refl
other (Cut p) k = refl
other (NoValue p) k = refl

pub other_place : (s : List ℕ) (at : ℕ) (x : Entry) → ((a e : ℕ) → x ≡ Found a e → ⊥) → x ≡ entry_at s at → place_of (entry_at s at) ≡ None
other_place s at x k q = ap place_of (sym q) ∙ other x k
