-- A record after its mark: what the writer leaves, and the two octets before it.
use mathlib.Core.Path.{◌≡◌, refl, sym, ap, ◌∙◌}
use mathlib.Core.Bool.{true, false}
use mathlib.Core.List.{List, [], ◌∷◌, ◌++◌, append_assoc}
use Rattle.std.specs.Prelude.{Result, Ok, Err}
use Prim.Native.Nat.{ℕ, suc, ◌+◌, ◌-◌, ◌≤◌, ◌<◌}
use native.Mathlib.Omega.{arith}
use lib.Dec.{leb}
use lib.ListN.{length, take, drop, set, length-set}
use borrow.Author.Tests.{leb-true, leb-false, le-leb, lt-leb}
use borrow.Rule.Slice.PartMut.{mid_of, put_mid, mid_len, put_same}
use Rattle.format.proofs.Tests.{by}
use Rattle.ber.specs.Private.Wrote.{Put}
use Rattle.ber.specs.Written.{written}
use Rattle.ber.specs.declared.written.NotWritten.{NotWritten}
use Rattle.ber.specs.declared.written.NotWritten.TheVariants.{OutsideRules, NoRoom}
use Rattle.ber.proofs.Writers.{put_of, put_part}
use Rattle.mcdr.specs.declared.MmRecord.{MmRecord}
use Rattle.mcdr.specs.Rules.{within}
use Rattle.mcdr.specs.Layout.{mcdr}
use Rattle.mcdr.specs.Answers.{write_of, Writes}
use Rattle.subscriber.specs.Tell.{marked_octets}
use Rattle.subscriber.specs.Private.Marked.{marked_in, Marks}

module _ (r : MmRecord) where
  abbrev x : List ℕ
  x = mcdr.enc r

  -- no room for the mark alone
  short : (b : List ℕ) → length b < 2 + length x → leb (length (marked_octets r)) (length b) ≡ false
  unfolding marked_octets
  short b h = lt-leb (length (0xC3 ∷ 0x5A ∷ x)) (length b) (omega arith)

  pub marks_short : {b : List ℕ} → length b < 2 → within r ≡ true → Marks r b b (Err NoRoom)
  unfolding marked_in written
  marks_short {b} h w = record { is = rw (w, short b (omega arith)) }

  pub marks_none : {b : List ℕ} → within r ≡ false → Marks r b b (Err OutsideRules)
  unfolding marked_in written
  marks_none w = record { is = rw w }

  mark_set : (b ys : List ℕ) → 2 ≤ length b → set (set (take 2 b ++ ys) 0 0xC3) 1 0x5A ≡ 0xC3 ∷ 0x5A ∷ ys
  mark_set [] ys h = absurd (omega arith)
  mark_set (y ∷ []) ys h = absurd (omega arith)
  mark_set (y ∷ (z ∷ b)) ys h = refl

  module _ (b : List ℕ) {ys : List ℕ} {a : Result ℕ NotWritten} (h : 2 ≤ length b) (y : Writes r (mid_of 2 (length b - 2) b) ys a) where
    abbrev part : List ℕ
    part = mid_of 2 (length b - 2) b

    abbrev after : List ℕ
    after = put_mid 2 (length b - 2) b ys

    long : length part ≡ length b - 2
    long = mid_len 2 (length b) b (omega arith)

    -- a buffer whose part is as it was
    same : ys ≡ part → after ≡ b
    same e = ap (λ (q : List ℕ). put_mid 2 (length b - 2) b q) e ∙ put_same 2 (length b - 2) b

    -- what the writer answers, by what it found
    outside : within r ≡ false → (a ≡ Err OutsideRules) × (ys ≡ part)
    unfolding write_of written
    outside w =
        let e = rw w at y.is in
        (ap (λ (q : Result ℕ NotWritten × List ℕ). q.0) e, ap (λ (q : Result ℕ NotWritten × List ℕ). q.1) e)

    too_long : within r ≡ true → leb (length x) (length part) ≡ false → (a ≡ Err NoRoom) × (ys ≡ part)
    unfolding write_of written
    too_long w l =
        let e = rw (w, l) at y.is in
        (ap (λ (q : Result ℕ NotWritten × List ℕ). q.0) e, ap (λ (q : Result ℕ NotWritten × List ℕ). q.1) e)

    record Done : Type 0 where
      answer : a ≡ Ok (length x)
      put : Put x b after 2 (2 + length x)

    done : within r ≡ true → leb (length x) (length part) ≡ true → Done
    unfolding write_of written
    done w l =
        let e = rw (w, l) at y.is in
        let f : ys ≡ x ++ drop (length x) part = ap (λ (q : Result ℕ NotWritten × List ℕ). q.1) e in
        let k = leb-true (length x) (length part) l in
        record {
          answer = ap (λ (q : Result ℕ NotWritten × List ℕ). q.0) e;
          put = put_part b 2 h (put_of (omega arith) (omega arith) f);
        }

    pub marks_not : {e : NotWritten} → a ≡ Err e → Marks r b after (Err e)
    unfolding marked_in written
    marks_not {e} z =
        by (within r)
        (λ w. by (leb (length x) (length part))
        (λ l. absurd (let d = (done w l).answer in cc))
        (λ l.
        let k = leb-false (length x) (length part) l in
        let (f, s) = too_long w l in
        let g : Err e ≡ Err NoRoom = sym z ∙ f in
        record { is = rw (w, short b (omega (arith, long))) (λ i. (g i, same s i)) }))
        (λ w. let (f, s) = outside w in let g : Err e ≡ Err OutsideRules = sym z ∙ f in record { is = rw w (λ i. (g i, same s i)) })

    is_done : {n : ℕ} → a ≡ Ok n → (within r ≡ true) × Done
    is_done z =
        by (within r)
        (λ w. by (leb (length x) (length part))
        (λ l. (w, done w l))
        (λ l. absurd (let e = (too_long w l).0 in cc)))
        (λ w. absurd (let e = (outside w).0 in cc))

    size : {n : ℕ} → a ≡ Ok n → n ≡ length x
    size z = let e = (is_done z).1.answer in cc

    pub marks_done : {n : ℕ} → a ≡ Ok n → Marks r b (set (set after 0 0xC3) 1 0x5A) (Ok (2 + n))
    unfolding marked_in written marked_octets
    marks_done {n} z =
        let (w, d) = is_done z in
        let s = size z in
        let f = d.put.fits in
        let e : suc (suc (length x)) ≡ 2 + n = omega arith in
        let j : 2 + length x ≡ suc (suc (length x)) = omega arith in
        let k : set (set after 0 0xC3) 1 0x5A ≡ 0xC3 ∷ 0x5A ∷ (x ++ drop (suc (suc (length x))) b) =
        ap (λ (q : List ℕ). set (set q 0 0xC3) 1 0x5A) (d.put.buf ∙ append_assoc (take 2 b) x (drop (2 + length x) b))
        ∙ mark_set b (x ++ drop (2 + length x) b) h ∙ ap (λ (j : ℕ). 0xC3 ∷ 0x5A ∷ (x ++ drop j b)) j in
        record { is = rw (w, le-leb (length (0xC3 ∷ 0x5A ∷ x)) (length b) (omega arith)) (λ i. (Ok (sym e i), k i)) }

    -- between the two octets of the mark
    pub marks_second : {n : ℕ} → a ≡ Ok n → 1 < length (set after 0 0xC3)
    marks_second z = omega (arith, length-set after 0 0xC3, (is_done z).1.put.same)

    -- what was written ends within the buffer
    pub marks_within : {n : ℕ} → a ≡ Ok n → 2 + n ≤ length b
    marks_within z = let s = size z in omega (arith, (is_done z).1.put.fits)
