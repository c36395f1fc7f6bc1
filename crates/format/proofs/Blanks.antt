-- A list in an array of so many places, those that it does not use blank: laws over any type of value.
use mathlib.Core.Path.{◌≡◌, refl, sym, ap, ap₂, ◌∙◌}
use mathlib.Core.Bool.{Bool, true, false, ◌&&◌}
use mathlib.Core.List.{List, [], ◌∷◌, ◌++◌}
use Prim.Native.Nat.{ℕ, zero, suc, ◌+◌, ◌-◌, ◌≤◌, ◌<◌}
use native.Mathlib.Numerals.{add-one}
use native.Mathlib.Omega.{arith}
use lib.ListN.{length, take, drop, get_or, set, length-append, length-drop, length-set, take-append-drop, drop_of_length-le}
use lib.Seq.{drop-cons, drop-append_seam, take_at, length-take-le, take-suc-set, drop-set-lt}
use Rattle.format.proofs.Tests.{both}

-- the blank value, the tests of one place and of many, and n blank places
pub record Blank (A : Type 0) : Type 0 where
  pub value : A
  pub is : A → Bool
  pub all : List A → Bool
  pub many : ℕ → List A
  pub self : is value ≡ true
  pub told : (a : A) → is a ≡ true → a ≡ value
  pub nil : all [] ≡ true
  pub cons : (a : A) (l : List A) → all (a ∷ l) ≡ (is a && all l)
  pub none : many 0 ≡ []
  pub more : (n : ℕ) → many (suc n) ≡ value ∷ many n

module _ {A : Type 0} (k : Blank A) where
  pub many_length : (n : ℕ) → length (k.many n) ≡ n
  many_length zero = ap length k.none
  many_length (suc n) = ap length (k.more n) ∙ ap suc (many_length n)

  -- places are all blank where they are as many blank values
  pub blanks_are : (l : List A) → k.all l ≡ true → l ≡ k.many (length l)
  blanks_are [] h = sym k.none
  blanks_are (a ∷ l) h =
      let (x, y) = both (k.is a) (k.all l) (sym (k.cons a l) ∙ h) in
      ap₂ {C = List A} (λ b m. b ∷ m) (k.told a x) (blanks_are l y) ∙ sym (k.more (length l))

  pub are_blanks : (n : ℕ) → k.all (k.many n) ≡ true
  are_blanks zero = ap k.all k.none ∙ k.nil
  are_blanks (suc n) = ap k.all (k.more n) ∙ k.cons k.value (k.many n) ∙ rw (k.self, are_blanks n)

  -- ---- tested one place after another, from the place i on

  module _ (v : List A) (i : ℕ) (d : A) (h : i < length v) where
    here : k.all (drop i v) ≡ (k.is (get_or v i d) && k.all (drop (i + 1) v))
    here = ap k.all (rw (add-one i, drop-cons v i d h)) ∙ k.cons (get_or v i d) (drop (i + 1) v)

    pub blank_no : k.is (get_or v i d) ≡ false → false ≡ k.all (drop i v)
    blank_no e = sym (here ∙ rw e)

    pub blank_more : k.is (get_or v i d) ≡ true → k.all (drop (i + 1) v) ≡ k.all (drop i v)
    blank_more e = sym (here ∙ rw e)

  pub blank_end : (v : List A) (i : ℕ) → length v ≤ i → true ≡ k.all (drop i v)
  blank_end v i h = sym (ap k.all (drop_of_length-le v h) ∙ k.nil)

  -- ---- filled up to so many places

  abbrev pub fill : ℕ → List A → List A
  fill places l = l ++ k.many (places - length l)

  -- what was filled up is the front again
  pub take_filled : (places : ℕ) (l : List A) → take (length l) (fill places l) ≡ l
  take_filled places l = take_at l (k.many (places - length l)) (length l) refl

  pub filled_length : (places : ℕ) (l : List A) → length l ≤ places → length (fill places l) ≡ places
  filled_length places l h = length-append l (k.many (places - length l)) ∙ rw (many_length (places - length l)) (omega arith)

  pub filled_rest : (places : ℕ) (l : List A) → k.all (drop (length l) (fill places l)) ≡ true
  filled_rest places l = ap k.all (drop-append_seam l (k.many (places - length l))) ∙ are_blanks (places - length l)

  -- a front with the rest blank fills up to the whole
  pub filled_take : (places n : ℕ) (v : List A) → length v ≡ places → n ≤ places → drop n v ≡ k.many (length (drop n v)) → fill places (take n v) ≡ v
  filled_take places n v l h z =
      let t : length (take n v) ≡ n = length-take-le n v (omega arith) in
      let m : length (drop n v) ≡ places - n = length-drop n v ∙ rw l in
      rw (t, ← m, ← z, take-append-drop n v)

  pub filled_used : (places n : ℕ) (v : List A) → length v ≡ places → n ≤ places → k.all (drop n v) ≡ true → fill places (take n v) ≡ v
  filled_used places n v l h b = filled_take places n v l h (blanks_are (drop n v) b)

  -- one value more, in the first place that is not used
  pub filled_more : (places n : ℕ) (v : List A) (a : A) → length v ≡ places → n < places → k.all (drop n v) ≡ true
      → set v n a ≡ fill places (take n v ++ (a ∷ []))
  filled_more places n v a l h b =
      let r : k.all (drop (suc n) (set v n a)) ≡ true =
      rw (drop-set-lt (suc n) v n a (omega arith)) (both (k.is (get_or v n a)) (k.all (drop (suc n) v)) (sym (ap k.all (drop-cons v n a (omega arith))
      ∙ k.cons (get_or v n a) (drop (suc n) v)) ∙ b)).1 in
      sym (filled_used places (suc n) (set v n a) (length-set v n a ∙ l) (omega arith) r) ∙ ap (fill places) (take-suc-set v n a (omega arith))
