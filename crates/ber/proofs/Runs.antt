-- Values one after another to the end, each under one tag, the format of each going by the value before it: read into an array in a loop, and written
-- from one. Laws over any type of value, any format, any array.
use mathlib.Core.Path.{◌≡◌, refl, sym, ap, subst, ◌∙◌}
use mathlib.Core.Bool.{Bool, true, false, ◌&&◌}
use Rattle.std.specs.Prelude.{Option, None, Some}
use mathlib.Core.List.{List, [], ◌∷◌, ◌++◌, append_assoc, append-nil}
use Prim.Native.Nat.{ℕ, zero, suc, ◌+◌, ◌-◌, ◌*◌, ◌≤◌, ◌<◌}
use native.Mathlib.Numerals.{add-one}
use native.Mathlib.Nat.{le_of_suc-le-suc, not-suc-le-zero, mul-suc, mul-le-mul_left}
use native.Mathlib.Omega.{arith}
use lib.Dec.{T, leb}
use lib.ListN.{length, take, drop, get_or, set, length-set, length-append, length-drop, take-append-drop}
use lib.Seq.{take_all, take-suc, take-suc-set, take-take, get_or-take, length-take-le, drop-set-lt, drop-drop, take_at}
use borrow.Author.Tests.{le-leb, lt-leb}
use borrow.Rule.Slice.PartMut.{mid_of, put_mid}
use Rattle.std.specs.Bool.{then_some}
use Rattle.format.specs.Maybe.{bind, guard}
use Rattle.format.specs.Format.{Fmt}
use Rattle.format.proofs.Tests.{by, T_true, true_T, and_l, and_r}
use Rattle.format.proofs.Maybe.{bind_bind, bind_same}
use Rattle.format.proofs.Blanks.{Blank}
use Rattle.ber.specs.Tlv.{tlv_enc}
use Rattle.ber.specs.Field.{first, run_dec, run_enc}
use Rattle.ber.specs.Read.{read_at}
use Rattle.ber.specs.Write.{put, Puts}
use Rattle.ber.specs.Private.Wrote.{Put}
use Rattle.ber.specs.Private.Filled.{Filled}
use Rattle.ber.proofs.Readers.{Rest, rest_whole, read_found, got, first_leaves, run_end, run_lost, run_full, run_more}
use Rattle.ber.proofs.Writers.{put_then, put_is, put_nothing, put_part, part_room, puts_is, puts_room, puts_lost}
use Rattle.std.proofs.lemmas.Option.{none-some}

-- What the laws are about: the tag, the format after each value, how many places the array has, what those hold that are not used. Such a blank value
-- stands before the first.
pub record Run (A : Type 0) : Type 1 where
  pub tag : ℕ
  pub form : A → Fmt A
  pub places : ℕ
  pub blank : Blank A

-- ---- reading

module _ {A : Type 0} (k : Run A) where
  -- all of s, from what stands after z on, n values at most
  abbrev rest : A → ℕ → List ℕ → Option (List A)
  rest = run_dec k.tag k.form

  -- all of s, if they are lo at least
  abbrev pub list_dec : ℕ → List ℕ → Option (List A)
  list_dec lo s = bind (rest k.blank.value k.places s) (λ vs. guard (leb lo (length vs)) vs)

  -- a list in the array: how many values it has, and they with blank ones after
  abbrev pub in_places : Option (List A) → Option (ℕ × List A)
  in_places None = None
  in_places (Some vs) = Some (length vs, vs ++ k.blank.many (k.places - length vs))

module _ {A : Type 0} (k : Run A) (s : List ℕ) where
  -- n were read into v, up to a place, z the last of them: what stands there, after z, is what stands at the front; the rest of v is blank
  pub record SoFar (v : List A) (n at : ℕ) (z : A) : Type 0 where
    pub most : n ≤ k.places
    pub inside : at ≤ length s
    pub size : length v ≡ k.places
    pub blank : drop n v ≡ k.blank.many (k.places - n)
    pub rest : (o : Option (List A)) → Rest (rest k z (k.places - n)) s at o
        → Rest (rest k k.blank.value k.places) s 0 (bind o (λ vs. Some (take n v ++ vs)))

  bind_id : (o : Option (List A)) → bind o (λ vs. Some vs) ≡ o
  bind_id None = refl
  bind_id (Some vs) = refl

  pub sofar_none : (v : List A) (z : A) → length v ≡ k.places → v ≡ k.blank.many k.places → z ≡ k.blank.value → SoFar v 0 0 z
  sofar_none v z l e w =
      let j : k.places ≡ k.places - 0 = omega arith in
      record {
        most = omega arith;
        inside = omega arith;
        size = l;
        blank = e ∙ ap k.blank.many j;
        rest = λ o r. rw (bind_id o, j) (rw w at r);
      }

  one_less : (n : ℕ) → drop 1 (k.blank.many (suc n)) ≡ k.blank.many n
  one_less n = ap (drop 1) (k.blank.more n)

  pub sofar_more : {v : List A} {n at m : ℕ} {z c : A} → SoFar v n at z → at < length s → n < k.places → read_at (first k.tag (k.form z)) s at ≡ Some (c, m)
      → SoFar (set v n c) (n + 1) m c
  sofar_more {v} {n} {at} {m} {z} {c} f h i d =
      let (_, j, _) = read_found (first k.tag (k.form z)) s at (first_leaves k.tag (k.form z)) d in
      let g = got (first k.tag (k.form z)) s at (first_leaves k.tag (k.form z)) d in
      let e : suc (k.places - (n + 1)) ≡ k.places - n = omega arith in
      record {
        most = omega arith;
        inside = j;
        size = length-set v n c ∙ f.size;
        blank = drop-set-lt (n + 1) v n c (omega arith) ∙ sym (drop-drop 1 n v) ∙ ap (drop 1) (f.blank ∙ ap k.blank.many (sym e))
            ∙ one_less (k.places - (n + 1));
        rest = λ o r.
            let q = subst (λ (j : ℕ). Rest (rest k z j) s at (bind o (λ vs. Some (c ∷ vs)))) e
            (run_more k.tag k.form s z (k.places - (n + 1)) at h g r) in
            let w : take (n + 1) (set v n c) ≡ take n v ++ (c ∷ []) = rw (add-one, take-suc-set v n c (omega (arith, f.size))) in
            subst (λ (y : Option (List A)). Rest (rest k k.blank.value k.places) s 0 y)
            (bind_bind o (λ vs. Some (c ∷ vs)) (λ vs. Some (take n v ++ vs))
            ∙ bind_same o _ (λ vs. Some (take (n + 1) (set v n c) ++ vs))
            (λ vs. ap {B = Option (List A)} Some (sym (append_assoc (take n v) (c ∷ []) vs) ∙ ap (λ (z : List A). z ++ vs) (sym w))))
            (f.rest (bind o (λ vs. Some (c ∷ vs))) q);
      }

  module _ (lo : ℕ) {v : List A} {n at : ℕ} {z : A} (f : SoFar v n at z) where
    -- all of s was read
    whole : at ≡ length s → rest k k.blank.value k.places s ≡ Some (take n v)
    whole e =
        rest_whole (subst (λ (y : List A). Rest (rest k k.blank.value k.places) s 0 (Some y)) (append-nil (take n v))
        (f.rest (Some []) (run_end k.tag k.form s z (k.places - n) at e)))

    pub sofar_count : length (take n v) ≡ n
    sofar_count = length-take-le n v (omega (arith, f.most, f.size))

    -- the places after them are blank
    pub sofar_rest : v ≡ take n v ++ k.blank.many (k.places - length (take n v))
    sofar_rest = rw sofar_count (sym (take-append-drop n v) ∙ ap (λ (z : List A). take n v ++ z) f.blank)

    -- a value was not there
    pub list_lost : at < length s → n < k.places → read_at (first k.tag (k.form z)) s at ≡ None → list_dec k lo s ≡ None
    list_lost h i e =
        let w : suc (k.places - (n + 1)) ≡ k.places - n = omega arith in
        rw (rest_whole (f.rest None (subst (λ (j : ℕ). Rest (rest k z j) s at None) w (run_lost k.tag k.form s z (k.places - (n + 1)) at h e))))

    -- the array is full, and there are more octets
    pub list_long : at < length s → k.places ≤ n → list_dec k lo s ≡ None
    list_long h i =
        let w : 0 ≡ k.places - n = omega (arith, f.most) in
        rw (rest_whole (f.rest None (subst (λ (j : ℕ). Rest (rest k z j) s at None) w (run_full k.tag k.form s z at h))))

    -- all of s was read: how many there are, and they with blank ones after, if they are enough
    pub list_done : (at < length s → ⊥) → then_some (leb lo n) (n, v) ≡ in_places k (list_dec k lo s)
    list_done h =
        let w = whole (omega (arith, f.inside)) in
        by (leb lo n)
        (λ y. rw (y, w, sofar_count, y, ← sofar_rest, sofar_count))
        (λ q. rw (q, w, sofar_count, q))

-- ---- writing

-- the last of a list, and z where there is none
abbrev pub last_of : {A : Type 0} → A → List A → A
last_of z [] = z
last_of z (c ∷ cs) = last_of c cs

last_snoc : {A : Type 0} (z : A) (a : List A) (c : A) → last_of z (a ++ c ∷ []) ≡ c
last_snoc z [] c = refl
last_snoc z (d ∷ a) c = last_snoc d a c

run_append : {A : Type 0} (t : ℕ) (x : A → Fmt A) (z : A) (a b : List A) → run_enc t x z (a ++ b) ≡ run_enc t x z a ++ run_enc t x (last_of z a) b
run_append t x z [] b = refl
run_append t x z (c ∷ a) b =
    ap (λ (l : List ℕ). tlv_enc t ((x z).enc c) ++ l) (run_append t x c a b)
    ∙ sym (append_assoc (tlv_enc t ((x z).enc c)) (run_enc t x c a) (run_enc t x (last_of c a) b))

-- A writer of x, where a test passes, that was lent the part of b from a on.
module _ (t : Bool) (x b : List ℕ) (a m : ℕ) (e : length b ≡ m) where
  -- it answered a place: the test passed
  pub part_yes : {ys : List ℕ} {k : ℕ} → Puts (guard t x) (mid_of a (m - a) b) ys 0 (Some k) → t ≡ true
  unfolding put
  part_yes {k} p = by t (λ y. y) (λ y. absurd (none-some k (sym (ap (λ (z : List ℕ × Option ℕ). z.1) (puts_is {y = None} (rw y) p).is))))

  -- the test passed, and there was room: x was put
  pub part_put : {ys : List ℕ} {k : ℕ} → Puts (guard t x) (mid_of a (m - a) b) ys 0 (Some k) → t ≡ true → a + length x ≤ m → Put x b (put_mid a (m - a) b ys) a (a + k)
  part_put {ys} {k} p y r =
      subst (λ (m : ℕ). Puts (guard t x) (mid_of a (m - a) b) ys 0 (Some k) → Put x b (put_mid a (m - a) b ys) a (a + k)) e
      (λ p. put_part b a (omega arith) (puts_room (omega (arith, part_room b a (length x) (omega arith))) (puts_is (rw y) p))) p

  -- there was room, and it answered none: the test failed
  pub part_not : {ys : List ℕ} → Puts (guard t x) (mid_of a (m - a) b) ys 0 None → (t ≡ true → a + length x ≤ m) → t ≡ false
  part_not p r =
      by t
      (λ y. absurd (puts_lost {x = x} (omega (arith, ap length (take_all (m - a) (drop a b) (omega (arith, length-drop a b))), length-drop a b, r y)) (puts_is (rw y) p)))
      (λ y. y)

-- Which values are written: a test of each, after the one before it, and of all; and how many octets one takes at most.
pub record Test {A : Type 0} (k : Run A) : Type 0 where
  pub ok : A → A → Bool
  pub all : A → List A → Bool
  pub nil : (z : A) → all z [] ≡ true
  pub cons : (z c : A) (cs : List A) → all z (c ∷ cs) ≡ (ok z c && all c cs)
  pub width : ℕ
  pub fits : (z c : A) → T (ok z c) → length (tlv_enc k.tag ((k.form z).enc c)) ≤ width

module _ {A : Type 0} (k : Run A) (f : Test k) where
  -- the octets of a list, and how many there are at most
  abbrev octets : List A → List ℕ
  octets = run_enc k.tag k.form k.blank.value

  abbrev room : ℕ
  room = f.width * k.places

  all_snoc : (z : A) (cs : List A) (c : A) → f.all z cs ≡ true → f.ok (last_of z cs) c ≡ true → f.all z (cs ++ c ∷ []) ≡ true
  all_snoc z [] c t u = f.cons z c [] ∙ rw (u, f.nil c)
  all_snoc z (d ∷ cs) c t u =
      let t' = true_T _ (sym (f.cons z d cs) ∙ t) in
      f.cons z d (cs ++ c ∷ [])
      ∙ rw (T_true (f.ok z d) (and_l (f.ok z d) (f.all d cs) t'), all_snoc d cs c (T_true (f.all d cs) (and_r (f.ok z d) (f.all d cs) t')) u)

  -- each passes after those before it
  all_at : (z : A) (cs : List A) (i : ℕ) (d : A) → f.all z cs ≡ true → i < length cs → f.ok (last_of z (take i cs)) (get_or cs i d) ≡ true
  all_at z [] i d t h = absurd (not-suc-le-zero h)
  all_at z (c ∷ cs) zero d t h = T_true _ (and_l (f.ok z c) (f.all c cs) (true_T _ (sym (f.cons z c cs) ∙ t)))
  all_at z (c ∷ cs) (suc i) d t h =
      all_at c cs i d (T_true _ (and_r (f.ok z c) (f.all c cs) (true_T _ (sym (f.cons z c cs) ∙ t)))) (le_of_suc-le-suc h)

  -- the octets of a list of which each passes
  pub run_fits : (z : A) (cs : List A) → f.all z cs ≡ true → length (run_enc k.tag k.form z cs) ≤ f.width * length cs
  run_fits z [] t = omega arith
  run_fits z (c ∷ cs) t =
      let t' = true_T _ (sym (f.cons z c cs) ∙ t) in
      let n = run_fits c cs (T_true _ (and_r (f.ok z c) (f.all c cs) t')) in
      let m = f.fits z c (and_l (f.ok z c) (f.all c cs) t') in
      omega (arith, length-append (tlv_enc k.tag ((k.form z).enc c)) (run_enc k.tag k.form c cs), mul-suc f.width (length cs))

  -- the first i values of v pass, and their forms stand at the front of an array that was y; z is the last of them
  pub record Filling (v : List A) (i : ℕ) (y b : List ℕ) (end : ℕ) (z : A) : Type 0 where
    pub good : f.all k.blank.value (take i v) ≡ true
    pub last : z ≡ last_of k.blank.value (take i v)
    pub size : length b ≡ room
    pub short : end ≤ f.width * i
    pub front : Put (octets (take i v)) y b 0 end

  pub filling_none : (v : List A) (y : List ℕ) (z : A) → length y ≡ room → z ≡ k.blank.value → Filling v 0 y y 0 z
  filling_none v y z e w = record { good = f.nil k.blank.value; last = w; size = e; short = omega arith; front = put_nothing (omega arith) }

  module _ {v : List A} {i : ℕ} {y b : List ℕ} {end : ℕ} {z : A} (g : Filling v i y b end z) (d : A) (h : i < length v) (h' : i < k.places)
    where
      abbrev next : List ℕ
      next = tlv_enc k.tag ((k.form z).enc (get_or v i d))

      step : f.width * (i + 1) ≡ f.width * i + f.width
      step = rw (add-one i) (mul-suc f.width i)

      fits : f.ok z (get_or v i d) ≡ true → end + length next ≤ room
      fits o =
          let m : f.width * (i + 1) ≤ room = mul-le-mul_left f.width (omega arith) in
          omega (arith, f.fits z (get_or v i d) (true_T _ o), g.short, step)

      -- one more
      module _ {ys : List ℕ} {n : ℕ} (p : Puts (guard (f.ok z (get_or v i d)) next) (mid_of end (room - end) b) ys 0 (Some n)) where
        ok : f.ok z (get_or v i d) ≡ true
        ok = part_yes (f.ok z (get_or v i d)) next b end room g.size p

        put_next : Put next b (put_mid end (room - end) b ys) end (end + n)
        put_next = part_put (f.ok z (get_or v i d)) next b end room g.size p ok (fits ok)

        pub filling_room : end + n ≤ room
        filling_room = omega (arith, put_next.fits, g.size)

        pub filling_more : Filling v (i + 1) y (put_mid end (room - end) b ys) (end + n) (get_or v i d)
        filling_more =
            let q = put_next in
            let w : take (i + 1) v ≡ take i v ++ (get_or v i d ∷ []) = rw (add-one, take-suc v i d h) in
            let x : octets (take (i + 1) v) ≡ octets (take i v) ++ next =
            ap octets w ∙ run_append k.tag k.form k.blank.value (take i v) (get_or v i d ∷ [])
            ∙ ap (λ (l : List ℕ). octets (take i v) ++ l) (append-nil _ ∙ ap (λ (z : A). tlv_enc k.tag ((k.form z).enc (get_or v i d))) (sym g.last)) in
            record {
              good = rw w (all_snoc k.blank.value (take i v) (get_or v i d) g.good (ap (λ (z : A). f.ok z (get_or v i d)) (sym g.last) ∙ ok));
              last = rw w (sym (last_snoc k.blank.value (take i v) (get_or v i d)));
              size = q.same ∙ g.size;
              short = omega (arith, q.end, f.fits z (get_or v i d) (true_T _ ok), g.short, step);
              front = put_is (sym x) (put_then g.front q);
            }

      -- one does not pass, so that not all of the first m do
      pub filling_bad : {ys : List ℕ} → Puts (guard (f.ok z (get_or v i d)) next) (mid_of end (room - end) b) ys 0 None → (m : ℕ) → i < m → m ≤ length v → f.all k.blank.value (take m v) ≡ false
      filling_bad p m l r =
          let o = part_not (f.ok z (get_or v i d)) next b end room g.size p fits in
          by (f.all k.blank.value (take m v))
          (λ a. absurd (subst T
          (sym (all_at k.blank.value (take m v) i d a (omega (arith, length-take-le m v r)))
          ∙ ap (λ (cs : List A). f.ok (last_of k.blank.value cs) (get_or (take m v) i d)) (take-take i m v (omega arith))
          ∙ ap (λ (z : A). f.ok z (get_or (take m v) i d)) (sym g.last) ∙ ap (f.ok z) (get_or-take m v i d l) ∙ o)
          tt))
          (λ a. a)

  -- all m are there
  module _ {v : List A} {i : ℕ} {y b : List ℕ} {end : ℕ} {z : A} (g : Filling v i y b end z) (m : ℕ) (e : i ≡ m) where
    pub filling_ok : f.all k.blank.value (take m v) ≡ true
    filling_ok = rw e at g.good

    pub filling_all : m ≤ k.places → Filled (octets (take m v)) room b end
    filling_all h =
        let p : Put (octets (take m v)) y b 0 end = rw e at g.front in
        let s : f.width * m ≤ room = mul-le-mul_left f.width h in
        let r : end ≤ f.width * m = rw e at g.short in
        record {
          front = ap (take end) p.buf ∙ take_at (octets (take m v)) (drop end y) end (omega (arith, p.end));
          size = omega (arith, p.end);
          most = omega (arith, p.end);
          inside = omega (arith, p.fits, p.same);
        }

    -- and the array has room for them
    pub filling_inside : m ≤ k.places → end ≤ length b
    filling_inside h = (filling_all h).inside
