-- Laws of the time stamp: what is written reads back, so the reader takes exactly what some time and zone in range give. Assumes
-- nothing.
use mathlib.Core.Path.{◌≡◌, refl, sym, ap, ◌∙◌, subst}
use mathlib.Core.Bool.{Bool, true, false, ◌&&◌}
use mathlib.Core.List.{List, [], ◌∷◌}
use Prim.Native.Nat.{ℕ, ◌+◌, ◌-◌, ◌*◌, ◌/◌, ◌%◌, ◌≤◌, ◌<◌}
use native.Mathlib.Omega.{arith}
use lib.Dec.{T, leb, ltb, ltb→lt, leb→le}
use lib.ListN.{length, get_or}
use borrow.Author.Tests.{ltb-true, ltb-false, le-ltb}
use Rattle.format.specs.Format.{Law, eqs}
use Rattle.format.proofs.Formats.{checked_law, eqs_refl, eqs_eq}
use Rattle.format.proofs.Tests.{by, and_l, and_r, T_true, true_T}
use Rattle.calendar.specs.declared.Stamp.{Stamp}
use Rattle.std.specs.Prelude.{None, Some, IsTrue, ◌↔◌}
use Rattle.std.specs.Bool.{then_some}
use Rattle.calendar.specs.Month.{month_len, first_day, month_day}
use Rattle.calendar.specs.Stamp.{
  stamp_ok,
  octets_of,
  stamp_enc,
  stamp_val,
  stamp,
  bcd,
  unbcd,
  sign,
  away,
  month_val,
  clock_val,
  zone_val,
}
use Rattle.calendar.proofs.Months.{lies, past, month_there, place_there}

-- ---- each part reads back

digits_back : (n : ℕ) → unbcd (bcd n) ≡ n
digits_back n = omega arith

month_back : (k : ℕ) → month_val (bcd (k / 12)) (bcd (k % 12 + 1)) ≡ k
month_back k = rw (digits_back (k / 12), digits_back (k % 12 + 1)) (omega arith)

clock_back : (c : ℕ) → clock_val (bcd (c / 3600)) (bcd (c / 60 % 60)) (bcd (c % 60)) ≡ c
clock_back c = rw (digits_back (c / 3600), digits_back (c / 60 % 60), digits_back (c % 60)) (omega arith)

size_back : (n : ℕ) → unbcd (bcd (n / 60)) * 60 + unbcd (bcd (n % 60)) ≡ n
size_back n = rw (digits_back (n / 60), digits_back (n % 60)) (omega arith)

zone_back : (z : ℕ) → zone_val (sign z) (bcd (away z / 60)) (bcd (away z % 60)) ≡ z
zone_back z =
    by (ltb z 720)
    (λ a. rw (a, size_back (720 - z)) (omega (arith, ltb-true z 720 a)))
    (λ a. rw (a, size_back (z - 720)) (omega (arith, ltb-false z 720 a)))

-- a zone in range is at most 14 hours away
pub away_known : (z : ℕ) → z ≤ 1560 → away z ≤ 840
away_known z h = by (ltb z 720) (λ a. rw a (omega arith)) (λ a. rw a (omega arith))

-- ---- the whole does

module _ (t : Stamp) (h : T (stamp_ok t)) where
  -- a time in range lies on a day of 2000 to 2099
  pub day_known : t.seconds / 86400 < 36525
  unfolding stamp_ok
  day_known = omega (arith, ltb→lt t.seconds 3155760000 (and_l (ltb t.seconds 3155760000) (leb t.zone 1560) h))

  pub zone_known : t.zone ≤ 1560
  unfolding stamp_ok
  zone_known = leb→le t.zone 1560 (and_r (ltb t.seconds 3155760000) (leb t.zone 1560) h)

  stamp_back : stamp_val (stamp_enc t) ≡ t
  unfolding stamp_enc stamp_val
  stamp_back =
      let m = month_day (t.seconds / 86400) in
      let c = t.seconds % 86400 in
      let s : (first_day (month_val (bcd (m.0 / 12)) (bcd (m.0 % 12 + 1))) + (unbcd (bcd (m.1 + 1)) - 1)) * 86400
      + clock_val (bcd (c / 3600)) (bcd (c / 60 % 60)) (bcd (c % 60)) ≡ t.seconds
      = rw (month_back m.0, digits_back (m.1 + 1), clock_back c) (omega (arith, (lies (t.seconds / 86400) day_known).starts)) in
      λ i. record { seconds = s i; zone = zone_back t.zone i }

pub length_stamp : (t : Stamp) → length (stamp_enc t) ≡ 9
unfolding stamp_enc
length_stamp t = refl

pub stamp_law : Law stamp
stamp_law = checked_law stamp_ok stamp_enc stamp_val 9 stamp_back (λ t g. omega (arith, length_stamp t))

-- ---- what the writer answers

-- what nine calls gave are the octets of month k, place p, second c of the day and zone z
pub nine : (k p c z : ℕ) {w a b d e f g h i j : ℕ} → w ≡ away z → a ≡ bcd (k / 12) → b ≡ bcd (k % 12 + 1) → d ≡ bcd (p + 1)
    → e ≡ bcd (c / 3600) → f ≡ bcd (c / 60 % 60) → g ≡ bcd (c % 60) → h ≡ sign z → i ≡ bcd (w / 60) → j ≡ bcd (w % 60)
    → a ∷ b ∷ d ∷ e ∷ f ∷ g ∷ h ∷ i ∷ j ∷ [] ≡ octets_of (k, p) c z
nine k p c z w a b d e f g h i j =
    let i' = i ∙ ap (λ (x : ℕ). bcd (x / 60)) w in
    let j' = j ∙ ap (λ (x : ℕ). bcd (x % 60)) w in
    λ l. a l ∷ b l ∷ d l ∷ e l ∷ f l ∷ g l ∷ h l ∷ i' l ∷ j' l ∷ []

-- those of its own date and second are a time's form
pub form_of : (t : Stamp) {k p c : ℕ} {o : List ℕ} → k ≡ (month_day (t.seconds / 86400)).0 → p ≡ (month_day (t.seconds / 86400)).1 → c ≡ t.seconds % 86400
    → o ≡ octets_of (k, p) c t.zone → o ≡ stamp_enc t
unfolding stamp_enc
form_of t k p c e = e ∙ (λ i. octets_of (k i, p i) (c i) t.zone)

module _ (t : Stamp) where
  pub stamped_yes : {o : List ℕ} → stamp_ok t ≡ true → o ≡ stamp_enc t → Some o ≡ then_some (stamp_ok t) (stamp_enc t)
  stamped_yes h e = rw (h, e)

  pub stamped_no : stamp_ok t ≡ false → None ≡ then_some {T = List ℕ} (stamp_ok t) (stamp_enc t)
  stamped_no h = rw h

  -- and back: where there are octets the time is in range, and they are its form
  pub stamped_some : {o : List ℕ} → Some o ≡ then_some (stamp_ok t) (stamp_enc t) → (stamp_ok t ≡ true) × (o ≡ stamp_enc t)
  stamped_some e = by (stamp_ok t) (λ h. (h, let x = rw h at e in cc)) (λ h. absurd (let x = rw h at e in cc))

  pub stamped_none : None ≡ then_some {T = List ℕ} (stamp_ok t) (stamp_enc t) → stamp_ok t ≡ false
  stamped_none e = by (stamp_ok t) (λ h. absurd (let x = rw h at e in cc)) (λ h. h)

-- ---- what the reader answers

-- octets that say a value out of range are no time
out : (s : List ℕ) → stamp_ok (stamp_val s) ≡ false → None ≡ stamp.dec s
out s h = rw h

-- octets that are not those of what they say are no time
differ : (s : List ℕ) → (stamp_enc (stamp_val s) ≡ s → ⊥) → None ≡ stamp.dec s
differ s n = rw (both_not (stamp_ok (stamp_val s)) (eqs (stamp_enc (stamp_val s)) s) (λ t. n (eqs_eq (stamp_enc (stamp_val s)) s t)))
  where
    both_not : (a b : Bool) → (T b → ⊥) → (a && b) ≡ false
    both_not true true h = absurd (h tt)
    both_not true false h = refl
    both_not false b h = refl

-- nor are octets that are not nine
pub read_length : (s : List ℕ) → (length s ≡ 9 → ⊥) → None ≡ stamp.dec s
read_length s n = differ s (λ e. n (sym (ap length e) ∙ length_stamp (stamp_val s)))

-- nor those that name a month past 2099
pub read_late : (s : List ℕ) → 1200 ≤ month_val (get_or s 0 0) (get_or s 1 0) → None ≡ stamp.dec s
unfolding stamp_ok stamp_val
read_late s h =
    out s (ap (λ (b : Bool). b && leb (stamp_val s).zone 1560)
    (le-ltb (stamp_val s).seconds 3155760000 (omega (arith, past (month_val (get_or s 0 0) (get_or s 1 0)) h))))

-- A time's octets name its own day, which lies in its month, and its own second, which lies in its day.
module _ (s : List ℕ) (h : stamp_ok (stamp_val s) ≡ true) (e : stamp_enc (stamp_val s) ≡ s) where
  day_said : unbcd (get_or s 2 0) - 1 < month_len (month_val (get_or s 0 0) (get_or s 1 0))
  unfolding stamp_enc
  day_said =
      let v = stamp_val s in
      let m = month_day (v.seconds / 86400) in
      let a = subst (λ (l : List ℕ). month_val (get_or l 0 0) (get_or l 1 0) ≡ m.0) e (month_back m.0) in
      let b = subst (λ (l : List ℕ). unbcd (get_or l 2 0) ≡ m.1 + 1) e (digits_back (m.1 + 1)) in
      let q = ap month_len a in
      omega (arith, (lies (v.seconds / 86400) (day_known v (true_T _ h))).inside)

  clock_said : clock_val (get_or s 3 0) (get_or s 4 0) (get_or s 5 0) < 86400
  unfolding stamp_enc
  clock_said =
      let c = (stamp_val s).seconds % 86400 in
      let a = subst (λ (l : List ℕ). clock_val (get_or l 3 0) (get_or l 4 0) (get_or l 5 0) ≡ c) e (clock_back c) in
      omega arith

-- so octets that name a day past its month, or a second past its day, are no time
unless : (s : List ℕ) → (stamp_ok (stamp_val s) ≡ true → stamp_enc (stamp_val s) ≡ s → ⊥) → None ≡ stamp.dec s
unless s n = by (stamp_ok (stamp_val s)) (λ h. differ s (n h)) (out s)

pub read_day : (s : List ℕ) {k n p : ℕ} → k ≡ month_val (get_or s 0 0) (get_or s 1 0) → n ≡ month_len k → p ≡ unbcd (get_or s 2 0) - 1
    → n ≤ p → None ≡ stamp.dec s
read_day s a b c n = let q = ap month_len a in unless s (λ h e. omega (arith, day_said s h e))

pub read_clock : (s : List ℕ) {c : ℕ} → c ≡ clock_val (get_or s 3 0) (get_or s 4 0) (get_or s 5 0) → 86400 ≤ c → None ≡ stamp.dec s
read_clock s a n = unless s (λ h e. omega (arith, clock_said s h e))

-- ---- what was put together of the octets' parts: month k, which begins on day f and has n days, day p of it, second c and zone z

-- its octets are made of the same parts
form_there : (f k p c z : ℕ) {o : List ℕ} → k < 1200 → f ≡ first_day k → p < month_len k → c < 86400 → o ≡ octets_of (k, p) c z
    → o ≡ stamp_enc (record { seconds = (f + p) * 86400 + c; zone = z })
form_there f k p c z h e l u =
    let d : first_day k + p ≡ ((f + p) * 86400 + c) / 86400 = omega arith in
    form_of (record { seconds = (f + p) * 86400 + c; zone = z })
    (sym (month_there k p h l) ∙ ap (λ (x : ℕ). (month_day x).0) d)
    (sym (place_there k p h l) ∙ ap (λ (x : ℕ). (month_day x).1) d)
    (omega arith)

module _ (s : List ℕ) {k f p c z : ℕ} (a : k ≡ month_val (get_or s 0 0) (get_or s 1 0)) (b : f ≡ first_day k) (d : p ≡ unbcd (get_or s 2 0) - 1)
    (u : c ≡ clock_val (get_or s 3 0) (get_or s 4 0) (get_or s 5 0)) (v : z ≡ zone_val (get_or s 6 0) (get_or s 7 0) (get_or s 8 0)) where
  abbrev time : Stamp
  time = record { seconds = (f + p) * 86400 + c; zone = z }

  -- it is what they say
  said : time ≡ stamp_val s
  unfolding stamp_val
  said = let g = b ∙ ap first_day a in λ i. record { seconds = (g i + d i) * 86400 + u i; zone = v i }

  pub read_out : stamp_ok time ≡ false → None ≡ stamp.dec s
  read_out h = out s (ap stamp_ok (sym said) ∙ h)

  -- in range, and with the octets o, which are those of the time or are not
  module _ (h : k < 1200) {n : ℕ} (e : n ≡ month_len k) (l : p < n) (g : c < 86400) (r : stamp_ok time ≡ true) {o : List ℕ} (w : o ≡ octets_of (k, p) c z) where
    again : o ≡ stamp_enc (stamp_val s)
    again = form_there f k p c z h b (omega (arith, e)) g w ∙ ap stamp_enc said

    there : o ≡ s → Some time ≡ stamp.dec s
    there q =
        let x = ap stamp_ok (sym said) ∙ r in
        let y = T_true (eqs (stamp_enc (stamp_val s)) s) (subst (λ (z : List ℕ). T (eqs z s)) (sym (sym again ∙ q)) (eqs_refl s)) in
        rw (x, y) (ap Some said)

    -- by a test of the two
    pub read : (b : Bool) → (IsTrue b ↔ (o ≡ s)) → then_some b time ≡ stamp.dec s
    read true q = there (q.0 refl)
    read false q = differ s (λ e. let x : ◌≡◌ {A = Bool} false true = q.1 (again ∙ e) in absurd (cc))
