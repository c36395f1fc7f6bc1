-- From field to field: a law for each way on, and the loop that goes so.
use Rattle.std.proofs.Common.{◌≡◌, ℕ, zero, suc, ◌+◌, ◌-◌, ◌<◌, ◌≤◌, Bool, true, false, eqb, List, [], ◌∷◌, ◌++◌, length, get_or, drop, sym, refl, ap, ◌∙◌, append_assoc, arith, length-append, length-drop, drop_of_length-le, eq-eqb, ne_eqb}
use Rattle.std.specs.Prelude.{Option, None, Some, Result, Ok, Err}
use Rattle.std.specs.Result.{is_ok}
use Rattle.format.proofs.Tests.{by, either}
use Rattle.ber.specs.Tlv.{tlv_enc, tlv_dec}
use Rattle.ber.proofs.Tlvs.{tlv_sound, tlv_length, head_2}
use Rattle.ber.proofs.Places.{at_cons, rest_at, rest_is, PartIs}
use Rattle.tally.specs.Seek.{Sought, before, unfit, seek_in, seek}
use Rattle.tally.specs.Private.Places.{sought_in}

-- ---- the two ways to stop

abbrev pub rest_of : Sought → List ℕ
rest_of (before r) = r
rest_of (unfit r) = r

before_injective : {r q : List ℕ} → before r ≡ before q → r ≡ q
before_injective e = ap rest_of e

abbrev pub place : Result ℕ ℕ → ℕ
place (Ok n) = n
place (Err n) = n

pub not_both : ◌≡◌ {A = Bool} false true → ⊥
not_both e = let u : ◌≡◌ {A = ℕ} 0 1 = cc in omega arith

-- ---- one step

-- a field has at least two octets
field_long : (t : ℕ) (s : List ℕ) (p : List ℕ × List ℕ) → tlv_dec t s ≡ Some p → length p.1 + 2 ≤ length s
field_long t s p e =
    let w = (tlv_sound t s p e).1 in
    omega (arith, ap length w ∙ length-append (tlv_enc t p.0) p.1, tlv_length t p.0, head_2 (length p.0))

module _ (n t a : ℕ) (s : List ℕ) where
  in_unfit : tlv_dec a (a ∷ s) ≡ None → seek_in (suc n) t (a ∷ s) ≡ unfit (a ∷ s)
  unfolding seek_in
  in_unfit e = rw e

  module _ (p : List ℕ × List ℕ) (e : tlv_dec a (a ∷ s) ≡ Some p) where
    in_here : eqb a t ≡ true → seek_in (suc n) t (a ∷ s) ≡ before (a ∷ s)
    unfolding seek_in
    in_here d = rw (e, d)

    in_next : eqb a t ≡ false → seek_in (suc n) t (a ∷ s) ≡ seek_in n t p.1
    unfolding seek_in
    in_next d = rw (e, d)

in_end : (n t : ℕ) → seek_in n t [] ≡ before []
unfolding seek_in
in_end zero t = refl
in_end (suc n) t = refl

-- more steps than there are octets change nothing
in_none : (n t : ℕ) (s : List ℕ) → length s ≤ 0 → seek_in n t s ≡ before s
in_none n t [] h = in_end n t
in_none n t (a ∷ s) h = absurd (omega arith)

enough : (n m t : ℕ) (s : List ℕ) → length s ≤ n → length s ≤ m → seek_in n t s ≡ seek_in m t s
enough zero m t s h k = in_none zero t s h ∙ sym (in_none m t s h)
enough (suc n) zero t s h k = in_none (suc n) t s k ∙ sym (in_none zero t s k)
enough (suc n) (suc m) t s h k = go s h k (λ r i j. enough n m t r i j)
  where
    Enough : Type 0
    Enough = (r : List ℕ) → length r ≤ n → length r ≤ m → seek_in n t r ≡ seek_in m t r

    step : (a : ℕ) (s : List ℕ) (o : Option (List ℕ × List ℕ)) → tlv_dec a (a ∷ s) ≡ o → length (a ∷ s) ≤ suc n → length (a ∷ s) ≤ suc m → Enough
        → seek_in (suc n) t (a ∷ s) ≡ seek_in (suc m) t (a ∷ s)
    step a s None e h k f = in_unfit n t a s e ∙ sym (in_unfit m t a s e)
    step a s (Some p) e h k f =
        let l = field_long a (a ∷ s) p e in
        by (eqb a t)
        (λ d. in_here n t a s p e d ∙ sym (in_here m t a s p e d))
        (λ d. in_next n t a s p e d ∙ f p.1 (omega arith) (omega arith) ∙ sym (in_next m t a s p e d))

    go : (s : List ℕ) → length s ≤ suc n → length s ≤ suc m → Enough → seek_in (suc n) t s ≡ seek_in (suc m) t s
    go [] h k f = in_end (suc n) t ∙ sym (in_end (suc m) t)
    go (a ∷ s) h k f = step a s (tlv_dec a (a ∷ s)) refl h k f

-- the same of all steps
module _ (t a : ℕ) (s : List ℕ) where
  pub seek_unfit : tlv_dec a (a ∷ s) ≡ None → seek t (a ∷ s) ≡ unfit (a ∷ s)
  unfolding seek
  seek_unfit e = in_unfit (length s) t a s e

  module _ (p : List ℕ × List ℕ) (e : tlv_dec a (a ∷ s) ≡ Some p) where
    pub seek_here : eqb a t ≡ true → seek t (a ∷ s) ≡ before (a ∷ s)
    unfolding seek
    seek_here d = in_here (length s) t a s p e d

    pub seek_next : eqb a t ≡ false → seek t (a ∷ s) ≡ seek t p.1
    unfolding seek
    seek_next d =
        in_next (length s) t a s p e d ∙ enough (length s) (length p.1) t p.1 (let l = field_long a (a ∷ s) p e in omega arith) (omega arith)

pub seek_end : (t : ℕ) → seek t [] ≡ before []
unfolding seek
seek_end t = in_end 0 t

-- ---- by places of s

-- it ends behind its place
pub part_long : {s : List ℕ} {at t from to : ℕ} → PartIs s at t from to → at + 2 ≤ to
part_long {s} {at} {t} {from} {to} w =
    let k = field_long t (drop at s) _ w.is in
    let i = w.inside in
    omega (arith, length-drop at s, length-drop to s)

module _ (t : ℕ) (s : List ℕ) (at : ℕ) (h : at < length s) where
  pub at_unfit : tlv_dec (get_or s at 0) (drop at s) ≡ None → seek t (drop at s) ≡ unfit (drop at s)
  at_unfit e = let c = at_cons s at h in rw c (seek_unfit t (get_or s at 0) (drop (at + 1) s) (rw c at e))

  module _ {from to : ℕ} (w : PartIs s at (get_or s at 0) from to) where
    pub at_here : get_or s at 0 ≡ t → seek t (drop at s) ≡ before (drop at s)
    at_here d = let c = at_cons s at h in rw c (seek_here t (get_or s at 0) (drop (at + 1) s) _ (rw c at w.is) (eq-eqb (get_or s at 0) t d))

    pub at_next : (get_or s at 0 ≡ t → ⊥) → seek t (drop at s) ≡ seek t (drop to s)
    at_next d = let c = at_cons s at h in rw c (seek_next t (get_or s at 0) (drop (at + 1) s) _ (rw c at w.is) (ne_eqb (get_or s at 0) t d))

-- ---- the loop: what is left to look through gives the same

pub record Seeking (s : List ℕ) (from t at : ℕ) : Type 0 where
  pub is : seek t (drop from s) ≡ seek t (drop at s)

module _ {s : List ℕ} {from t at : ℕ} (i : Seeking s from t at) where
  pub seeking_unfit : at < length s → tlv_dec (get_or s at 0) (drop at s) ≡ None
      → Err at ≡ sought_in s (seek t (drop from s))
  seeking_unfit h e = rw (i.is, at_unfit t s at h e, rest_at s at (omega arith))

  pub seeking_here : at < length s → {b e : ℕ} → PartIs s at (get_or s at 0) b e → get_or s at 0 ≡ t
      → Ok at ≡ sought_in s (seek t (drop from s))
  seeking_here h w d = rw (i.is, at_here t s at h w d, rest_at s at (omega arith))

  pub seeking_next : at < length s → {b e : ℕ} → PartIs s at (get_or s at 0) b e → (get_or s at 0 ≡ t → ⊥) → Seeking s from t e
  seeking_next h w d = record { is = i.is ∙ at_next t s at h w d }

  pub seeking_end : length s ≤ at → Ok (length s) ≡ sought_in s (seek t (drop from s))
  seeking_end h =
      let z : length s ≡ length s - 0 = omega arith in
      rw (i.is, drop_of_length-le s h, seek_end t) (ap {B = Result ℕ ℕ} Ok z)

-- ---- what was answered, to who called it

-- what the steps stop before is the end of what they go over
abbrev EndsWith : List ℕ → List ℕ → Type 0
EndsWith r s = (x : List ℕ) × (s ≡ x ++ r)

in_suffix : (n t : ℕ) (s : List ℕ) → EndsWith (rest_of (seek_in n t s)) s
unfolding seek_in
in_suffix zero t s = ([], refl)
in_suffix (suc n) t s = go s (λ q. in_suffix n t q)
  where
    Ends : Type 0
    Ends = (q : List ℕ) → EndsWith (rest_of (seek_in n t q)) q

    step : (a : ℕ) (s : List ℕ) (o : Option (List ℕ × List ℕ)) → tlv_dec a (a ∷ s) ≡ o → Ends → EndsWith (rest_of (seek_in (suc n) t (a ∷ s))) (a ∷ s)
    step a s None d f = rw (in_unfit n t a s d) ([], refl)
    step a s (Some p) d f =
        by (eqb a t)
        (λ q. rw (in_here n t a s p d q) ([], refl))
        (λ q.
        let r = rest_of (seek_in n t p.1) in
        let (x, w) = f p.1 in
        let v = (tlv_sound a (a ∷ s) p d).1 in
        rw (in_next n t a s p d q)
        (tlv_enc a p.0 ++ x, v ∙ ap (λ (y : List ℕ). tlv_enc a p.0 ++ y) w ∙ sym (append_assoc (tlv_enc a p.0) x r)))

    go : (s : List ℕ) → Ends → EndsWith (rest_of (seek_in (suc n) t s)) s
    go [] f = ([], refl)
    go (a ∷ s) f = step a s (tlv_dec a (a ∷ s)) refl f

seek_suffix : (t : ℕ) (s : List ℕ) {o : Sought} → seek t s ≡ o → EndsWith (rest_of o) s
unfolding seek
seek_suffix t s e = let z = in_suffix (length s) t s in rw e at z

pub seek_short : (t : ℕ) (s : List ℕ) {o : Sought} → seek t s ≡ o → length (rest_of o) ≤ length s
seek_short t s {o} e = let (x, w) = seek_suffix t s e in omega (arith, ap length w, length-append x (rest_of o))

-- the steps from a place of c stop at another
pub record StopsAt (c : List ℕ) (t at p : ℕ) : Type 0 where
  pub is : seek t (drop at c) ≡ before (drop p c)
  pub inside : p ≤ length c

module _ (c : List ℕ) (t at : ℕ) where
  stops_before : (r : List ℕ) → seek t (drop at c) ≡ before r → StopsAt c t at (length c - length r)
  stops_before r e =
      either at (length c)
      (λ h.
      let (x, w) = seek_suffix t (drop at c) e in
      let (k, d) = rest_is c at x r w h in
      record { is = e ∙ ap before d; inside = k })
      (λ h.
      let o : seek t (drop at c) ≡ before [] = rw (drop_of_length-le c (let k : length c ≤ at = omega arith in k), seek_end t) in
      let z : r ≡ [] = before_injective (sym e ∙ o) in
      let y : length c ≤ length c - length r = omega (arith, ap length z) in
      record { is = e ∙ ap before (z ∙ sym (drop_of_length-le c y)); inside = omega arith })

  pub stops_at : {z : Result ℕ ℕ} {p : ℕ} → z ≡ sought_in c (seek t (drop at c)) → z ≡ Ok p → StopsAt c t at p
  stops_at {z} {p} e n = go (seek t (drop at c)) refl (sym n ∙ e)
    where
      go : (o : Sought) → seek t (drop at c) ≡ o → Ok p ≡ sought_in c o → StopsAt c t at p
      go (before r) d q = rw (ap place q) (stops_before r d)
      go (unfit r) d q = absurd (not_both (sym (ap is_ok q)))

  pub stops_unfit : {z : Result ℕ ℕ} {p : ℕ} → z ≡ sought_in c (seek t (drop at c)) → z ≡ Err p
      → (r : List ℕ) × (seek t (drop at c) ≡ unfit r) × (p ≡ length c - length r)
  stops_unfit {z} {p} e n = go (seek t (drop at c)) refl (sym n ∙ e)
    where
      go : (o : Sought) → seek t (drop at c) ≡ o → Err p ≡ sought_in c o → (r : List ℕ) × (seek t (drop at c) ≡ unfit r) × (p ≡ length c - length r)
      go (before r) d q = absurd (not_both (ap is_ok q))
      go (unfit r) d q = (r, d, ap place q)
