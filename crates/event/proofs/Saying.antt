-- What is decoded and the rows of the refusal table: by what the code finds, row after row; and back from what is decoded.
use mathlib.Core.Path.{◌≡◌, refl, sym, ap, subst}
use mathlib.Core.Bool.{Bool, true, false, cond}
use mathlib.Core.List.{List}
use Rattle.std.specs.Prelude.{None, Some, Result, Ok, Err, MatchResult}
use Rattle.std.specs.Bool.{then_some}
use Prim.Native.Nat.{ℕ, ◌≤◌, ◌<◌}
use native.Mathlib.Omega.{arith}
use lib.Dec.{eqb}
use lib.ListN.{length}
use borrow.Author.Tests.{lt-ltb, le-ltb, eq-eqb, ne_eqb}
use Rattle.event.specs.Fields.{time_of}
use Rattle.event.specs.Kinds.{Kind, row_of, is_row, the_row, whole_of}
use Rattle.event.specs.Rows.{first_fit, rows, marked, known, measured, fields_ok, number_of, refusal_of}
use Rattle.event.specs.Event.{event_of, said_by, decoded}
use Rattle.event.specs.Private.ByKind.{said_in}
use Rattle.event.specs.declared.Event.{Event}
use Rattle.event.specs.declared.Refusal.{Refusal}
use Rattle.event.specs.declared.Refusal.TheVariants.{TooShort, NoMark, UnknownKind, WrongLength, OutOfRange}

-- ---- something that is there where a test passes

none_false : {A : Type 0} (b : Bool) (a : A) → then_some b a ≡ None → b ≡ false
none_false true a e = absurd (cc)
none_false false a e = refl

some_true : {A : Type 0} (b : Bool) (a x : A) → then_some b a ≡ Some x → (b ≡ true) × (a ≡ x)
some_true true a x e = (refl, cc)
some_true false a x e = absurd (cc)

-- ---- one row after another

pub too_short : (s : List ℕ) → length s < 7 → Err TooShort ≡ decoded s
unfolding decoded said_by refusal_of first_fit rows
too_short s h = rw (lt-ltb (length s) 7 h)

module _ (s : List ℕ) (h : 7 ≤ length s) where
  pub no_mark : marked s ≡ false → Err NoMark ≡ decoded s
  unfolding decoded said_by refusal_of first_fit rows
  no_mark m = rw (le-ltb (length s) 7 h, m)

  module _ (m : marked s ≡ true) where
    pub unknown_kind : row_of s ≡ None → Err UnknownKind ≡ decoded s
    unfolding decoded said_by refusal_of first_fit rows known
    unknown_kind k = rw (le-ltb (length s) 7 h, m, k)

    module _ (k : Kind) (r : row_of s ≡ Some k) where
      there : known s ≡ true
      unfolding known
      there = ap is_row r

      long : measured s ≡ eqb (length s) (k.whole s)
      unfolding measured whole_of
      long = ap (λ o. eqb (length s) ((the_row o).whole s)) r

      right : fields_ok s ≡ k.in_range s
      unfolding fields_ok
      right = ap (λ o. (the_row o).in_range s) r

      pub wrong_length : (length s ≡ k.whole s → ⊥) → Err WrongLength ≡ decoded s
      unfolding decoded said_by refusal_of first_fit rows
      wrong_length l = rw (le-ltb (length s) 7 h, m, there, long, ne_eqb (length s) (k.whole s) l)

      module _ (l : length s ≡ k.whole s) where
        pub out_of_range : said_in k s ≡ None → Err OutOfRange ≡ decoded s
        unfolding decoded said_by refusal_of first_fit rows
        out_of_range e =
            rw (le-ltb (length s) 7 h, m, there, long, eq-eqb (length s) (k.whole s) l, right, none_false (k.in_range s) (k.says s) e)

        pub said_is : {t : ℕ} {e : Event} → t ≡ time_of s → said_in k s ≡ Some e → Ok (t, e) ≡ decoded s
        unfolding decoded said_by first_fit rows event_of
        said_is {e = e} p q =
            let x = some_true (k.in_range s) (k.says s) e q in
            rw (le-ltb (length s) 7 h, m, there, long, eq-eqb (length s) (k.whole s) l, right, x.0, p, sym x.1, ap (λ o. (the_row o).says s) r)

-- ---- back

-- where something is said no row fits, and it is what the octets say; else the refusal has the number of the first that fits
abbrev Answered : List ℕ → ℕ → Result (ℕ × Event) Refusal → Type 0
Answered s n r = MatchResult r (λ x. (n ≡ 0) × (x ≡ (time_of s, event_of s))) (λ e. n ≡ number_of e)

by_row : (a b c d e : Bool) (s : List ℕ) →
    let n : ℕ = cond a 1 (cond b 2 (cond c 3 (cond d 4 (cond e 5 0)))) in Answered s n (said_by n s)
unfolding said_by refusal_of
by_row true b c d e s = refl
by_row false true c d e s = refl
by_row false false true d e s = refl
by_row false false false true e s = refl
by_row false false false false true s = refl
by_row false false false false false s = (refl, refl)

answered : (s : List ℕ) → Answered s (first_fit (rows s)) (decoded s)
unfolding decoded first_fit rows
answered s = by_row _ _ _ _ _ s

-- what is said, no row fits
pub none_fits : (s : List ℕ) {t : ℕ} {e : Event} → decoded s ≡ Ok (t, e) → first_fit (rows s) ≡ 0
none_fits s h = (subst (Answered s (first_fit (rows s))) h (answered s)).0

pub says_so : (s : List ℕ) {t : ℕ} {e : Event} → decoded s ≡ Ok (t, e) → (t ≡ time_of s) × (e ≡ event_of s)
says_so s h = let w = (subst (Answered s (first_fit (rows s))) h (answered s)).1 in (ap (λ x. x.0) w, ap (λ x. x.1) w)

-- a refusal's number is that of the first row that fits
pub row_fits : (s : List ℕ) {r : Refusal} → decoded s ≡ Err r → first_fit (rows s) ≡ number_of r
row_fits s h = subst (Answered s (first_fit (rows s))) h (answered s)

-- and it is one
pub numbered : (r : Refusal) → number_of r ≡ 0 → ⊥
numbered TooShort e = omega arith
numbered NoMark e = omega arith
numbered UnknownKind e = omega arith
numbered WrongLength e = omega arith
numbered OutOfRange e = omega arith
