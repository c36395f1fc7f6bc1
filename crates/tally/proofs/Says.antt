-- What a record says of a name, by what the readers of its fields answer.
use Rattle.std.proofs.Common.{◌≡◌, ℕ, ◌≤◌, eqb, List, length, drop, sym, refl, ap, ◌∙◌, arith, length-append, eq-eqb, ne_eqb}
use Rattle.std.specs.Prelude.{Option, None, Some, Result, Ok, Err}
use Rattle.std.specs.Result.{IsErrAnd}
use Rattle.format.specs.Maybe.{bind}
use Rattle.format.proofs.Tests.{by}
use Rattle.ber.specs.Int.{counted}
use Rattle.ber.specs.Count.{counts}
use Rattle.ber.specs.Field.{maybe, or_zero}
use Rattle.ber.specs.Read.{read_at}
use Rattle.ber.specs.Read as read
use Rattle.ber.proofs.Tables.{row_leaves}
use Rattle.ber.proofs.Readers.{here_yes, Leaves, read_missing, read_found}
use Rattle.scdr.specs.Table.{ChargingId, Ggsn}
use Rattle.tally.specs.Seek.{Sought, before, unfit, seek}
use Rattle.tally.specs.Say.{Saying, other, carries, broken, found, like, number_read, say_number, say_ggsn, say_of}
use Rattle.tally.specs.Private.Places.{sought_in, said_in}
use Rattle.tally.proofs.Seeks.{seek_short, StopsAt, stops_unfit}

-- the number that was found, 0 for none
abbrev number_at : Option (ℕ × ℕ) → ℕ
number_at None = 0
number_at (Some p) = p.0

-- an error that is handed on
pub err_is : (r : Result (Option ℕ) ℕ) (p : ℕ) → IsErrAnd r (λ e. e ≡ p) → r ≡ Err p
err_is (Ok x) p h = absurd h
err_is (Err e) p h = ap {B = Result (Option ℕ) ℕ} Err h

-- a field's length does not fit
pub says_unfit : (c : List ℕ) (t at : ℕ) {z : Result ℕ ℕ} {p : ℕ} (f : List ℕ → Saying) → z ≡ sought_in c (seek t (drop at c)) → z ≡ Err p
    → Err p ≡ said_in c (found (seek t (drop at c)) f)
says_unfit c t at f e n =
    let (r, d, k) = stops_unfit c t at e n in
    ap {B = Result (Option ℕ) ℕ} Err k ∙ ap (λ (o : Sought). said_in c (found o f)) (sym d)

-- a field that has to have a value
module _ {c : List ℕ} {t at p : ℕ} {x : List ℕ → Option (ℕ × List ℕ)} (l : Leaves x) (w : ℕ) (f : List ℕ → Saying) (k : StopsAt c t at p) where
  pub says_none : read_at x c p ≡ None → found (seek t (drop at c)) (λ r. like (x r) w f) ≡ other
  says_none e = rw (k.is, read_missing x c p k.inside e)

  module _ {v next : ℕ} (e : read_at x c p ≡ Some (v, next)) where
    pub says_other : (v ≡ w → ⊥) → found (seek t (drop at c)) (λ r. like (x r) w f) ≡ other
    says_other n = rw (k.is, (read_found x c p l e).2, ne_eqb v w n)

    pub says_same : v ≡ w → found (seek t (drop at c)) (λ r. like (x r) w f) ≡ f (drop next c)
    says_same n = rw (k.is, (read_found x c p l e).2, eq-eqb v w n)

-- the number that is read
number_read_is : (c : List ℕ) (t p : ℕ) → p ≤ length c → number_read (maybe t counted (drop p c)) ≡ number_at (read_at (counts t) c p)
unfolding counts read_at
number_read_is c t p h = rw (here_yes c p h) (go (maybe t counted (drop p c)))
  where
    go : (o : Option (Option ℕ × List ℕ)) → number_read o ≡ number_at (read.found c (bind o (λ q. Some (or_zero q.0, q.1))))
    go None = refl
    go (Some q) = refl

pub number_some : (c : List ℕ) (t p : ℕ) {v next : ℕ} → p ≤ length c → read_at (counts t) c p ≡ Some (v, next) → v ≡ number_read (maybe t counted (drop p c))
number_some c t p h e = sym (number_read_is c t p h ∙ ap number_at e)

pub number_none : (c : List ℕ) (t p : ℕ) → p ≤ length c → read_at (counts t) c p ≡ None → 0 ≡ number_read (maybe t counted (drop p c))
number_none c t p h e = sym (number_read_is c t p h ∙ ap number_at e)

-- ---- a field that does not fit is one of the record's

-- which octets are broken, if any are
abbrev pub left_of : Saying → ℕ
left_of other = 0
left_of (carries n) = 0
left_of (broken r) = length r

-- no more than those that were looked at
record Short (f : List ℕ → Saying) : Type 0 where
  is : (s : List ℕ) → left_of (f s) ≤ length s

module _ {f : List ℕ → Saying} (h : Short f) where
  short_found : (t : ℕ) → Short (λ s. found (seek t s) f)
  short_found t = record { is = λ s. go s (seek t s) refl }
    where
      go : (s : List ℕ) (o : Sought) → seek t s ≡ o → left_of (found o f) ≤ length s
      go s (before r) e = omega (arith, seek_short t s e, h.is r)
      go s (unfit r) e = seek_short t s e

  short_like : {x : List ℕ → Option (ℕ × List ℕ)} → Leaves x → (w : ℕ) → Short (λ s. like (x s) w f)
  short_like {x} l w = record { is = λ s. go s (x s) refl }
    where
      go : (s : List ℕ) (o : Option (ℕ × List ℕ)) → x s ≡ o → left_of (like o w f) ≤ length s
      go s None e = omega arith
      go s (Some p) e =
          let (y, d) = l.before s p e in
          by (eqb p.0 w) (λ q. rw q (omega (arith, ap length d, length-append y p.1, h.is p.1))) (λ q. rw q (omega arith))

short_number : Short say_number
unfolding say_number
short_number = short_found (record { is = λ s. omega arith }) 0x95

short_ggsn : (ggsn : ℕ) → Short (say_ggsn ggsn)
unfolding say_ggsn
short_ggsn ggsn = short_found (short_like short_number (row_leaves Ggsn) ggsn) 0xAB

short_name : (id ggsn : ℕ) → Short (say_of id ggsn)
unfolding say_of
short_name id ggsn = short_found (short_like (short_ggsn ggsn) (row_leaves ChargingId) id) 0x8A

pub says_short : (id ggsn : ℕ) (s : List ℕ) → left_of (say_of id ggsn s) ≤ length s
says_short id ggsn = (short_name id ggsn).is
