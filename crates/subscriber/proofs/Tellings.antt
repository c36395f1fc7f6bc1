-- What is told of a subscriber, by what it hears: nothing closes, or a record does.
use mathlib.Core.Path.{◌≡◌, refl, sym, ap, ◌∙◌}
use mathlib.Core.Bool.{Bool, true, false, and-true, and-false}
use Rattle.std.specs.Prelude.{Option, None, Some, Result, Ok, Err}
use Rattle.ber.specs.Written.{written}
use Rattle.ber.specs.declared.written.NotWritten.{NotWritten}
use mathlib.Core.List.{List, [], ◌∷◌, append-nil}
use Prim.Native.Nat.{ℕ, ◌+◌, ◌^◌, ◌≤◌, ◌<◌}
use native.Mathlib.Omega.{arith}
use lib.Dec.{leb, ltb}
use lib.ListN.{length}
use borrow.Author.Tests.{lt-ltb, le-ltb, le-leb, lt-leb}
use Rattle.format.proofs.Tests.{by}
use Rattle.profile.specs.declared.Profile.{Profile}
use Rattle.mcdr.specs.declared.Place.{Place}
use Rattle.mcdr.specs.declared.MmRecord.{MmRecord}
use Rattle.mcdr.specs.Change.{same_place}
use Rattle.mcdr.specs.Rules.{within}
use Rattle.subscriber.specs.declared.Subscriber.{Subscriber}
use Rattle.subscriber.specs.declared.Notice.{Notice}
use Rattle.subscriber.specs.declared.Notice.TheVariants.{Moved, Managed, Detached}
use Rattle.subscriber.specs.Subscriber.{place_of}
use Rattle.subscriber.specs.Hear.{opened, listed, record_of, fifteenth, closes_with, hear}
use Rattle.subscriber.specs.Tell.{stood, marked_octets, octets_of, all_within, able, told_of, answer_of, written_of, Tells}
use Rattle.subscriber.specs.Private.Able.{Roomy}
use Rattle.subscriber.specs.Private.Marked.{marked_in, Marks, emit_of, Emits}

-- ---- a record that closes

module _ {r : MmRecord} {b b' : List ℕ} (s z : Subscriber) where
  pub emits_not : {e : NotWritten} → Marks r b b' (Err e) → Emits r s z b b' (answer_of (Err e)) s 0
  unfolding marked_in emit_of written
  emits_not {e} m =
      by (within r)
      (λ w. by (leb (length (marked_octets r)) (length b))
      (λ l. absurd (let q = ap (λ (q : Result ℕ NotWritten × List ℕ). q.0) (rw (w, l) at m.is) in cc))
      (λ l. let q = rw (w, l) at m.is in record { is = rw (w, l) (λ i. (answer_of ((q i).0), (s, (0, (q i).1)))) }))
      (λ w. let q = rw w at m.is in record { is = rw w (λ i. (answer_of ((q i).0), (s, (0, (q i).1)))) })

  pub emits_done : {n : ℕ} → Marks r b b' (Ok n) → Emits r s z b b' 0 z n
  unfolding marked_in emit_of written
  emits_done {n} m =
      by (within r)
      (λ w. by (leb (length (marked_octets r)) (length b))
      (λ l. let q = rw (w, l) at m.is in record { is = rw (w, l) (λ i. (0, (z, (written_of ((q i).0), (q i).1)))) })
      (λ l. absurd (let q = ap (λ (q : Result ℕ NotWritten × List ℕ). q.0) (rw (w, l) at m.is) in cc)))
      (λ w. absurd (let q = ap (λ (q : Result ℕ NotWritten × List ℕ). q.0) (rw w at m.is) in cc))

-- ---- what is told

module _ (p : Profile) (t : ℕ) (m : Notice) (s : Subscriber) where
  -- no place for a change, or no number for a record
  pub tells_full : {b : List ℕ} → 15 ≤ s.count → Tells p t m s b b 13 s 0
  unfolding told_of able
  tells_full h = record { is = rw (le-ltb s.count 15 h) }

  pub tells_last : {b : List ℕ} → 10 ^ 15 ≤ s.closed → Tells p t m s b b 13 s 0
  unfolding told_of able
  tells_last h = record { is = rw (le-ltb s.closed (10 ^ 15) h, and-false (ltb s.count 15)) }

  module _ (y : Roomy s) where
    count_few : ltb s.count 15 ≡ true
    count_few = lt-ltb s.count 15 y.count

    closed_few : ltb s.closed (10 ^ 15) ≡ true
    closed_few = lt-ltb s.closed (10 ^ 15) y.closed

    -- nothing closes
    pub tells_quiet : {b : List ℕ} {z : Subscriber} → hear p s t m ≡ record { next = Some z; out = [] } → Tells p t m s b b 0 z 0
    unfolding told_of able all_within octets_of
    tells_quiet {b} e = record { is = rw (e, count_few, closed_few, le-leb 0 (length b) (omega arith)) }

    -- a record closes
    pub tells_closes : {o : Option Subscriber} {r : MmRecord} {z s' : Subscriber} {b b' : List ℕ} {a w : ℕ}
        → hear p s t m ≡ record { next = o; out = r ∷ [] } → z ≡ stood o → Emits r s z b b' a s' w → Tells p t m s b b' a s' w
    unfolding told_of able all_within octets_of emit_of
    tells_closes {r = r} e k f =
        record { is = f.is ∙ rw (e, count_few, closed_few, and-true (within r), append-nil (marked_octets r), k) }

-- ---- what each closes

module _ (p : Profile) (s : Subscriber) (t : ℕ) where
  pub hears_same : (q : Place) → same_place (place_of s) q ≡ true → hear p s t (Moved q) ≡ record { next = Some s; out = [] }
  unfolding hear
  hears_same q a = rw a

  -- one change more, with another place in force: it stands there, or it is the fifteenth
  module _ (q : Place) {n : Subscriber} (e : n ≡ listed p s t q) (other : same_place (place_of s) q ≡ false) where
    count_more : n.count ≡ s.count + 1
    unfolding listed
    count_more = ap (λ (x : Subscriber). x.count) e

    pub hears_listed : n.count < 15 → hear p s t (Moved q) ≡ record { next = Some n; out = [] }
    unfolding hear fifteenth
    hears_listed h = rw (other, lt-leb 15 (s.count + 1) (omega (arith, count_more)), e)

    pub hears_full : 15 ≤ n.count
        → hear p s t (Moved q) ≡ record { next = Some (opened p s.imsi t q (s.closed + 1)); out = record_of p n t 19 false ∷ [] }
    unfolding hear fifteenth closes_with listed
    hears_full h = rw (other, le-leb 15 (s.count + 1) (omega (arith, count_more)), e)

    pub closed_same : n.closed ≡ s.closed
    unfolding listed
    closed_same = ap (λ (x : Subscriber). x.closed) e

  pub hears_managed : hear p s t Managed ≡ record { next = Some (opened p s.imsi t (place_of s) (s.closed + 1)); out = record_of p s t 20 false ∷ [] }
  unfolding hear closes_with
  hears_managed = refl

  pub hears_detached : (cause : ℕ) → hear p s t (Detached cause) ≡ record { next = None; out = record_of p s t cause true ∷ [] }
  unfolding hear
  hears_detached cause = refl

-- ---- what the code compares

pub compared : (s : Subscriber) (q : Place) {at : Place} {b : Bool} → at ≡ place_of s → b ≡ same_place at q → same_place (place_of s) q ≡ b
compared s q e f = sym (f ∙ ap (λ (x : Place). same_place x q) e)
