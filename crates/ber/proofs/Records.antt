-- A record of any kind: one value under a tag that is all of the octets, the answers of who writes and who reads it, and demand 2 of those.
use mathlib.Core.Path.{◌≡◌, refl, sym, ap, subst, ◌∙◌}
use mathlib.Core.Logic.{◌↔◌}
use mathlib.Core.Bool.{Bool, true, false, ◌&&◌}
use Rattle.std.specs.Prelude.{Option, None, Some, IsSome, Result, Ok, Err}
use mathlib.Core.List.{List, ◌++◌}
use Prim.Native.Nat.{ℕ, ◌+◌, ◌≤◌, ◌<◌}
use native.Mathlib.Omega.{arith}
use lib.Dec.{T, eqb}
use lib.ListN.{length, take, drop}
use lib.Seq.{take_at}
use borrow.Author.Tests.{le-leb, lt-leb}
use Rattle.std.proofs.lemmas.Option.{none-some}
use Rattle.format.specs.Format.{Fmt}
use Rattle.format.proofs.Tests.{by, either, T_true, true_T, and_l, and_r, and_i}
use Rattle.format.specs.Maybe.{bind, guard}
use Rattle.ber.specs.Tlv.{tlv_dec}
use Rattle.ber.specs.Field.{alone}
use Rattle.ber.specs.Read.{read_at}
use Rattle.ber.proofs.Readers.{into, first_at, alone_at}
use Rattle.ber.specs.Write.{put, Puts}
use Rattle.ber.specs.Written.{written}
use Rattle.ber.specs.Answer.{no_record, answer_of}
use Rattle.ber.specs.declared.written.NotWritten.{NotWritten}
use Rattle.ber.specs.declared.written.NotWritten.TheVariants.{OutsideRules, NoRoom}
use Rattle.ber.proofs.Writers.{puts_room, puts_lost}

-- ---- the value that is all of the octets

module _ (t : ℕ) {A : Type 0} (x : Fmt A) (s : List ℕ) where
  pub whole_is : (alone t x).dec s ≡ bind (read_at (tlv_dec t) s 0) (λ q. bind (guard (eqb q.1 (length s)) q.0) x.dec)
  whole_is = alone_at t x s ∙ ap (λ (o : Option (A × ℕ)). bind o (λ q. guard (eqb q.1 (length s)) q.0)) (first_at t x s 0) ∙ go (read_at (tlv_dec t) s 0)
    where
      step : (o : Option A) (n : ℕ) (b : Bool) → eqb n (length s) ≡ b
          → bind {A = A × ℕ} (bind o (λ a. Some (a, n))) (λ q. guard (eqb q.1 (length s)) q.0) ≡ bind {A = Unit {0}} (guard b tt) (λ u. o)
      step None n true e = refl
      step None n false e = refl
      step (Some a) n true e = rw e
      step (Some a) n false e = rw e

      taken : (c : List ℕ) (b : Bool) → bind {A = Unit {0}} (guard b tt) (λ u. x.dec c) ≡ bind (guard b c) x.dec
      taken c true = refl
      taken c false = refl

      go : (o : Option (List ℕ × ℕ))
          → bind {A = A × ℕ} (into x.dec o) (λ q. guard (eqb q.1 (length s)) q.0) ≡ bind o (λ q. bind (guard (eqb q.1 (length s)) q.0) x.dec)
      go None = refl
      go (Some q) = step (x.dec q.0) q.1 (eqb q.1 (length s)) refl ∙ taken q.0 (eqb q.1 (length s))

-- ---- the answers of a writer

-- x is what a writer of records writes where ok: what it answered, and the buffer
pub record Answers (ok : Bool) (x b b' : List ℕ) (r : Result ℕ NotWritten) : Type 0 where
  pub is : ◌≡◌ {A = Result ℕ NotWritten × List ℕ} (r, b') (written ok x b)

pub answer_outside : {ok : Bool} {x b : List ℕ} → ok ≡ false → Answers ok x b b (Err OutsideRules)
unfolding written
answer_outside e = record { is = rw e }

module _ {ok : Bool} (w : ok ≡ true) {x b b' : List ℕ} where
  pub answer_full : Puts (Some x) b b' 0 None → Answers ok x b b' (Err NoRoom)
  unfolding put written
  answer_full p =
      either (length x) (length b)
      (λ k. absurd (puts_lost (omega arith) p))
      (λ k. record {
        is = rw (w, lt-leb (length x) (length b) k) (λ i. (Err NoRoom, (rw (lt-leb (0 + length x) (length b) (omega arith)) at p.is i).0));
      })

  pub answer_done : {n : ℕ} → Puts (Some x) b b' 0 (Some n) → Answers ok x b b' (Ok n)
  unfolding put written
  answer_done {n} p =
      either (length x) (length b)
      (λ k.
      let q = puts_room (omega arith) p in
      let m : n ≡ length x = omega (arith, q.end) in
      let l : b' ≡ x ++ drop (length x) b = q.buf ∙ ap (λ (j : ℕ). x ++ drop j b) m in
      record { is = rw (w, le-leb (length x) (length b) k) (λ i. (Ok (m i), l i)) })
      (λ k. absurd (none-some n (sym (ap (λ (y : List ℕ × Option ℕ). y.1) (rw (lt-leb (0 + length x) (length b) (omega arith)) at p.is)))))

-- s was written to the start of b, and nothing else was changed
abbrev pub Leaves : List ℕ → List ℕ → List ℕ → Result ℕ NotWritten → Type 0
Leaves s b b' r = (r ≡ Ok (length s)) × (b' ≡ s ++ drop (length s) b)

module _ {ok : Bool} {x b b' : List ℕ} {r : Result ℕ NotWritten} (p : Answers ok x b b' r) where
  pub answer_room : ok ≡ true → length x ≤ length b → Leaves x b b' r
  unfolding written
  answer_room t h =
      let q = rw (t, le-leb (length x) (length b) h) at p.is in
      (ap (λ (y : Result ℕ NotWritten × List ℕ). y.0) q, ap (λ (y : Result ℕ NotWritten × List ℕ). y.1) q)

  pub answer_long : ok ≡ true → length b < length x → (r ≡ Err NoRoom) × (b' ≡ b)
  unfolding written
  answer_long t h =
      let q = rw (t, lt-leb (length x) (length b) h) at p.is in
      (ap (λ (y : Result ℕ NotWritten × List ℕ). y.0) q, ap (λ (y : Result ℕ NotWritten × List ℕ). y.1) q)

  pub answer_none : ok ≡ false → r ≡ Err OutsideRules
  unfolding written
  answer_none t = ap (λ (y : Result ℕ NotWritten × List ℕ). y.0) (rw t at p.is)

  -- Ok is the answer only where the test passed and x was written
  pub answer_ok : {n : ℕ} → r ≡ Ok n → T ok × Leaves x b b' r
  unfolding written
  answer_ok {n} z =
      by ok
      (λ t. either (length x) (length b)
      (λ h. (true_T ok t, answer_room t h))
      (λ h. absurd (let q : r ≡ Err NoRoom = ap (λ (y : Result ℕ NotWritten × List ℕ). y.0) (rw (t, lt-leb (length x) (length b) h) at p.is) in cc)))
      (λ t. absurd (let q : r ≡ Err OutsideRules = ap (λ (y : Result ℕ NotWritten × List ℕ). y.0) (rw t at p.is) in cc))

same_Ok : {m n : ℕ} → ◌≡◌ {A = Result ℕ NotWritten} (Ok m) (Ok n) → m ≡ n
same_Ok e = cc

-- ---- demand 2: who reads takes exactly what who writes can write for some record within the rules, and gives that record back

module _ {A : Type 0} (f : Fmt A) (shaped within : A → Bool)
    (exact : (s : List ℕ) (r : A) → (f.dec s ≡ Some r) ↔ (T (shaped r && within r) × (f.enc r ≡ s))) where
  -- Octets s, a record r that the code can hold, any answer of the reader to s, any answer of the writer to r in a buffer with room for s: the reader
  -- takes s as r exactly where r is within the rules and the writer wrote s.
  pub read_written : (s : List ℕ) (r : A) → T (shaped r) → {o : Option A} → o ≡ f.dec s
      → {b b' : List ℕ} {w : Result ℕ NotWritten} → length s ≤ length b → Answers (within r) (f.enc r) b b' w
      → (o ≡ Some r) ↔ (T (within r) × Leaves s b b' w)
  read_written s r t {o} p {b} {b'} {w} room q = (taken, given)
    where
      taken : o ≡ Some r → T (within r) × Leaves s b b' w
      taken e =
          let (g, o) = (exact s r).0 (sym p ∙ e) in
          let i = and_r (shaped r) (within r) g in
          (i, rw o at (answer_room q (T_true (within r) i) (omega (arith, ap length o))))

      given : T (within r) × Leaves s b b' w → o ≡ Some r
      given (i, (z, e)) =
          let (_, (k, g)) = answer_ok q z in
          let m : length (f.enc r) ≡ length s = same_Ok (sym k ∙ z) in
          let h : f.enc r ≡ s =
          sym (take_at (f.enc r) (drop (length (f.enc r)) b) (length (f.enc r)) refl) ∙ ap (take (length (f.enc r))) (sym g ∙ e)
          ∙ take_at s (drop (length s) b) (length (f.enc r)) (sym m) in
          p ∙ (exact s r).1 (and_i (shaped r) (within r) t i, h)

  -- the writer, given room, writes r as s: whatever the buffer, and whatever it answers
  abbrev pub CanWrite : A → List ℕ → Type 0
  CanWrite r s = (b b' : List ℕ) (w : Result ℕ NotWritten) → length s ≤ length b → Answers (within r) (f.enc r) b b' w → Leaves s b b' w

  -- the reader takes s exactly where the writer can write s for some record within the rules; and the record that it gives back is that one
  pub read_some_written : (s : List ℕ) {o : Option A} → o ≡ f.dec s
      → (IsSome o ↔ ((r : A) × T (shaped r) × T (within r) × CanWrite r s)) × ((r : A) → T (shaped r) → T (within r) → CanWrite r s → o ≡ Some r)
  read_some_written s {o} p = ((there o p, λ (r, t, i, c). subst IsSome (sym (back r t i c)) refl), back)
    where
      back : (r : A) → T (shaped r) → T (within r) → CanWrite r s → o ≡ Some r
      back r t i c =
          let z = written (within r) (f.enc r) s in
          let q : Answers (within r) (f.enc r) s z.1 z.0 = record { is = refl } in
          (read_written s r t p (omega arith) q).1 (i, c s z.1 z.0 (omega arith) q)

      there : (o : Option A) → o ≡ f.dec s → IsSome o → (r : A) × T (shaped r) × T (within r) × CanWrite r s
      there None p z = absurd (subst T (sym z) tt)
      there (Some x) p z =
          let (g, _) = (exact s x).0 (sym p) in
          let t = and_l (shaped x) (within x) g in
          (x, t, and_r (shaped x) (within x) g, λ b b' w h q. ((read_written s x t p h q).0 refl).1)

  -- The number that the refusal table has for what the reader answers: 20 exactly where s is the octets of no record within the rules, and 0 exactly
  -- where it is those of one.
  pub read_number : (s : List ℕ) {o : Option A} → o ≡ f.dec s
      → ((answer_of o ≡ no_record) ↔ ((r : A) → T (shaped r && within r) → f.enc r ≡ s → ⊥))
      × ((answer_of o ≡ 0) ↔ ((r : A) × T (shaped r && within r) × (f.enc r ≡ s)))
  read_number s {o} p = go o p
    where
      go : (o : Option A) → o ≡ f.dec s
          → ((answer_of o ≡ no_record) ↔ ((r : A) → T (shaped r && within r) → f.enc r ≡ s → ⊥))
          × ((answer_of o ≡ 0) ↔ ((r : A) × T (shaped r && within r) × (f.enc r ≡ s)))
      go None p = (
        (λ z r t e. none-some r (p ∙ (exact s r).1 (t, e)), λ h. refl),
        (λ z. absurd (omega (arith, z)), λ (r, t, e). absurd (none-some r (p ∙ (exact s r).1 (t, e)))),
      )
      go (Some x) p = let (t, e) = (exact s x).0 (sym p) in ((λ z. absurd (omega (arith, z)), λ h. absurd (h x t e)), (λ z. (x, t, e), λ h. refl))
