-- What a context writes: how long it is, and that it was written.
use mathlib.Core.Path.{◌≡◌, refl, sym, ap, ◌∙◌}
use mathlib.Core.Bool.{true}
use Rattle.std.specs.Prelude.{Option, None, Some, IsSome, Result, Ok}
use Rattle.std.proofs.lemmas.Option.{same_Some}
use Rattle.ber.specs.declared.written.NotWritten.{NotWritten}
use Rattle.ber.proofs.Records.{answer_room}
use mathlib.Core.List.{List, [], ◌∷◌, append-nil}
use Prim.Native.Nat.{ℕ, ◌+◌, ◌-◌, ◌≤◌}
use native.Mathlib.Omega.{arith}
use lib.ListN.{length, take-append-drop}
use borrow.Author.Tests.{eq-eqb, ne_eqb}
use borrow.Rule.Slice.PartMut.{mid_of, put_mid}
use Rattle.ber.specs.Write.{Puts}
use Rattle.ber.proofs.Writers.{put_of, put_then, put_is, put_part, part_room, puts_room, puts_lost}
use Rattle.ber.specs.Private.Wrote.{Put}
use Rattle.scdr.specs.declared.Record.{Record}
use Rattle.scdr.specs.Rules.{within}
use Rattle.scdr.specs.Layout.{scdr}
use Rattle.scdr.specs.Answers.{Writes, size_of, Sizes}
use Rattle.scdr.proofs.Answering.{writes_answers}
use Rattle.profile.specs.declared.Profile.{Profile}
use Rattle.context.specs.declared.Context.{Context}
use Rattle.context.specs.Sound.{slot_ok}
use Rattle.node.specs.declared.Message.{Message}
use Rattle.node.specs.declared.Settings.{Settings}
use Rattle.node.specs.Hear.{closing, change_of, going, goes_on, closed_by, after_closing, hear_with, hear}
use Rattle.node.specs.Step.{stood, marked_octets, octets_of}
use Rattle.node.specs.Private.Premises.{SoundContext, SoundSlot}
use Rattle.node.specs.Private.Range.{slot_next, slot_out, Counts, Stands}

-- ---- a record after its mark

-- there is room for the mark
pub mark_fits : (r : Record) {b b₁ : List ℕ} {at : ℕ} (o : Option ℕ) → at + length (marked_octets r) ≤ length b → Puts (Some (0xC3 ∷ 0x5A ∷ [])) b b₁ at o → IsSome o
unfolding marked_octets
mark_fits r None room m = absurd (puts_lost (omega (arith, room)) m)
mark_fits r (Some a) room m = refl

same_Ok : {m n : ℕ} → ◌≡◌ {A = Result ℕ NotWritten} (Ok m) (Ok n) → m ≡ n
same_Ok e = cc

module _ {r : Record} {b b' : List ℕ} {a : Result ℕ NotWritten} (w : within r ≡ true) (h : length (scdr.enc r) ≤ length b) (p : Writes r b b' a) where
  writes_all : a ≡ Ok (length (scdr.enc r))
  writes_all = (answer_room (writes_answers p) w h).0

  writes_put : {n : ℕ} → a ≡ Ok n → Put (scdr.enc r) b b' 0 n
  writes_put {n} z =
      let e : n ≡ length (scdr.enc r) = same_Ok (sym z ∙ writes_all) in
      put_of (omega arith) (omega arith) ((answer_room (writes_answers p) w h).1 ∙ rw (← e))

module _ (r : Record) {b b₁ : List ℕ} {at a : ℕ} (w : within r ≡ true) (room : at + length (marked_octets r) ≤ length b)
    (m : Puts (Some (0xC3 ∷ 0x5A ∷ [])) b b₁ at (Some a)) where
  marked_put : Put (0xC3 ∷ 0x5A ∷ []) b b₁ at a
  unfolding marked_octets
  marked_put = puts_room (omega (arith, room)) m

  record MarkedAt : Type 0 where
    place : a ≡ at + 2
    same : length b₁ ≡ length b
    room_left : a + length (scdr.enc r) ≤ length b₁

  marked_at : MarkedAt
  unfolding marked_octets
  marked_at =
      let p = marked_put in
      let e = p.end in
      let s = p.same in
      record { place = omega arith; same = s; room_left = omega (arith, room) }

  pub part_starts : a ≤ length b₁
  part_starts = omega (arith, marked_at.room_left)

  module _ {ys : List ℕ} {res : Result ℕ NotWritten} (p : Writes r (mid_of a (length b₁ - a) b₁) ys res) where
    pub record_written : res ≡ Ok (length (scdr.enc r))
    record_written = writes_all w (part_room b₁ a (length (scdr.enc r)) marked_at.room_left) p

  module _ {ys : List ℕ} {res : Result ℕ NotWritten} (p : Writes r (mid_of a (length b₁ - a) b₁) ys res) {n : ℕ} (z : res ≡ Ok n) where
    record_put : Put (scdr.enc r) b₁ (put_mid a (length b₁ - a) b₁ ys) a (a + n)
    record_put = put_part b₁ a part_starts (writes_put w (part_room b₁ a (length (scdr.enc r)) marked_at.room_left) p z)

    pub marked_record : Put (marked_octets r) b (put_mid a (length b₁ - a) b₁ ys) at (a + n)
    unfolding marked_octets
    marked_record = put_then marked_put record_put

    pub end_fits : a + n ≤ length b
    end_fits = marked_record.fits

-- ---- what an active context does

module _ (p : Profile) (gs : Settings) (c : Context) (t : ℕ) (m : Message) where
  pub hear_closes : {cause : ℕ} → closing c.current t m ≡ Some cause
      → hear p gs c t m ≡ record { next = after_closing p gs c t m; out = closed_by p c t m cause ∷ [] }
  unfolding hear hear_with
  hear_closes e = rw e

  pub hear_on : closing c.current t m ≡ None
      → hear p gs c t m ≡ record { next = Some (going c (goes_on p c.current t m (change_of c.current m)) c.closed); out = [] }
  unfolding hear hear_with
  hear_on e = rw e

  pub octets_closes : {cause : ℕ} → closing c.current t m ≡ Some cause → octets_of (hear p gs c t m).out ≡ marked_octets (closed_by p c t m cause)
  unfolding octets_of
  octets_closes {cause} e = rw (hear_closes e) (append-nil (marked_octets (closed_by p c t m cause)))

  pub octets_on : closing c.current t m ≡ None → octets_of (hear p gs c t m).out ≡ []
  unfolding octets_of
  octets_on e = rw (hear_on e)

  -- the record that closes is within the rules, so that it has a size
  module _ {cause : ℕ} {r : Record} {o : Option ℕ} (e : closing c.current t m ≡ Some cause) (i : r ≡ closed_by p c t m cause)
      (w : within (closed_by p c t m cause) ≡ true) (s : Sizes r o) where
    size_is : o ≡ Some (length (scdr.enc (closed_by p c t m cause)))
    unfolding size_of
    size_is = s.is ∙ rw (i, w)

    pub has_size : IsSome o
    has_size = rw size_is

    pub counts_closes : {n : ℕ} → o ≡ Some n → Counts (octets_of (hear p gs c t m).out) (2 + n)
    unfolding marked_octets
    counts_closes {n} k =
        let z : n ≡ length (scdr.enc (closed_by p c t m cause)) = same_Some _ _ (sym k ∙ size_is) in
        let most : n ≤ 1024 = rw k at s.most in
        record { is = rw (octets_closes e) (omega arith); most = omega arith }

  pub counts_on : closing c.current t m ≡ None → Counts (octets_of (hear p gs c t m).out) 0
  counts_on e = record { is = rw (octets_on e); most = omega arith }

  -- room for what it writes is room for the record
  pub room_closes : (at : ℕ) {cause : ℕ} {r : Record} {n : ℕ} → closing c.current t m ≡ Some cause → r ≡ closed_by p c t m cause
      → at + length (octets_of (hear p gs c t m).out) ≤ n → at + length (marked_octets r) ≤ n
  room_closes at e i k = rw i (rw (octets_closes e) at k)

  pub turns_closes : {cause : ℕ} {r : Record} {d : Context} {b b' : List ℕ} {at next : ℕ} → closing c.current t m ≡ Some cause
      → r ≡ closed_by p c t m cause
      → d ≡ stood (after_closing p gs c t m) → Put (marked_octets r) b b' at next
      → Stands (stood (hear p gs c t m).next) (octets_of (hear p gs c t m).out) b b' at d next
  turns_closes e i j q = record { value = rw (hear_closes e) j; written = put_is (ap marked_octets i ∙ sym (octets_closes e)) q }

  pub turns_on : {d : Context} {b : List ℕ} {at : ℕ} → closing c.current t m ≡ None
      → d ≡ going c (goes_on p c.current t m (change_of c.current m)) c.closed → at ≤ length b
      → Stands (stood (hear p gs c t m).next) (octets_of (hear p gs c t m).out) b b at d at
  turns_on {b = b} e j k = record { value = rw (hear_on e) j; written = put_is (sym (octets_on e)) (put_none k) }
    where
      put_none : {b : List ℕ} {at : ℕ} → at ≤ length b → Put [] b b at at
      put_none {b} {at} h = put_of (omega arith) h (sym (take-append-drop at b) ∙ rw append-nil)

-- ---- a slot

module _ (p : Profile) (gs : Settings) (t : ℕ) (m : Message) (c : Context) where
  pub slot_active : c.active ≡ 1 → (slot_next p gs t m c ≡ stood (hear p gs c t m).next) × (slot_out p gs t m c ≡ octets_of (hear p gs c t m).out)
  unfolding slot_next slot_out
  slot_active e = (rw e, rw e)

  pub slot_free : (c.active ≡ 1 → ⊥) → (slot_next p gs t m c ≡ c) × (slot_out p gs t m c ≡ [])
  unfolding slot_next slot_out
  slot_free e = let f = ne_eqb c.active 1 e in (rw f, rw f)

  pub slot_apt : c.active ≡ 1 → SoundSlot p gs t c → SoundContext p gs t c
  unfolding slot_ok
  slot_apt e s = record { due = s.due; sound = rw (eq-eqb c.active 1 e) at s.sound }

  pub slot_counts : {n : ℕ} → c.active ≡ 1 → Counts (octets_of (hear p gs c t m).out) n → Counts (slot_out p gs t m c) n
  slot_counts e k = rw (slot_active e).1 k

  pub free_counts : (c.active ≡ 1 → ⊥) → Counts (slot_out p gs t m c) 0
  free_counts e = record { is = rw (slot_free e).1; most = omega arith }

  pub slot_turns : {d : Context} {b b' : List ℕ} {at next : ℕ} → c.active ≡ 1
      → Stands (stood (hear p gs c t m).next) (octets_of (hear p gs c t m).out) b b' at d next
      → Stands (slot_next p gs t m c) (slot_out p gs t m c) b b' at d next
  slot_turns e k = record { value = k.value ∙ sym (slot_active e).0; written = put_is (sym (slot_active e).1) k.written }

  pub free_turns : {b : List ℕ} {at : ℕ} → (c.active ≡ 1 → ⊥) → at + length (slot_out p gs t m c) ≤ length b
      → Stands (slot_next p gs t m c) (slot_out p gs t m c) b b at c at
  free_turns {b} {at} e k =
      record {
        value = sym (slot_free e).0;
        written = put_is (sym (slot_free e).1) (put_of (omega arith) (omega (arith, rw (slot_free e).1 at k)) (sym (take-append-drop at b) ∙ rw append-nil));
      }
