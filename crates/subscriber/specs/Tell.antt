-- What is answered where a subscriber hears something: what stands in its slot then, and the record that it closes, written after its mark.
use Rattle.std.specs.Prelude.{◌≡◌, Bool, true, cond, ◌&&◌, List, [], ◌∷◌, ◌++◌, ℕ, ◌^◌, leb, ltb, length, drop}
use Rattle.std.specs.Prelude.{Option, Result, Ok, Err}
use Rattle.ber.specs.declared.written.NotWritten.{NotWritten}
use Rattle.ber.specs.declared.written.NotWritten.TheVariants.{OutsideRules, NoRoom}
use Rattle.profile.specs.declared.Profile.{Profile}
use Rattle.history.specs.Lists.{each}
use Rattle.history.specs.Slots as S
use Rattle.mcdr.specs.declared.MmRecord.{MmRecord}
use Rattle.mcdr.specs.Rules.{within}
use Rattle.mcdr.specs.Layout.{mcdr}
use Rattle.subscriber.specs.declared.Subscriber.{Subscriber}
use Rattle.subscriber.specs.declared.Notice.{Notice}
use Rattle.subscriber.specs.Subscriber.{no_subscriber}
use Rattle.subscriber.specs.Hear.{hear}

-- "In output each record follows the mark C3 5A."
unfoldable pub marked_octets : MmRecord → List ℕ
marked_octets r = 0xC3 ∷ 0x5A ∷ mcdr.enc r

unfoldable pub octets_of : List MmRecord → List ℕ
octets_of rs = each marked_octets rs

-- what stands in the slot: nothing after a detach
abbrev pub stood : Option Subscriber → Subscriber
stood o = S.stood no_subscriber o

-- each record is within the rules
unfoldable pub all_within : List MmRecord → Bool
all_within [] = true
all_within (r ∷ rs) = within r && all_within rs

-- What any subscriber that hears something can be asked to do: a change more has a place, a record more a number, and what closes is a record
-- within the rules. Every subscriber of a sound node can (proofs/Kept.antt); of another 13 is the answer.
unfoldable pub able : Profile → ℕ → Notice → Subscriber → Bool
able p t m s = ltb s.count 15 && ltb s.closed (10 ^ 15) && all_within (hear p s t m).out

-- The answer, what stands in the slot, the written length and the buffer: 11 where there is no room for the record and its mark. After a
-- refusal all is as it was.
unfoldable pub told_of : Profile → ℕ → Notice → Subscriber → List ℕ → ℕ × (Subscriber × (ℕ × List ℕ))
told_of p t m s b =
    let x = octets_of (hear p s t m).out in
    cond (able p t m s)
    (cond (leb (length x) (length b)) (0, (stood (hear p s t m).next, (length x, x ++ drop (length x) b))) (11, (s, (0, b))))
    (13, (s, (0, b)))

-- the number of an answer: 0 where it is none of a refusal
abbrev pub answer_of : Result ℕ NotWritten → ℕ
answer_of (Ok n) = 0
answer_of (Err NoRoom) = 11
answer_of (Err OutsideRules) = 13

-- and how many octets are written
abbrev pub written_of : Result ℕ NotWritten → ℕ
written_of (Ok n) = n
written_of (Err e) = 0

pub record Tells (p : Profile) (t : ℕ) (m : Notice) (s : Subscriber) (b b' : List ℕ) (answer : ℕ) (s' : Subscriber) (written : ℕ) : Type 0 where
  pub is : ◌≡◌ {A = ℕ × (Subscriber × (ℕ × List ℕ))} (answer, (s', (written, b'))) (told_of p t m s b)
