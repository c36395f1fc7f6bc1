-- The slot that a list of reports names, by itself: what the reports do to it, pair by pair; and what a list is to do.
use Rattle.std.specs.Prelude.{◌≡◌, true, cond, ◌||◌, List, ℕ, ◌+◌, ◌%◌, ◌≤◌, leb, ltb, eqb, set}
use Rattle.std.specs.Prelude.{Option, None, Some, position, Result, Ok, Err}
use Rattle.container.specs.Open as O
use Rattle.profile.specs.declared.Profile.{Profile}
use Rattle.profile.specs.Profile.{profile_ok}
use Rattle.limits.specs.Sets.{sets_ok}
use Rattle.event.specs.declared.Name.{Name}
use Rattle.context.specs.declared.Context.{Context}
use Rattle.context.specs.Slots.{bears}
use Rattle.context.specs.Sound.{context_ok}
use Rattle.node.specs.declared.Node.{Node}
use Rattle.node.specs.declared.Settings.{Settings}
use Rattle.node.specs.declared.refusal.Refusal.{Refusal}
use Rattle.node.specs.declared.refusal.Refusal.TheVariants.{Time, TooMany, NotActive, Unsound, OddList}
use Rattle.node.specs.Private.Task.{names_of}
use Rattle.node.specs.Meaning.{report}
use Rattle.node.specs.Hear.{going}
use Rattle.node.specs.Sound.{sound, latest, most_accepted}
use Rattle.node.specs.Held.{Shaped}
use Rattle.node.specs.Batch.{Done, pairs_of, one_by_one}
use Rattle.node.specs.Private.Range.{tried_of}

-- ---- the seat: all that reports change of a node

pub record Seat : Type 0 where
  pub clock : ℕ
  pub accepted : ℕ
  -- what stands in the slot
  pub context : Context

-- the node with these, in the slot i
abbrev pub seated : Node → ℕ → Seat → Node
seated n i s = record {
  profile = n.profile;
  settings = n.settings;
  clock = s.clock;
  accepted = s.accepted;
  contexts = set n.contexts i s.context;
  subscribers = n.subscribers;
}

-- k pairs on: the clock moves with the first of them
abbrev pub seat_at : ℕ → ℕ → ℕ → ℕ → Context → Seat
seat_at clock accepted t k c = record { clock = cond (eqb k 0) clock t; accepted = accepted + k; context = c }

abbrev pub moved : Node → ℕ → ℕ → ℕ → Context → Node
moved n i t k c = seated n i (seat_at n.clock n.accepted t k c)

-- ---- one pair, at a time that is due: 7, or what comes of the slot

unfoldable pub seat_then : Seat → ℕ → ℕ × (Context × (ℕ × List ℕ)) → ℕ × (Seat × (ℕ × List ℕ))
seat_then s t r =
    cond (eqb r.0 0)
    (0, (record { clock = t; accepted = s.accepted + 1; context = r.1.0 }, (r.1.1.0, r.1.1.1)))
    (r.0, (s, (0, r.1.1.1)))

unfoldable pub seat_step : Profile → Settings → ℕ → Seat → ℕ × ℕ → List ℕ → ℕ × (Seat × (ℕ × List ℕ))
seat_step p g t s v b = cond (leb most_accepted s.accepted) (7, (s, (0, b))) (seat_then s t (tried_of p g t (report v.0 v.1) s.context b))

-- ---- all pairs of a list

-- a context with more counted in its running container
abbrev pub counted : Context → ℕ → ℕ → Context
counted c up down = going c (O.reported c.current up down) c.closed

-- a context of a sound node, at a time that the node takes
pub record Listens (p : Profile) (g : Settings) (clock accepted : ℕ) (c : Context) (t : ℕ) : Type 0 where
  pub profile : profile_ok p ≡ true
  pub sets : sets_ok p.sets g.sets ≡ true
  pub since : clock ≤ t
  pub until : t ≤ latest
  pub few : accepted ≤ most_accepted
  pub active : c.active ≡ 1
  pub sound : context_ok p.sets p.zone clock accepted c ≡ true
  pub shape : Shaped c

pub record Tells (p : Profile) (g : Settings) (clock accepted : ℕ) (c : Context) (t : ℕ) (vs b b' : List ℕ) (answer applied : ℕ) (d : Context) (written : ℕ) : Type 0 where
  pub is : ◌≡◌ {A = Done Seat}
      (record { answer = answer; applied = applied; left = seat_at clock accepted t applied d; written = written; buffer = b' })
      (one_by_one (seat_step p g t) (seat_at clock accepted t 0 c) (pairs_of vs) b)
  pub few : accepted + applied ≤ most_accepted

-- ---- the slot that a list of k numbers is told to

abbrev pub Telling : Type 0
Telling = Result (Option ℕ) Refusal

abbrev pub tell_at : Option ℕ → Telling
tell_at (Some i) = Ok (Some i)
tell_at None = Err NotActive

-- 6, 7 and 8 of the first pair
unfoldable pub first_pair : Node → Name → ℕ → Telling
first_pair n m t =
    cond (ltb latest t || ltb t n.clock) (Err Time)
    (cond (leb most_accepted n.accepted) (Err TooMany) (tell_at (position (bears m) (names_of n))))

-- 13, then 14, then an empty list
unfoldable pub reports_for : Node → Name → ℕ → ℕ → Telling
reports_for n m t k = cond (sound n) (cond (eqb (k % 2) 1) (Err OddList) (cond (eqb k 0) (Ok None) (first_pair n m t))) (Err Unsound)
