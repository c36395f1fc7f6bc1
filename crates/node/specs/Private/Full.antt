-- A context whose record is full: what its closing may count on, and what it writes.
use Rattle.std.specs.Prelude.{◌≡◌, true, cond, List, ◌++◌, ℕ, ◌+◌, ◌^◌, ◌<◌, leb, length, drop}
use Rattle.container.specs.Open.{roomy}
use Rattle.scdr.specs.declared.Record.{Record}
use Rattle.scdr.specs.Rules.{within}
use Rattle.profile.specs.declared.Profile.{Profile}
use Rattle.context.specs.declared.Context.{Context}
use Rattle.node.specs.Meaning.{report}
use Rattle.node.specs.Hear.{closed_by}
use Rattle.node.specs.Sound.{most_accepted}
use Rattle.node.specs.Step.{marked_octets}

-- counters that can take so much more, a place for the last container, a number for the record
pub record CanClose (c : Context) (up down : ℕ) : Type 0 where
  pub uplink : c.current.uplink + up < 2 ^ 64
  pub downlink : c.current.downlink + down < 2 ^ 64
  pub place : roomy c.current ≡ true
  pub closed : c.closed < most_accepted

-- and the record that then closes is within the rules
pub record Full (p : Profile) (c : Context) (t up down : ℕ) : Type 0 where
  pub can : CanClose c up down
  pub within : within (closed_by p c t (report up down) 16) ≡ true

-- a record after its mark, from the start of a buffer: how many octets these are, and the buffer; 0 and the same buffer where there is no room
unfoldable pub marked_in : Record → List ℕ → ℕ × List ℕ
marked_in r b =
    let x = marked_octets r in
    cond (leb (length x) (length b)) (length x, x ++ drop (length x) b) (0, b)

pub record Marks (r : Record) (b b' : List ℕ) (n : ℕ) : Type 0 where
  pub is : ◌≡◌ {A = ℕ × List ℕ} (n, b') (marked_in r b)
