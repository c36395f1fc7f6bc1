-- An M-CDR within the rules (02, W4), rule by rule.
use Rattle.std.specs.Prelude.{Bool, true, not, cond, ◌&&◌, ◌||◌, List, [], ◌∷◌, ℕ, ◌+◌, ◌^◌, leb, ltb, eqb, length, take, drop}
use Rattle.std.specs.Bool.{beq}
use Rattle.octets.specs.Names.{node_ok}
use Rattle.ber.specs.Imsi.{imsi_ok}
use Rattle.calendar.specs.Stamp.{stamp_ok}
use Rattle.mcdr.specs.declared.Change.{Change}
use Rattle.mcdr.specs.declared.MmRecord.{MmRecord}
use Rattle.mcdr.specs.Change.{place_ok}
use Rattle.mcdr.specs.Changes.{changes_ok, last_time, blanks}

-- its location changes
abbrev pub used : MmRecord → List Change
used r = take r.count r.changes

-- "at most 15 changes, each to another place than the one before (the opening's first), times in order from the opening, one offset
-- throughout", "unused places zero"
unfoldable pub list_rule : MmRecord → Bool
list_rule r = leb r.count 15 && changes_ok r.opening.zone r.opening.seconds r.place (used r) && blanks (drop r.count r.changes)

-- "detach with 0 or 4"
unfoldable pub detach : ℕ → Bool
detach c = eqb c 0 || eqb c 4

-- "16, 17, 18 never"
unfoldable pub cause_ok : ℕ → Bool
cause_ok c = detach c || eqb c 19 || eqb c 20

-- "cause 19 exactly with fifteen changes"
unfoldable pub full_ok : ℕ → ℕ → Bool
full_ok c n = beq (eqb c 19) (eqb n 15)

-- "the closing not before the last change, at it under 19, and within the clock's range": so long after the opening, and the last change then
unfoldable pub closing_ok : ℕ → ℕ → ℕ → ℕ → Bool
closing_ok c opening duration last =
    leb last (opening + duration) && (not (eqb c 19) || eqb (opening + duration) last) && leb (opening + duration) 3155759999

-- number 1 to 10^15, or absent (0): "absent only with 0 or 4, and never 1 with these"
unfoldable pub number_ok : ℕ → ℕ → Bool
number_ok c n = leb n (10 ^ 15) && cond (detach c) (not (eqb n 1)) (leb 1 n)

-- each to a place that is one
unfoldable pub all_places_ok : List Change → Bool
all_places_ok [] = true
all_places_ok (c ∷ cs) = place_ok c.place && all_places_ok cs

-- What the fields' types say of every record that the code can hold: how many octets and places, how wide the numbers.
unfoldable pub shaped : MmRecord → Bool
shaped r =
    eqb (length r.changes) 15 && eqb (length r.nodeid) 20
    && ltb r.sgsn (2 ^ 32) && place_ok r.place && ltb r.duration (2 ^ 32) && all_places_ok r.changes

-- a record within the rules
unfoldable pub within : MmRecord → Bool
within r =
    imsi_ok r.imsi
    && stamp_ok r.opening
    && list_rule r
    && cause_ok r.cause
    && full_ok r.cause r.count
    && closing_ok r.cause r.opening.seconds r.duration (last_time r.opening.seconds (used r))
    && number_ok r.cause r.number
    && node_ok r.nodeid r.nodelen
