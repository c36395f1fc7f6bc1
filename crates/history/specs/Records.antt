-- How a history falls into stretches by its cuts, and into records by its closings: said once, for every kind of subject.
use Rattle.std.specs.Prelude.{ℕ, zero, suc, Bool, true, false, List}
use Rattle.std.specs.Prelude.{Option, None, Some}
use Rattle.history.specs.Lists.{if_any, is_some, or_else, count}
use Rattle.history.specs.History.{History, start, ◌▸◌∶◌, collect, standing, tally}

-- What a kind of subject provides. S is what is in force for it (a PDP context's QoS), E what it hears.
pub record Rules (S E : Type 0) : Type 0 where
  -- what is in force after an event
  pub after : S → E → S
  -- Whether an event is a change, by what was in force: the condition with which it then ends the container.
  pub change : S → E → Option ℕ
  -- whether an event is a release, and its cause
  pub release : E → Option ℕ
  -- The other closing conditions: the cause with which an event, at a time, closes the record of which this is the past.
  pub closing : History S E → ℕ → E → Option ℕ
  -- the condition with which a closing ends the container, by the change that the event is besides, if it is one
  pub last : Option ℕ → ℕ

-- A finished stretch: what ran, the event that cut it and its time, and the condition. The cut lies after that event's report.
pub record Stretch (S E : Type 0) : Type 0 where
  pub ran : History S E
  pub time : ℕ
  pub event : E
  pub condition : ℕ

-- A closed record: its number, its cause, its past (from its opening on), when and by what it was closed, its finished stretches.
pub record Record (S E : Type 0) : Type 0 where
  pub number : Option ℕ
  pub cause : ℕ
  pub past : History S E
  pub time : ℕ
  pub event : E
  pub stretches : List (Stretch S E)

-- What a history leaves open: how many records closed before, the past of the open one, its finished stretches, the running one.
pub record Open (S E : Type 0) : Type 0 where
  pub closed : ℕ
  pub past : History S E
  pub stretches : List (Stretch S E)
  pub running : History S E

-- A stretch with the event that cut it, and a record's past with the event that closed it.
abbrev pub whole : {S E : Type 0} → Stretch S E → History S E
whole x = x.ran ▸ x.time ∶ x.event

abbrev pub entire : {S E : Type 0} → Record S E → History S E
entire r = r.past ▸ r.time ∶ r.event

-- h goes on with e at t, unless e ends it: then a new one starts at t, with s in force.
abbrev pub or_anew : {S E : Type 0} → Option ℕ → History S E → ℕ → E → S → History S E
or_anew None h t e s = h ▸ t ∶ e
or_anew (Some k) h t e s = start t s

-- The number of a record that closes after k others: 1 for the first. One that a release closes after none has no number.
abbrev pub number : ℕ → Bool → Option ℕ
number k false = Some (suc k)
number zero true = None
number (suc k) true = Some (suc (suc k))

module _ {S E : Type 0} (R : Rules S E) where
  abbrev pub in_force : History S E → S
  in_force h = standing R.after h

  -- the number of changes
  abbrev pub changes : History S E → ℕ
  changes h = tally R.after R.change h

  -- The cause with which e, heard at t, closes the record of which r is the past.
  abbrev pub cause_for : History S E → ℕ → E → Option ℕ
  cause_for r t e = or_else (R.release e) (R.closing r t e)

  -- The past of the open record: what was heard since the last event that closed one.
  abbrev pub since_opening : History S E → History S E
  since_opening (start t s) = start t s
  since_opening (h ▸ t ∶ e) = or_anew (cause_for (since_opening h) t e) (since_opening h) t e (in_force (h ▸ t ∶ e))

  -- The cause with which e, heard at t right after h, closes a record: read since that record opened.
  abbrev pub closes : History S E → ℕ → E → Option ℕ
  closes h t e = cause_for (since_opening h) t e

  -- The condition with which an event cuts, by the cause if it closes, and by the change if it is one: once at most.
  abbrev pub condition : Option ℕ → Option ℕ → Option ℕ
  condition None change = change
  condition (Some cause) change = Some (R.last change)

  -- The condition with which e, heard at t right after h, cuts.
  abbrev pub cuts : History S E → ℕ → E → Option ℕ
  cuts h t e = condition (closes h t e) (R.change (in_force h) e)

  -- The running stretch: what was heard since the last event that cut.
  abbrev pub running : History S E → History S E
  running (start t s) = start t s
  running (h ▸ t ∶ e) = or_anew (cuts h t e) (running h) t e (in_force (h ▸ t ∶ e))

  -- The finished stretches: one for each event that cuts.
  abbrev pub stretches_at : History S E → ℕ → E → List (Stretch S E)
  stretches_at h t e = if_any (cuts h t e) (λ k. record { ran = running h; time = t; event = e; condition = k })

  abbrev pub stretches : History S E → List (Stretch S E)
  stretches h = collect stretches_at h

  -- the number of records closed
  abbrev pub closings : History S E → ℕ
  closings (start t s) = 0
  closings (h ▸ t ∶ e) = count (closes h t e) (closings h)

  -- The record that e closes with this cause, heard at t right after h, with the stretches that its own past makes.
  abbrev pub record_at : History S E → ℕ → E → ℕ → Record S E
  record_at h t e cause = record {
    number = number (closings h) (is_some (R.release e));
    cause = cause;
    past = since_opening h;
    time = t;
    event = e;
    stretches = stretches (since_opening h ▸ t ∶ e);
  }

  -- The closed records: one for each event that closes.
  abbrev pub records_at : History S E → ℕ → E → List (Record S E)
  records_at h t e = if_any (closes h t e) (record_at h t e)

  abbrev pub records : History S E → List (Record S E)
  records h = collect records_at h

  -- whether a release has ended it
  abbrev pub ended : History S E → Bool
  ended (start t s) = false
  ended (h ▸ t ∶ e) = is_some (R.release e)

  -- what it leaves open, unless it has ended
  abbrev pub leaves : History S E → Open S E
  leaves h = record { closed = closings h; past = since_opening h; stretches = stretches (since_opening h); running = running h }
