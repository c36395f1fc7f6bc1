-- The histories of a name in a log: the list of the accepted events.
use Rattle.std.specs.Prelude.{ℕ, ◌+◌, Bool, cond, List, [], ◌∷◌, ◌++◌, map}
use Rattle.std.specs.Prelude.{Option, None, Some}
use Rattle.history.specs.History.{History, start, ◌▸◌∶◌}
use Rattle.history.specs.Records.{Rules, ended}

-- An accepted event, at its time.
pub record Accepted (W : Type 0) : Type 0 where
  pub time : ℕ
  pub event : W

-- What an event says about the subjects of one kind. G is the node's settings, N names.
pub data Said (G N S E : Type 0) : Type 0 where
  -- it activates a name, with what is then in force, by the settings
  activates : N → (G → S) → Said G N S E
  -- it names one subject, which hears this
  tells : N → E → Said G N S E
  -- every subject hears this
  tells_all : E → Said G N S E
  -- it is about no subject of this kind
  nothing : Said G N S E

-- What the node's events W mean for a kind of subject.
pub record Meaning (G N S E W : Type 0) : Type 0 where
  pub same : N → N → Bool
  pub says : W → Said G N S E
  -- the settings after an event
  pub settles : G → W → G

-- h, grown by what was heard, if anything was.
abbrev pub grown : {S E : Type 0} → History S E → ℕ → Option E → History S E
grown h t None = h
grown h t (Some e) = h ▸ t ∶ e

module _ {G N S E W : Type 0} (R : Rules S E) (D : Meaning G N S E W) (n : N) where
  -- What of an event is in a history of n: an event that names n, and one that every subject hears.
  abbrev pub heard : Said G N S E → Option E
  heard (activates m s) = None
  heard (tells m e) = cond (D.same n m) (Some e) None
  heard (tells_all e) = Some e
  heard nothing = None

  -- h after one more accepted event: nothing is heard after the release.
  abbrev pub grow : Accepted W → History S E → History S E
  grow c h = cond (ended R h) h (grown h c.time (heard (D.says c.event)))

  abbrev pub follow : List (Accepted W) → History S E → History S E
  follow [] h = h
  follow (c ∷ cs) h = follow cs (grow c h)

  -- the history of n that starts by what an event says, if one does
  abbrev pub starts_by : G → ℕ → Said G N S E → List (History S E)
  starts_by g t (activates m s) = cond (D.same n m) (start t (s g) ∷ []) []
  starts_by g t (tells m e) = []
  starts_by g t (tells_all e) = []
  starts_by g t nothing = []

  -- The histories of n, first to last. Each starts where an accepted event activates n, by the settings that the events before
  -- it made, and goes on through the events after it, up to its release.
  abbrev pub histories : G → List (Accepted W) → List (History S E)
  histories g [] = []
  histories g (c ∷ cs) = map (follow cs) (starts_by g c.time (D.says c.event)) ++ histories (D.settles g c.event) cs

  -- What the events of a log report of n by name: the sum of what each of them counts.
  abbrev pub reports : (E → ℕ) → Said G N S E → ℕ
  reports counts (activates m s) = 0
  reports counts (tells m e) = cond (D.same n m) (counts e) 0
  reports counts (tells_all e) = 0
  reports counts nothing = 0

  abbrev pub reported : (E → ℕ) → List (Accepted W) → ℕ
  reported counts [] = 0
  reported counts (c ∷ cs) = reports counts (D.says c.event) + reported counts cs
