-- How the code tests the rules of a list: one container after another, and each with the next. proofs/Stepwise.antt shows that these are
-- the rules of specs/List.antt, and proofs/Opens.antt those of specs/Open.antt.
use Rattle.std.specs.Prelude.{Bool, true, false, ◌&&◌, List, [], ◌∷◌, ℕ, ◌-◌, leb, ltb, eqb}
use Rattle.std.specs.Prelude.{Option}
use Rattle.format.specs.Maybe.{guard}
use Rattle.container.specs.declared.Qos.{Qos}
use Rattle.container.specs.declared.Container.{Container}
use Rattle.container.specs.declared.held.Run.{Run}
use Rattle.container.specs.Container.{container_ok}
use Rattle.container.specs.List.{changes, is_blank}

-- a container as it must be, in the zone z, not before t
unfoldable pub stands : ℕ → ℕ → Container → Bool
stands z t c = container_ok c && eqb c.time.zone z && leb t c.time.seconds

-- each is, and not before the one that it follows
unfoldable pub all_stand : ℕ → ℕ → List Container → Bool
all_stand z t [] = true
all_stand z t (c ∷ cs) = stands z t c && all_stand z c.time.seconds cs

-- d may follow c: c did not end the record, and the QoS differs exactly where a QoS change ended c
unfoldable pub follows : Container → Container → Bool
follows c d = ltb c.condition 2 && changes c d.qos

-- each may follow the one before it
unfoldable pub all_follow : List Container → Bool
all_follow [] = true
all_follow (c ∷ []) = true
all_follow (c ∷ d ∷ cs) = follows c d && all_follow (d ∷ cs)

-- the last ended the record
unfoldable pub last_ends : List Container → Bool
last_ends [] = false
last_ends (c ∷ []) = eqb c.condition 2
last_ends (c ∷ d ∷ cs) = last_ends (d ∷ cs)

-- c may stand in an open record, before what has the QoS q and ends at t or later: as it must be, and it did not end the record
unfoldable pub precedes : ℕ → Qos → ℕ → Container → Bool
precedes z q t c = container_ok c && ltb c.condition 2 && eqb c.time.zone z && leb c.time.seconds t && changes c q

-- one place more of an array, from the last to the first: what it leaves to those before it, if it is as it must be
unfoldable pub looked : ℕ → Bool → Container → Run → Option Run
looked z true c s = guard (precedes z s.after s.until c) (record { after = c.qos; until = c.time.seconds; left = s.left - c.uplink - c.downlink })
looked z false c s = guard (is_blank c) s
