-- "Record within the rules", as 01 lists them.
use Rattle.std.specs.Prelude.{Bool, not, cond, ◌&&◌, ◌||◌, List, [], ◌∷◌, ℕ, ◌-◌, ◌^◌, leb, ltb, eqb, length, take, drop}
use Rattle.octets.specs.Names.{apn_ok, node_ok}
use Rattle.ber.specs.Imsi.{imsi_ok}
use Rattle.calendar.specs.Stamp.{stamp_ok}
use Rattle.container.specs.declared.Container.{Container}
use Rattle.container.specs.List.{list_ok, blanks}
use Rattle.scdr.specs.declared.Record.{Record}

-- ---- values

-- 1 to 15 containers that keep the rules of their list, and unused places that are zero
unfoldable pub list_rule : Record → Bool
list_rule r = leb r.count 15 && list_ok r.opening (take r.count r.containers) && blanks (drop r.count r.containers)

-- a release closes with 0, 4 or 18
unfoldable pub release : ℕ → Bool
release c = eqb c 0 || eqb c 4 || eqb c 18

-- cause 0, 4, 16, 17, 18, 19 or 20
unfoldable pub cause_ok : ℕ → Bool
cause_ok c = release c || eqb c 16 || eqb c 17 || eqb c 19 || eqb c 20

-- number 1 to 10^15, or absent (0); absent only with a release, and never 1 with one
unfoldable pub number_ok : ℕ → ℕ → Bool
number_ok c n = leb n (10 ^ 15) && cond (release c) (not (eqb n 1)) (leb 1 n)

-- SGSN change only with the number absent or 1
unfoldable pub change_ok : Bool → ℕ → Bool
change_ok change n = not change || leb n 1

-- ---- the rules, one after another

-- What the fields' types say of every record that the code can hold: how many octets and places, how wide the numbers.
unfoldable pub shaped : Record → Bool
shaped r =
    eqb (length r.apn) 63 && eqb (length r.containers) 15 && eqb (length r.nodeid) 20
    && ltb r.sgsn (2 ^ 32) && ltb r.charging (2 ^ 32) && ltb r.ggsn (2 ^ 32) && ltb r.pdptype (2 ^ 16) && ltb r.address (2 ^ 32)

-- a record within the rules
unfoldable pub within : Record → Bool
within r =
    imsi_ok r.imsi
    && apn_ok r.apn r.apnlen
    && stamp_ok r.opening
    && list_rule r
    && cause_ok r.cause
    && number_ok r.cause r.number
    && change_ok r.change r.number
    && node_ok r.nodeid r.nodelen

-- Duration: last container time minus opening.
unfoldable pub last_time : ℕ → List Container → ℕ
last_time t [] = t
last_time t (c ∷ cs) = last_time c.time.seconds cs

abbrev pub duration_from : ℕ → List Container → ℕ
duration_from t cs = last_time t cs - t

unfoldable pub duration : Record → ℕ
duration r = duration_from r.opening.seconds (take r.count r.containers)
