-- A location change (12.15's ChangeLocation): the place that the subscriber moved to, and when; values and octets.
use Rattle.std.specs.Prelude.{Bool, not, ◌&&◌, List, [], ◌∷◌, ℕ, ◌^◌, leb, ltb, eqb}
use Rattle.format.specs.Format.{Fmt, refined, mapped}
use Rattle.ber.specs.Field.{any_octet, ◌⨾◌}
use Rattle.ber.specs.Fixed.{fixed}
use Rattle.ber.specs.Table.{Row, always, Values, layout}
use Rattle.calendar.specs.Stamp.{stamp, stamp_ok}
use Rattle.container.specs.Container.{no_stamp}
use Rattle.mcdr.specs.declared.Place.{Place}
use Rattle.mcdr.specs.declared.Change.{Change}

-- ---- a place

-- two octets of a location area code, one of a routing area code: "LAC and RAC are any"
unfoldable pub place_ok : Place → Bool
place_ok p = ltb p.lac (256 ^ 2) && ltb p.rac 256

unfoldable pub same_place : Place → Place → Bool
same_place p q = eqb p.lac q.lac && eqb p.rac q.rac

abbrev pub no_place : Place
no_place = record { lac = 0; rac = 0 }

-- ---- a change

-- what a place of the list holds that is not used
abbrev pub no_change : Change
no_change = record { place = no_place; time = no_stamp }

-- May c follow in a record with this offset, after a time, with p in force: "each to another place than the one before .., times in order ..,
-- one offset throughout", the time one of 2000 to 2099?
unfoldable pub follows : ℕ → ℕ → Place → Change → Bool
follows zone from p c = not (same_place p c.place) && stamp_ok c.time && leb from c.time.seconds && eqb c.time.zone zone

-- ---- its octets: "each 30 with 80 LAC, 81 RAC, 83 time". The 30 is the list's.

abbrev pub change_tag : ℕ
change_tag = 0x30

abbrev pub NewLac : Row
NewLac = always 0x80 (fixed 2)

abbrev pub NewRac : Row
NewRac = always 0x81 any_octet

abbrev pub Time : Row
Time = always 0x83 stamp

abbrev pub change_table : List Row
change_table = NewLac ∷ NewRac ∷ Time ∷ []

abbrev pub ChangeFields : Type 0
ChangeFields = Values change_table

abbrev pub to_change : ChangeFields → Change
to_change (lac, (rac, (time, _))) = record { place = record { lac = lac; rac = rac }; time = time }

abbrev pub of_change : Change → ChangeFields
of_change c = c.place.lac ⨾ c.place.rac ⨾ c.time ⨾ tt

-- which changes have a form: each value in its range
unfoldable pub change_ok : Change → Bool
change_ok c = place_ok c.place && stamp_ok c.time

unfoldable pub change : Fmt Change
change = refined change_ok (mapped to_change of_change (layout change_table))
