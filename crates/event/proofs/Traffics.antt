-- The octets of a traffic event say what they were made of.
use mathlib.Core.Path.{◌≡◌}
use Prim.Native.Nat.{ℕ, ◌^◌, ◌<◌}
use Rattle.ber.specs.Int.{octets_from, number_in, lowest}
use Rattle.ber.proofs.Fixeds.{spelt_lowest}
use Rattle.event.specs.Fields.{time_of}
use Rattle.event.specs.Kinds.{kinds, kind_in, whole_of}
use Rattle.event.specs.Rows.{first_fit, rows, marked, known, measured, fields_ok}
use Rattle.event.specs.Event.{event_of, said_by, decoded}
use Rattle.event.specs.Traffic.{traffic_event}
use Rattle.event.specs.declared.Name.{Name}
use Rattle.event.specs.declared.Event.TheVariants.{Traffic}
use Rattle.std.specs.Prelude.{Ok}

module _ (m : Name) (t up down : ℕ) where
  pub traffic_time : t < 256 ^ 4 → time_of (traffic_event m t up down) ≡ t
  unfolding traffic_event number_in octets_from lowest
  traffic_time h = spelt_lowest 4 t h

  -- each number is one of four octets
  pub traffic_said : t < 256 ^ 4 → m.id < 256 ^ 4 → m.ggsn < 256 ^ 4 → up < 256 ^ 4 → down < 256 ^ 4
      → decoded (traffic_event m t up down) ≡ Ok (t, Traffic m up down)
  unfolding traffic_event decoded said_by event_of first_fit rows marked kinds kind_in known measured whole_of fields_ok number_in octets_from lowest
  traffic_said ht hi hg hu hd =
      let et = spelt_lowest 4 t ht in
      let ei = spelt_lowest 4 m.id hi in
      let eg = spelt_lowest 4 m.ggsn hg in
      let eu = spelt_lowest 4 up hu in
      let ed = spelt_lowest 4 down hd in
      λ j. Ok (et j, Traffic (record { id = ei j; ggsn = eg j }) (eu j) (ed j))
