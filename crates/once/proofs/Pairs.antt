-- The event of a pair of a list says its numbers.
use Prim.Native.Nat.{ℕ, ◌^◌, ◌<◌}
use Rattle.ber.specs.Int.{octets_from, number_in, lowest}
use Rattle.ber.proofs.Fixeds.{spelt_lowest}
use Rattle.event.specs.declared.Name.{Name}
use Rattle.event.specs.Traffic.{traffic_event}
use Rattle.event.proofs.Traffics.{traffic_time}
use Rattle.history.specs.Log.{tells}
use Rattle.once.specs.Charging.{Heard, says}
use Rattle.once.specs.Once.{PairSays}

pub pair_says : (m : Name) (t up down : ℕ) → t < 2 ^ 32 → m.id < 2 ^ 32 → m.ggsn < 2 ^ 32 → up < 2 ^ 32 → down < 2 ^ 32 → PairSays m t up down
unfolding traffic_event says number_in octets_from lowest
pair_says m t up down ht hi hg hu hd =
    let ei = spelt_lowest 4 m.id hi in
    let eg = spelt_lowest 4 m.ggsn hg in
    let eu = spelt_lowest 4 up hu in
    let ed = spelt_lowest 4 down hd in
    record { time = traffic_time m t up down ht; traffic = λ j. tells (record { id = ei j; ggsn = eg j }) (Heard.traffic (eu j) (ed j)) }
