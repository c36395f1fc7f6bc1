-- When a slot is as it must be: 01's "A sound node", what it says of each context.
use Rattle.std.specs.Prelude.{Bool, cond, ◌&&◌, List, ℕ, leb, ltb, eqb}
use Rattle.std.specs.List.{list_all}
use Rattle.ber.specs.Imsi.{imsi_ok}
use Rattle.container.specs.Open.{sound_open, blank_open}
use Rattle.octets.specs.Chars.{all_of, is_zero}
use Rattle.octets.specs.Names.{apn_ok}
use Rattle.limits.specs.Sets.{has_set}
use Rattle.context.specs.declared.Context.{Context}

-- "stored fields in range", and unused octets zero. PDP type and address are any; what is counted is bounded below.
unfoldable pub fields_ok : Context → Bool
fields_ok c = leb c.flags 3 && imsi_ok c.imsi && apn_ok c.apn c.apnlen

-- "closed records below the accepted count"
unfoldable pub closed_ok : ℕ → Context → Bool
closed_ok accepted c = ltb c.closed accepted

-- "each context's set is one that the node has" (02, W6), of so many; and of the open record what `sound_open` says: its limits and its QoS in range,
-- unused places zero, container count, conditions, times, QoS rule, volumes
unfoldable pub context_ok : ℕ → ℕ → ℕ → ℕ → Context → Bool
context_ok count zone clock accepted c = fields_ok c && has_set count c.set && closed_ok accepted c && sound_open zone clock c.current

-- "free slots .. all zero"
unfoldable pub zero_ok : Context → Bool
zero_ok c =
    eqb c.active 0 && eqb c.flags 0 && eqb c.set 0 && eqb c.name.id 0 && eqb c.name.ggsn 0 && all_of is_zero c.imsi
    && all_of is_zero c.apn && eqb c.apnlen 0 && eqb c.pdptype 0 && eqb c.address 0 && blank_open c.current && eqb c.closed 0

-- a slot: an active context, or a free one
unfoldable pub slot_ok : ℕ → ℕ → ℕ → ℕ → Context → Bool
slot_ok count zone clock accepted c = cond (eqb c.active 1) (context_ok count zone clock accepted c) (zero_ok c)

-- every slot of the table
abbrev pub slots_ok : ℕ → ℕ → ℕ → ℕ → List Context → Bool
slots_ok count zone clock accepted cs = list_all (slot_ok count zone clock accepted) cs
