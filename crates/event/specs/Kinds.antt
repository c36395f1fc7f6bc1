-- The kinds of event: 01's table, a row a kind.
use Rattle.std.specs.Prelude.{Bool, true, false, cond, ◌&&◌, List, [], ◌∷◌, ℕ, ◌+◌, eqb}
use Rattle.std.specs.Prelude.{Option, None, Some}
use Rattle.ber.specs.Int.{number_in}
use Rattle.container.specs.Qos.{qos_ok}
use Rattle.limits.specs.Limits.{limits_ok}
use Rattle.event.specs.Fields.{kind_of, name_of, qos_at, activation_of, count_of, cause_of, activate_ok, release}
use Rattle.event.specs.Fields.{subscriber_of, lac_of, rac_of, subscriber_ok, detach, limits_at, replacement_of}
use Rattle.event.specs.declared.Event.{Event}
use Rattle.event.specs.declared.Event.TheVariants.{Activate, Traffic, Qos, Tariff, Release, Tick, Management}
use Rattle.event.specs.declared.Event.TheVariants.{Attach, Location, ManageSubscriber, Detach, Replace}

-- A row: the kind's number; of an event's octets, whatever they are, how long such an event is as a whole, whether its fields are in
-- range, and what it says.
pub record Kind : Type 0 where
  pub number : ℕ
  pub whole : List ℕ → ℕ
  pub in_range : List ℕ → Bool
  pub says : List ℕ → Event

-- "1 activate | charging ID 4, GGSN 4, flags 1 .., IMSI 8, PDP type 2, PDP address 4, QoS 5, n 1, APN n | 36 + n", and with W6 its set before n, 37 + n.
-- One under 37 octets has no n, which then counts as 0: it is not 37 octets long.
abbrev pub activate_kind : Kind
activate_kind = record { number = 1; whole = λ s. 37 + count_of s; in_range = λ s. activate_ok s; says = λ s. Activate (activation_of s) }

-- "2 traffic | ID 4, GGSN 4, uplink 4, downlink 4 | 23"
abbrev pub traffic_kind : Kind
traffic_kind = record { number = 2; whole = λ s. 23; in_range = λ s. true; says = λ s. Traffic (name_of s) (number_in 4 15 s) (number_in 4 19 s) }

-- "3 QoS | ID 4, GGSN 4, QoS 5 | 20"
abbrev pub qos_kind : Kind
qos_kind = record { number = 3; whole = λ s. 20; in_range = λ s. qos_ok (qos_at 15 s); says = λ s. Qos (name_of s) (qos_at 15 s) }

-- "4 tariff | nothing | 7"
abbrev pub tariff_kind : Kind
tariff_kind = record { number = 4; whole = λ s. 7; in_range = λ s. true; says = λ s. Tariff }

-- "5 release | ID 4, GGSN 4, cause 1 | 16"
abbrev pub release_kind : Kind
release_kind = record { number = 5; whole = λ s. 16; in_range = λ s. release (cause_of s); says = λ s. Release (name_of s) (cause_of s) }

-- "6 tick | nothing | 7"
abbrev pub tick_kind : Kind
tick_kind = record { number = 6; whole = λ s. 7; in_range = λ s. true; says = λ s. Tick }

-- "7 management | ID 4, GGSN 4 | 15"
abbrev pub management_kind : Kind
management_kind = record { number = 7; whole = λ s. 15; in_range = λ s. true; says = λ s. Management (name_of s) }

-- 02, W4: "8 attach | IMSI 8, LAC 2, RAC 1 | 18"
abbrev pub attach_kind : Kind
attach_kind = record { number = 8; whole = λ s. 18; in_range = λ s. subscriber_ok s; says = λ s. Attach (subscriber_of s) (lac_of s) (rac_of s) }

-- "9 location change | IMSI 8, LAC 2, RAC 1 | 18"
abbrev pub location_kind : Kind
location_kind = record { number = 9; whole = λ s. 18; in_range = λ s. subscriber_ok s; says = λ s. Location (subscriber_of s) (lac_of s) (rac_of s) }

-- "10 management of a subscriber | IMSI 8 | 15"
abbrev pub subscriber_kind : Kind
subscriber_kind = record { number = 10; whole = λ s. 15; in_range = λ s. subscriber_ok s; says = λ s. ManageSubscriber (subscriber_of s) }

-- "11 detach | IMSI 8, cause 1 | 16"
abbrev pub detach_kind : Kind
detach_kind = record { number = 11; whole = λ s. 16; in_range = λ s. subscriber_ok s && detach (cause_of s); says = λ s. Detach (subscriber_of s) (cause_of s) }

-- 02, W6: "12 replace a set | set 1, edition 2, volume 8, time 4, changes 1 | 23". "Its limits have the profile's ranges."
abbrev pub replace_kind : Kind
replace_kind = record { number = 12; whole = λ s. 23; in_range = λ s. limits_ok (limits_at s); says = λ s. Replace (replacement_of s) }

-- the table
unfoldable pub kinds : List Kind
kinds =
    activate_kind ∷ traffic_kind ∷ qos_kind ∷ tariff_kind ∷ release_kind ∷ tick_kind ∷ management_kind
    ∷ attach_kind ∷ location_kind ∷ subscriber_kind ∷ detach_kind ∷ replace_kind ∷ []

-- ---- looked up

-- the row with a number, if there is one
unfoldable pub kind_in : ℕ → List Kind → Option Kind
kind_in n [] = None
kind_in n (k ∷ ks) = cond (eqb n k.number) (Some k) (kind_in n ks)

-- the row of an event's octets
abbrev pub row_of : List ℕ → Option Kind
row_of s = kind_in (kind_of s) kinds

abbrev pub is_row : Option Kind → Bool
is_row None = false
is_row (Some k) = true

-- What stands in for the row that octets of no kind lack. They are refused as such, whatever it says.
abbrev pub no_kind : Kind
no_kind = record { number = 0; whole = λ s. 7; in_range = λ s. false; says = λ s. Tick }

abbrev pub the_row : Option Kind → Kind
the_row None = no_kind
the_row (Some k) = k

-- the whole length of an event with these octets at its front
unfoldable pub whole_of : List ℕ → ℕ
whole_of s = (the_row (row_of s)).whole s
