-- The fields of an event: where they stand, and what is in range. Each is a value for any octets. Which kind has which, and how long
-- it is, the table of kinds says (Kinds.antt).
use Rattle.std.specs.Prelude.{Bool, ◌&&◌, ◌||◌, List, ℕ, ◌+◌, ◌/◌, ◌%◌, leb, eqb, get_or, take, drop}
use Rattle.ber.specs.Imsi.{imsi_ok}
use Rattle.ber.specs.Int.{number_in}
use Rattle.container.specs.declared.Qos.{Qos}
use Rattle.container.specs.Qos.{qos_ok}
use Rattle.limits.specs.declared.Limits.{Limits}
use Rattle.octets.specs.Chars.{lowered}
use Rattle.octets.specs.Names.{is_apn}
use Rattle.event.specs.declared.Name.{Name}
use Rattle.event.specs.declared.Activation.{Activation}
use Rattle.event.specs.declared.Replacement.{Replacement}

-- ---- where they stand

-- the mark is octets 0 and 1, and the time octets 3 to 6
abbrev pub kind_of : List ℕ → ℕ
kind_of s = get_or s 2 0

abbrev pub time_of : List ℕ → ℕ
time_of s = number_in 4 3 s

-- charging ID 4, GGSN 4
abbrev pub name_of : List ℕ → Name
name_of s = record { id = number_in 4 7 s; ggsn = number_in 4 11 s }

-- five octets from a place on
abbrev pub qos_at : ℕ → List ℕ → Qos
qos_at at s =
    record {
      reliability = get_or s at 0;
      delay = get_or s (at + 1) 0;
      precedence = get_or s (at + 2) 0;
      peak = get_or s (at + 3) 0;
      mean = get_or s (at + 4) 0;
    }

-- an activate after its name: flags 1, IMSI 8, PDP type 2, PDP address 4, QoS 5, and then "one octet naming its set, before n" (02, W6), n 1, APN n
abbrev pub flags_of : List ℕ → ℕ
flags_of s = get_or s 15 0

abbrev pub imsi_of : List ℕ → List ℕ
imsi_of s = take 8 (drop 16 s)

abbrev pub set_of : List ℕ → ℕ
set_of s = get_or s 35 0

abbrev pub count_of : List ℕ → ℕ
count_of s = get_or s 36 0

-- the access point name as the event spells it, and as it is stored and written: "hand back the name with letters in lower case" (02, W5)
abbrev pub spelling_of : List ℕ → List ℕ
spelling_of s = drop 37 s

abbrev pub apn_of : List ℕ → List ℕ
apn_of s = lowered (spelling_of s)

-- bit 0 of the flags is network-initiated, bit 1 arrived by SGSN change
abbrev pub activation_of : List ℕ → Activation
activation_of s =
    record {
      name = name_of s;
      network = eqb (flags_of s % 2) 1;
      change = eqb (flags_of s / 2 % 2) 1;
      pdptype = number_in 2 24 s;
      address = number_in 4 26 s;
      qos = qos_at 30 s;
      set = set_of s;
      apnlen = count_of s;
    }

-- a release after its name, and a detach after its IMSI: cause 1
abbrev pub cause_of : List ℕ → ℕ
cause_of s = get_or s 15 0

-- Kinds 8 to 11 (02, W4) name a subscriber by its IMSI: eight octets, and the number that they spell, which is its name. (Eight octets spell a number
-- that no other eight spell: `one_imsi` of proofs/Theorems.antt.)
abbrev pub subscriber_imsi : List ℕ → List ℕ
subscriber_imsi s = take 8 (drop 7 s)

abbrev pub subscriber_of : List ℕ → ℕ
subscriber_of s = number_in 8 7 s

-- an attach and a location change after the IMSI: LAC 2, RAC 1
abbrev pub lac_of : List ℕ → ℕ
lac_of s = number_in 2 15 s

abbrev pub rac_of : List ℕ → ℕ
rac_of s = get_or s 17 0

-- Kind 12 (02, W6) replaces a set of limits: set 1, edition 2, volume 8, time 4, changes 1
abbrev pub limits_at : List ℕ → Limits
limits_at s = record { volume = number_in 8 10 s; seconds = number_in 4 18 s; changes = get_or s 22 0 }

abbrev pub replacement_of : List ℕ → Replacement
replacement_of s = record { set = get_or s 7 0; edition = number_in 2 8 s; limits = limits_at s }

-- ---- what is in range

-- flags 0..3; IMSI; QoS; n 1..63; APN letters, digits, '.', '-'. The PDP type, the PDP address and the set are any here. The name is all that follows
-- n, which is n octets where row 4 does not fit: so its own length is looked at.
unfoldable pub activate_ok : List ℕ → Bool
activate_ok s =
    leb (flags_of s) 3
    && imsi_ok (imsi_of s)
    && qos_ok (qos_at 30 s)
    && is_apn (spelling_of s)

-- a release has cause 0, 4 or 18
unfoldable pub release : ℕ → Bool
release c = eqb c 0 || eqb c 4 || eqb c 18

-- kinds 8 to 11: an IMSI. "LAC and RAC are any."
unfoldable pub subscriber_ok : List ℕ → Bool
subscriber_ok s = imsi_ok (subscriber_imsi s)

-- a detach has cause 0 or 4
unfoldable pub detach : ℕ → Bool
detach c = eqb c 0 || eqb c 4
