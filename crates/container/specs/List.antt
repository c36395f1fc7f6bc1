-- The list of containers that a record has: 1 to 15 of them, and the rules between them.
use Rattle.std.specs.Prelude.{◌≡◌, Bool, true, false, not, ◌&&◌, List, [], ◌∷◌, ◌++◌, ℕ, zero, suc, ◌-◌, leb, ltb, eqb, length, take}
use Rattle.std.specs.Bool.{beq}
use Rattle.std.specs.Prelude.{Option, None, Some}
use Rattle.format.specs.Maybe.{bind, guard}
use Rattle.format.specs.Format.{Fmt}
use Rattle.ber.specs.Field.{first, many}
use Rattle.ber.specs.Read.{read_at}
use Rattle.ber.specs.Tlv.{tlv_enc}
use Rattle.calendar.specs.declared.Stamp.{Stamp}
use Rattle.container.specs.declared.Qos.{Qos}
use Rattle.container.specs.declared.Container.{Container}
use Rattle.container.specs.Qos.{same_qos, no_qos}
use Rattle.container.specs.Container.{container_ok, formed, container, container_tag, no_container}

-- every container's values are as they must be
unfoldable pub each_ok : List Container → Bool
each_ok [] = true
each_ok (c ∷ cs) = container_ok c && each_ok cs

-- the last alone ended with condition 2
unfoldable pub last_alone : List Container → Bool
last_alone [] = false
last_alone (c ∷ []) = eqb c.condition 2
last_alone (c ∷ d ∷ cs) = ltb c.condition 2 && last_alone (d ∷ cs)

-- one offset throughout
unfoldable pub one_offset : ℕ → List Container → Bool
one_offset z [] = true
one_offset z (c ∷ cs) = eqb c.time.zone z && one_offset z cs

-- times in order, from t on: not falling, equal ones are fine
unfoldable pub in_order : ℕ → List Container → Bool
in_order t [] = true
in_order t (c ∷ cs) = leb t c.time.seconds && in_order c.time.seconds cs

-- the QoS after a container differs from its own exactly where a QoS change ended it (condition 0)
abbrev pub changes : Container → Qos → Bool
changes c q = beq (not (same_qos c.qos q)) (eqb c.condition 0)

-- so it is from each container to the next
unfoldable pub qos_rule : List Container → Bool
qos_rule [] = true
qos_rule (c ∷ []) = true
qos_rule (c ∷ d ∷ cs) = changes c d.qos && qos_rule (d ∷ cs)

-- 1 to 15 containers that keep the rules, of a record that opened at a time with its offset
unfoldable pub list_ok : Stamp → List Container → Bool
list_ok opening cs =
    leb 1 (length cs) && leb (length cs) 15 && each_ok cs && last_alone cs
    && one_offset opening.zone cs && in_order opening.seconds cs && qos_rule cs

-- ---- its octets: the containers one after another, each under 30; the first stands after none, as after a QoS change

-- 1 to 15 of them, each of at most 53 octets
unfoldable pub containers : Fmt (List Container)
containers = many container_tag container no_container 53 1 15

-- each has a form after the one before it, the first after b
unfoldable pub all_formed : Container → List Container → Bool
all_formed b [] = true
all_formed b (c ∷ cs) = formed b c && all_formed c cs

-- the first n containers of an array under a tag, where they are 1 to 15 and each has a form after the one before it
abbrev pub list_form : ℕ → ℕ → List Container → Option (List ℕ)
list_form t n v = guard (leb 1 n && leb n 15 && all_formed no_container (take n v)) (tlv_enc t (containers.enc (take n v)))

-- ---- a list in an array of 15

-- n containers with nothing counted
unfoldable pub no_containers : ℕ → List Container
no_containers zero = []
no_containers (suc n) = no_container ∷ no_containers n

-- a list filled up to 15
abbrev pub padded : List Container → List Container
padded cs = cs ++ no_containers (15 - length cs)

-- what the reader of lists answers, where the octets are a list: how many it has, and they in an array of 15
abbrev pub in_array : Option (List Container) → Option (ℕ × List Container)
in_array None = None
in_array (Some cs) = Some (length cs, padded cs)

-- what the reader of a list under a tag answers, at any place of any octets
unfoldable pub lists_at : List ℕ → ℕ → ℕ → Option ((ℕ × List Container) × ℕ)
lists_at s at t = bind (read_at (first t containers) s at) (λ p. Some ((length p.0, padded p.0), p.1))

-- a container of which every field is zero
unfoldable pub is_blank : Container → Bool
is_blank c =
    same_qos c.qos no_qos && eqb c.uplink 0 && eqb c.downlink 0 && eqb c.condition 0
    && eqb c.time.seconds 0 && eqb c.time.zone 0

-- each is such a one
unfoldable pub blanks : List Container → Bool
blanks [] = true
blanks (c ∷ cs) = is_blank c && blanks cs
