-- The names of the table's slots: crates/keys says of any such names what bears one, and when they are distinct.
use Rattle.std.specs.Prelude.{Bool, ◌&&◌, List, eqb}
use Rattle.event.specs.declared.Name.{Name}
use Rattle.keys.specs.Slots as K
use Rattle.keys.specs.declared.Slot.{Slot}
use Rattle.context.specs.declared.Context.{Context}

-- what names a slot
abbrev pub slot_of : Context → Slot Name
slot_of c = record { active = c.active; key = c.name }

-- "A context is named by charging ID and GGSN address."
abbrev pub same_name : Name → Name → Bool
same_name a b = eqb a.id b.id && eqb a.ggsn b.ggsn

-- an active slot with this name
abbrev pub bears : Name → Slot Name → Bool
bears n s = K.bears same_name n s

-- "active names distinct"
abbrev pub distinct : List (Slot Name) → Bool
distinct ss = K.distinct same_name ss
