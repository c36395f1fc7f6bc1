-- The refusals by their numbers: rows of 01's table, and of 02's.
use Rattle.std.specs.Prelude.{ℕ, Option, None, Some}
use Rattle.event.specs.Rows as E
use Rattle.node.specs.declared.refusal.Refusal.{Refusal}
use Rattle.node.specs.declared.refusal.Refusal.TheVariants.{Octets, Time, TooMany, NotActive, Active, NoSlot, NoRoom, BadProfile, Unsound, OddList, Attached, NotAttached, NoPlace, UnknownSet, Edition}

abbrev pub number_of : Refusal → ℕ
number_of (Octets refusal) = E.number_of refusal
number_of Time = 6
number_of TooMany = 7
number_of NotActive = 8
number_of Active = 9
number_of NoSlot = 10
number_of NoRoom = 11
number_of BadProfile = 12
number_of Unsound = 13
number_of OddList = 14
number_of Attached = 15
number_of NotAttached = 16
number_of NoPlace = 17
number_of UnknownSet = 18
number_of Edition = 19

-- what is answered: 0 where nothing is refused
abbrev pub answer_of : Option Refusal → ℕ
answer_of None = 0
answer_of (Some refusal) = number_of refusal
