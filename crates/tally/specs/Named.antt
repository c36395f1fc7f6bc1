-- What reading a whole list gives: the records that a name has in it, and the number that the last of them carries.
use Rattle.std.specs.Prelude.{ℕ, Bool, cond, ◌&&◌, List, [], ◌∷◌, length, ◌==◌}
use Rattle.scdr.specs.declared.Record.{Record}
use Rattle.cdrs.specs.Cdr.{Cdr, pdp, mm}
use Rattle.tally.specs.declared.Fault.TheVariants as F
use Rattle.tally.specs.declared.Tally.{Tally}

-- a record has the name: charging ID and GGSN's address
abbrev pub is_named : ℕ → ℕ → Record → Bool
is_named id ggsn r = r.charging == id && r.ggsn == ggsn

-- the records of the name, in the list's order; an M-CDR has no name
unfoldable pub of_name : ℕ → ℕ → List Cdr → List Record
of_name id ggsn [] = []
of_name id ggsn (pdp r ∷ rs) = cond (is_named id ggsn r) (r ∷ of_name id ggsn rs) (of_name id ggsn rs)
of_name id ggsn (mm r ∷ rs) = of_name id ggsn rs

-- the number that the last of records carries, which is 0 where it carries none; and n where there is no record
unfoldable pub last_number : ℕ → List Record → ℕ
last_number n [] = n
last_number n (r ∷ rs) = last_number r.number rs

-- all of it: counted to the end, how many records the name has, and the number of the last one, 0 for none
unfoldable pub count_read : ℕ → ℕ → List ℕ → List Cdr → Tally
count_read id ggsn s rs = record { fault = F.None; at = length s; count = length (of_name id ggsn rs); number = last_number 0 (of_name id ggsn rs) }
