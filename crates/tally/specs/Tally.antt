-- How many records a name has in octets, and the number that the last of them carries (02, W7): step by step from the front, up to the end, or
-- up to what does not fit. This fixes the count of all octets. That it is the right one is claimed of lists that read in full alone
-- (`in_full` in proofs/Theorems.antt).
use Rattle.std.specs.Prelude.{ℕ, zero, suc, ◌+◌, Bool, true, false, cond, ◌&&◌, ◌||◌, List, length, drop, ◌==◌, nat_le}
use Rattle.tally.specs.declared.Fault.{Fault}
use Rattle.tally.specs.declared.Fault.TheVariants as F
use Rattle.tally.specs.declared.Tally.{Tally}
use Rattle.tally.specs.Look.{stops, look_of}

-- "21 for a mark or length that does not fit where a step lands"
abbrev pub answer_of : Fault → ℕ
answer_of F.None = 0
answer_of F.Mark = 21
answer_of F.Cut = 21
answer_of F.Value = 21
answer_of F.Field = 21

-- all fits
abbrev pub fits : Fault → Bool
fits F.None = true
fits F.Mark = false
fits F.Cut = false
fits F.Value = false
fits F.Field = false

-- nothing yet
abbrev pub start : Tally
start = record { fault = F.None; at = 0; count = 0; number = 0 }

-- What was counted, and then what is counted behind it. The number is that of the last record of the name: where that one carries none, there is
-- none, whatever an earlier one carries. Where something does not fit, nothing is counted.
unfoldable pub and_then : Tally → Tally → Tally
and_then t u =
    cond (fits u.fault)
    (record { fault = u.fault; at = t.at + u.at; count = t.count + u.count; number = cond (u.count == 0) t.number u.number })
    (stops u.fault (t.at + u.at))

-- A step is taken where octets are left, so many: they are the rest of the list, or hold the longest record with its mark.
abbrev pub ready : Bool → ℕ → Bool
ready ended here = nat_le 1 here && (ended || nat_le 1026 here)

-- from t on, over s, in at most n steps: as many as there are octets never run out
unfoldable pub tallied_in : ℕ → Bool → ℕ → ℕ → Tally → List ℕ → Tally
tallied_in zero ended id ggsn t s = t
tallied_in (suc n) ended id ggsn t s =
    cond (fits t.fault && ready ended (length s))
    (tallied_in n ended id ggsn (and_then t (look_of id ggsn s)) (drop (look_of id ggsn s).at s))
    t

unfoldable pub tallied : Bool → ℕ → ℕ → Tally → List ℕ → Tally
tallied ended id ggsn t s = tallied_in (length s) ended id ggsn t s

-- the whole of s, to its end
unfoldable pub count_of : ℕ → ℕ → List ℕ → Tally
count_of id ggsn s = tallied true id ggsn start s
