-- What a reader of records answers, as a number of the refusal table of 01.
use Rattle.std.specs.Prelude.{ℕ, Option, None, Some}

-- 20: not an image of any record within the rules
abbrev pub no_record : ℕ
no_record = 20

-- 0 where there is a record
abbrev pub answer_of : {A : Type 0} → Option A → ℕ
answer_of None = no_record
answer_of (Some r) = 0
