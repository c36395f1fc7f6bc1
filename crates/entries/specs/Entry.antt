-- What stands at a place of octets that may be a record list, by the mark and the length alone. "Each record follows the mark C3 5A"
-- (01, "The record's octets"); a record is one BER value.
use Rattle.std.specs.Prelude.{Bool, cond, not, ◌||◌, ℕ, ◌+◌, ◌-◌, List, leb, ltb, eqb, length, get_or}
use Rattle.std.specs.Prelude.{Option, None, Some}
use Rattle.ber.specs.Read.{len_at}
use Rattle.entries.specs.declared.Entry.{Entry}
use Rattle.entries.specs.declared.Entry.TheVariants.{Found, End, NoMark, Cut, NoValue}

-- the tags that a record of a list may have: A0, of an S-CDR, and A2, of an M-CDR
abbrev pub is_tag : ℕ → Bool
is_tag t = eqb t 0xA0 || eqb t 0xA2

-- the most contents of a record: 1,024 octets with tag and length
abbrev pub most_contents : ℕ
most_contents = 1020

-- the value whose tag stands at `at`, in the entry that begins at `from`, by its length, if one stands there. The value is found where all
-- of it is there. Else the octets end within it, unless it would be longer than any record. Where no length stands, it may be cut as long
-- as fewer than the three octets are there that the longest length takes
unfoldable pub sized_at : List ℕ → ℕ → ℕ → Option (ℕ × ℕ) → Entry
sized_at s from at (Some p) = cond (leb p.0 (length s - p.1)) (Found at (p.1 + p.0)) (cond (ltb most_contents p.0) (NoValue at) (Cut from))
sized_at s from at None = cond (ltb (length s - (at + 1)) 3) (Cut from) (NoValue at)

-- what follows the mark of the entry that begins at `from`
unfoldable pub value_at : List ℕ → ℕ → ℕ → Entry
value_at s from at =
    cond (leb (length s) at) (Cut from)
    (cond (not (is_tag (get_or s at 0))) (NoValue at)
    (sized_at s from at (len_at s (at + 1))))

-- what stands at a place of s
unfoldable pub entry_at : List ℕ → ℕ → Entry
entry_at s at =
    cond (leb (length s) at) End
    (cond (not (eqb (get_or s at 0) 0xC3)) (NoMark at)
    (cond (leb (length s) (at + 1)) (Cut at)
    (cond (not (eqb (get_or s (at + 1) 0) 0x5A)) (NoMark at)
    (value_at s at (at + 2)))))
