-- The access point name as the reader shows it: "as the very part of the input where it lies" (01, "The record's octets"). Where it lies is found by
-- going over the values that stand under A0, one after another: tag, length, contents.
use Rattle.std.specs.Prelude.{◌≡◌, Bool, cond, List, [], ℕ, zero, suc, ◌+◌, ◌≤◌, eqb, length, take, get_or}
use Rattle.std.specs.Prelude.{Option, None, Some}
use Rattle.std.specs.Borrow.{Bor}
use Rattle.ber.specs.Read.{part_at, cut}
use Rattle.ber.specs.Table.{tag}
use Rattle.scdr.specs.declared.Record.{Record}
use Rattle.scdr.specs.Table.{record_tag, Apn, table}
use Rattle.scdr.specs.Layout.{scdr}

-- ---- a part of octets: where it begins, and where it ends

-- a value was found: its contents, if it is the one that is looked for; else go on after it
abbrev pub seen : Bool → (ℕ → ℕ × ℕ) → Option (ℕ × ℕ) → ℕ × ℕ
seen it on None = (0, 0)
seen it on (Some z) = cond it z (on z.1)

-- where the contents under the tag t lie, among n values at most that stand one after another from a place of s on
unfoldable pub walk : ℕ → ℕ → List ℕ → ℕ → ℕ × ℕ
walk zero t s at = (0, 0)
walk (suc n) t s at = seen (eqb (get_or s at 0) t) (walk n t s) (part_at s at (get_or s at 0))

-- the same in a part of s, counted from the start of s
abbrev pub walk_in : ℕ → ℕ → List ℕ → Option (ℕ × ℕ) → ℕ × ℕ
walk_in n t s None = (0, 0)
walk_in n t s (Some z) = (z.0 + (walk n t (cut z s) 0).0, z.0 + (walk n t (cut z s) 0).1)

-- ---- the access point name

-- a place, if there is a record
abbrev pub if_read : Option Record → ℕ × ℕ → ℕ × ℕ
if_read None z = (0, 0)
if_read (Some r) z = z

-- Where it lies in s: the contents under 8C, among the fields under A0, of which the table has so many. Where s is no record within the rules, the empty
-- part at the start.
unfoldable pub apn_place : List ℕ → ℕ × ℕ
apn_place s = if_read (scdr.dec s) (walk_in (length table) (tag Apn) s (part_at s 0 record_tag))

-- the access point name of what was read
unfoldable pub apn_of : Option Record → List ℕ
apn_of None = []
apn_of (Some r) = take r.apnlen r.apn

-- What is shown of s: the part p of s where the access point name lies. It is no copy: it points to the memory that s points to, as many octets on as
-- lie before the name.
pub record ShowsApn (s p : Bor (List ℕ)) : Type 0 where
  pub order : (apn_place s.now).0 ≤ (apn_place s.now).1
  pub inside : (apn_place s.now).1 ≤ length s.now
  pub place : p.ref_ptr ≡ (s.ref_ptr.0, (apn_place s.now).0 + s.ref_ptr.1)
  pub part : p.now ≡ cut (apn_place s.now) s.now
  pub name : p.now ≡ apn_of (scdr.dec s.now)
