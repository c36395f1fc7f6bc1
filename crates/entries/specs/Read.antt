-- Reading the records of entries.
use Rattle.std.specs.Prelude.{◌≡◌, List, [], ◌∷◌, ℕ, ◌+◌, ◌-◌, length, take, drop}
use Rattle.std.specs.Prelude.{Option, None, Some}
use Rattle.format.specs.Maybe.{bind}
use Rattle.ber.specs.Field.{starts}
use Rattle.mcdr.specs.Table.{record_tag}
use Rattle.cdrs.specs.Cdr.{Cdr, pdp, mm, cdr_enc, cdr_dec}
use Rattle.entries.specs.declared.read.Cdr as read
use Rattle.entries.specs.declared.read.Cdr.TheVariants as read-cdr
use Rattle.entries.specs.declared.read.ReadEntry.{ReadEntry}
use Rattle.entries.specs.Entry.{entry_at}
use Rattle.entries.specs.Steps.{place_of}

-- the octets of s from one place to another
abbrev pub octets_in : List ℕ → ℕ × ℕ → List ℕ
octets_in s p = take (p.1 - p.0) (drop p.0 s)

-- the octets of the record that was found; none where none was
abbrev pub record_octets : List ℕ → Option (ℕ × ℕ) → List ℕ
record_octets s None = []
record_octets s (Some p) = octets_in s p

-- a record of either kind that the code holds
abbrev pub cdr_of : Option read.Cdr → Option Cdr
cdr_of None = None
cdr_of (Some (read-cdr.Pdp r)) = Some (pdp r)
cdr_of (Some (read-cdr.Mm r)) = Some (mm r)

-- The promise of the reader of entries: what stands at the place; whether the record that was found has the tag of an M-CDR; and what its octets
-- read as, of its own kind.
pub record ReadsEntry (s : List ℕ) (at : ℕ) (e : ReadEntry) : Type 0 where
  pub entry : e.entry ≡ entry_at s at
  pub kind : e.mm ≡ starts record_tag (record_octets s (place_of (entry_at s at)))
  pub reads : cdr_of e.cdr ≡ cdr_dec (record_octets s (place_of (entry_at s at)))

-- the records at these places of s, if each of them reads
unfoldable pub read_each : List ℕ → List (ℕ × ℕ) → Option (List Cdr)
read_each s [] = Some []
read_each s (p ∷ ps) = bind (cdr_dec (octets_in s p)) (λ r. bind (read_each s ps) (λ rs. Some (r ∷ rs)))

-- where the entries of a list of records stand, in octets that begin with `at` others
unfoldable pub laid_from : ℕ → List Cdr → List (ℕ × ℕ)
laid_from at [] = []
laid_from at (r ∷ rs) = (at + 2, at + 2 + length (cdr_enc r)) ∷ laid_from (at + 2 + length (cdr_enc r)) rs
