-- What the reader and the writer of a list of changes answer.
use Rattle.std.specs.Prelude.{Bool, true, cond, ◌&&◌, List, [], ◌∷◌, ℕ, leb, eqb, length, take}
use Rattle.std.specs.Prelude.{Option, None, Some}
use Rattle.format.specs.Maybe.{bind, guard}
use Rattle.ber.specs.Tlv.{tlv_enc}
use Rattle.ber.specs.Field.{maybe}
use Rattle.ber.specs.Read.{read_at}
use Rattle.ber.specs.Text.{or_none}
use Rattle.calendar.specs.Stamp.{stamp_ok}
use Rattle.mcdr.specs.declared.Change.{Change}
use Rattle.mcdr.specs.Changes.{changes, padded}

-- where the octets are a list: how many it has, and they in an array of 15
abbrev pub in_array : Option (List Change) → Option (ℕ × List Change)
in_array None = None
in_array (Some cs) = Some (length cs, padded cs)

-- at a place of octets, where the list may be missing
unfoldable pub lists_at : List ℕ → ℕ → ℕ → Option ((ℕ × List Change) × ℕ)
lists_at s at t = bind (read_at (maybe t changes) s at) (λ p. Some ((length (or_none p.0), padded (or_none p.0)), p.1))

-- each at a time of 2000 to 2099
unfoldable pub times_ok : List Change → Bool
times_ok [] = true
times_ok (c ∷ cs) = stamp_ok c.time && times_ok cs

-- the first n changes of an array under a tag, where they are 15 at most, each at such a time; nothing where there is none
unfoldable pub list_form : ℕ → ℕ → List Change → Option (List ℕ)
list_form t n v = cond (eqb n 0) (Some []) (guard (leb n 15 && times_ok (take n v)) (tlv_enc t (changes.enc (take n v))))
