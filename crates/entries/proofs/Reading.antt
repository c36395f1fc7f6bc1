-- The reader of entries: what it answers with an entry of each kind at the place, and with none.
use mathlib.Core.Path.{◌≡◌, refl, sym, ap, ◌∙◌}
use mathlib.Core.Bool.{true, false}
use Rattle.std.specs.Prelude.{Option, None, Some}
use mathlib.Core.List.{List, []}
use Prim.Native.Nat.{ℕ}
use Rattle.std.specs.Prelude.{MatchOption}
use Rattle.std.specs.Option.{IsSomeAnd}
use Rattle.format.specs.Maybe.{bind}
use Rattle.ber.specs.Tlv.{tlv_dec}
use Rattle.ber.specs.Field.{first}
use Rattle.ber.specs.Answer.{no_record, answer_of}
use Rattle.scdr.specs.declared.Record.{Record}
use Rattle.scdr.specs.Layout.{scdr}
use Rattle.mcdr.specs.declared.MmRecord.{MmRecord}
use Rattle.mcdr.specs.Layout.{mcdr}
use Rattle.cdrs.specs.Cdr.{Cdr, pdp, mm, cdr_dec}
use Rattle.cdrs.proofs.Values.{is_mm}
use Rattle.entries.specs.declared.Entry.{Entry}
use Rattle.entries.specs.declared.read.Cdr as read
use Rattle.entries.specs.declared.read.Cdr.TheVariants as read-cdr
use Rattle.entries.specs.declared.read.ReadEntry.{ReadEntry}
use Rattle.entries.specs.Entry.{entry_at}
use Rattle.entries.specs.Steps.{place_of}
use Rattle.entries.specs.Read.{octets_in, record_octets, cdr_of, ReadsEntry}

-- ---- a record as one of either kind

pub mapped_pdp : (o : Option Record) (r : Option read.Cdr) → MatchOption o (r ≡ None) (λ x. IsSomeAnd r (λ y. y ≡ read-cdr.Pdp x))
    → cdr_of r ≡ bind o (λ r. Some (pdp r))
mapped_pdp None r e = rw e
mapped_pdp (Some x) None e = absurd e
mapped_pdp (Some x) (Some y) e = rw e

pub mapped_mm : (o : Option MmRecord) (r : Option read.Cdr) → MatchOption o (r ≡ None) (λ x. IsSomeAnd r (λ y. y ≡ read-cdr.Mm x))
    → cdr_of r ≡ bind o (λ r. Some (mm r))
mapped_mm None r e = rw e
mapped_mm (Some x) None e = absurd e
mapped_mm (Some x) (Some y) e = rw e

-- ---- the entry at a place

module _ (s : List ℕ) (at : ℕ) {x : Entry} (k : x ≡ entry_at s at) where
  -- no octets are no record
  pub reads_none : place_of (entry_at s at) ≡ None → ReadsEntry s at (record { entry = x; mm = false; cdr = None })
  unfolding cdr_dec scdr mcdr first tlv_dec
  reads_none e = record { entry = k; kind = rw e; reads = rw e }

  module _ (p : ℕ × ℕ) (e : place_of (entry_at s at) ≡ Some p) {o : Option read.Cdr} where
    pub reads_pdp : is_mm (octets_in s p) ≡ false → cdr_of o ≡ bind (scdr.dec (octets_in s p)) (λ r. Some (pdp r))
        → ReadsEntry s at (record { entry = x; mm = false; cdr = o })
    unfolding cdr_dec
    reads_pdp t w = record { entry = k; kind = rw (e, t); reads = rw (e, t) w }

    pub reads_mm : is_mm (octets_in s p) ≡ true → cdr_of o ≡ bind (mcdr.dec (octets_in s p)) (λ r. Some (mm r))
        → ReadsEntry s at (record { entry = x; mm = true; cdr = o })
    unfolding cdr_dec
    reads_mm t w = record { entry = k; kind = rw (e, t); reads = rw (e, t) w }

-- ---- the number of an answer: that of a record of either kind, and of a record of one

number_of_cdr : (o : Option read.Cdr) → answer_of o ≡ answer_of (cdr_of o)
number_of_cdr None = refl
number_of_cdr (Some (read-cdr.Pdp r)) = refl
number_of_cdr (Some (read-cdr.Mm r)) = refl

number_of_pdp : (o : Option Record) → answer_of (bind o (λ r. Some (pdp r))) ≡ answer_of o
number_of_pdp None = refl
number_of_pdp (Some r) = refl

number_of_mm : (o : Option MmRecord) → answer_of (bind o (λ r. Some (mm r))) ≡ answer_of o
number_of_mm None = refl
number_of_mm (Some r) = refl

-- ---- the reader of each kind

module _ {s : List ℕ} {at : ℕ} {e : ReadEntry} (w : ReadsEntry s at e) where
  abbrev found : List ℕ
  found = record_octets s (place_of (entry_at s at))

  -- what is answered of an entry that is no M-CDR is what scdr's reader answers of its octets
  pub answers_pdp : e.mm ≡ false → cdr_of e.cdr ≡ bind (scdr.dec found) (λ r. Some (pdp r))
  unfolding cdr_dec
  answers_pdp f = let t : is_mm found ≡ false = sym w.kind ∙ f in rw t at w.reads

  -- what is answered of one that is an M-CDR by its tag is what mcdr's reader answers
  pub answers_mm : e.mm ≡ true → cdr_of e.cdr ≡ bind (mcdr.dec found) (λ r. Some (mm r))
  unfolding cdr_dec
  answers_mm f = let t : is_mm found ≡ true = sym w.kind ∙ f in rw t at w.reads

  -- its number is that of a reader of the record's octets, whatever their kind..
  pub answers_number : answer_of e.cdr ≡ answer_of (cdr_dec found)
  answers_number = number_of_cdr e.cdr ∙ ap {A = Option Cdr} answer_of w.reads

  -- .. and 20 where there is no entry
  pub answers_no_entry : place_of (entry_at s at) ≡ None → answer_of e.cdr ≡ no_record
  unfolding cdr_dec scdr mcdr first tlv_dec
  answers_no_entry n = rw n at answers_number

  -- of an S-CDR's octets, and of an M-CDR's, it is the number of that kind's own reader
  pub number_pdp : e.mm ≡ false → answer_of e.cdr ≡ answer_of (scdr.dec found)
  number_pdp f = number_of_cdr e.cdr ∙ ap {A = Option Cdr} answer_of (answers_pdp f) ∙ number_of_pdp (scdr.dec found)

  pub number_mm : e.mm ≡ true → answer_of e.cdr ≡ answer_of (mcdr.dec found)
  number_mm f = number_of_cdr e.cdr ∙ ap {A = Option Cdr} answer_of (answers_mm f) ∙ number_of_mm (mcdr.dec found)
