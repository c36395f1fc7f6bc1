-- A record of either kind (12.15's CallEventRecord): the tag tells which.
use Rattle.std.specs.Prelude.{Bool, cond, List, ℕ}
use Rattle.std.specs.Prelude.{Option, Some}
use Rattle.format.specs.Maybe.{bind}
use Rattle.ber.specs.Field.{first, starts}
use Rattle.scdr.specs.declared.Record.{Record}
use Rattle.scdr.specs.Table as s-table
use Rattle.scdr.specs.Layout as s-layout
use Rattle.mcdr.specs.declared.MmRecord.{MmRecord}
use Rattle.mcdr.specs.Table as m-table
use Rattle.mcdr.specs.Layout as m-layout

pub data Cdr : Type 0 where
  -- an S-CDR, under A0
  pdp : Record → Cdr
  -- an M-CDR, under A2
  mm : MmRecord → Cdr

-- its octets
abbrev pub cdr_enc : Cdr → List ℕ
cdr_enc (pdp r) = (s-layout.scdr).enc r
cdr_enc (mm r) = (m-layout.mcdr).enc r

-- one that the code can hold, within the rules of its kind
abbrev pub cdr_rules : Cdr → Bool
cdr_rules (pdp r) = s-layout.rules r
cdr_rules (mm r) = m-layout.rules r

-- the record that all of s is
unfoldable pub cdr_dec : List ℕ → Option Cdr
cdr_dec s = cond (starts m-table.record_tag s) (bind ((m-layout.mcdr).dec s) (λ r. Some (mm r))) (bind ((s-layout.scdr).dec s) (λ r. Some (pdp r)))

-- the record at the front of s, and what follows it
unfoldable pub first_cdr : List ℕ → Option (Cdr × List ℕ)
first_cdr s =
    cond (starts m-table.record_tag s)
    (bind (first m-table.record_tag m-layout.inside s) (λ p. Some (mm p.0, p.1)))
    (bind (first s-table.record_tag s-layout.inside s) (λ p. Some (pdp p.0, p.1)))
