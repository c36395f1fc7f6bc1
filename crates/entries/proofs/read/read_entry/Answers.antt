-- `entries::read::read_entry` meets its contract: with an entry of each kind at the place, and with none.
use mathlib.Core.Path.{sym, ap, ◌∙◌}
use Rattle.std.specs.Prelude.{Option, Some}
use native.Mathlib.Omega.{arith}
use borrow.Author.Tests.{eq-eqb, ne_eqb}
use Rattle.format.specs.Maybe.{bind}
use Rattle.scdr.specs.declared.Record.{Record}
use Rattle.mcdr.specs.declared.MmRecord.{MmRecord}
use Rattle.cdrs.specs.Cdr.{pdp, mm}
use Rattle.entries.proofs.Stands.{found_place, found_fits, kind_at, other_place}
use Rattle.entries.proofs.Reading.{reads_none, reads_pdp, reads_mm, mapped_pdp, mapped_mm}
use Rattle.entries.proofs.read.read_entry.Goals as goal

pub returns-in_default : goal.returns-in_default
returns-in_default c =
    let a = c.args in
    let q = c.entry_at-entry.ensures in
    reads_none a.s.now a.at q (other_place a.s.now a.at c.entry_at-entry.result c.in_default.not-Found q)

pub slice_bounds-octets-count : goal.slice_bounds-octets-count
slice_bounds-octets-count c = omega (arith, found_fits c.args.s.now c.args.at c.in-Found.is c.entry_at-entry.ensures)

pub slice_bounds-octets-start : goal.slice_bounds-octets-start
slice_bounds-octets-start c = omega (arith, found_fits c.args.s.now c.args.at c.in-Found.is c.entry_at-entry.ensures)

pub slice_bounds-octets-end : goal.slice_bounds-octets-end
slice_bounds-octets-end c = omega (arith, found_fits c.args.s.now c.args.at c.in-Found.is c.entry_at-entry.ensures)

pub bounds-s-a : goal.bounds-s-a
bounds-s-a c = omega (arith, found_fits c.args.s.now c.args.at c.in-Found.is c.entry_at-entry.ensures)

pub returns-then-s-a : goal.returns-then-s-a
returns-then-s-a c =
    let a = c.args in
    let k = c.in-Found.is in
    let q = c.entry_at-entry.ensures in
    let (l, i) = found_fits a.s.now a.at k q in
    let t = kind_at a.s.now _ _ l i ∙ eq-eqb _ 0xA2 c.if-s-a.true in
    reads_mm a.s.now a.at (sym k ∙ q) _ (found_place a.s.now a.at k q) t
    (mapped_mm c.read_record.result c.map.result c.map.ensures.cases ∙ ap (λ (o : Option MmRecord). bind o (λ r. Some (mm r))) c.read_record.ensures)

pub returns : goal.returns
returns c =
    let a = c.args in
    let k = c.in-Found.is in
    let q = c.entry_at-entry.ensures in
    let (l, i) = found_fits a.s.now a.at k q in
    let t = kind_at a.s.now _ _ l i ∙ ne_eqb _ 0xA2 c.if-s-a.false in
    reads_pdp a.s.now a.at (sym k ∙ q) _ (found_place a.s.now a.at k q) t
    (mapped_pdp c.read_record-2.result c.map-2.result c.map-2.ensures.cases ∙ ap (λ (o : Option Record). bind o (λ r. Some (pdp r))) c.read_record-2.ensures)
