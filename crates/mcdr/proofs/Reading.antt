-- The fields read one after another are the body: as the code reads them.
use mathlib.Core.Path.{◌≡◌, refl, sym, ap, ◌∙◌}
use Rattle.std.specs.Prelude.{Option, None, Some}
use mathlib.Core.List.{List}
use Prim.Native.Nat.{ℕ}
use lib.Dec.{eqb}
use lib.ListN.{length, take}
use Rattle.format.specs.Maybe.{bind, guard}
use Rattle.format.proofs.Maybe.{bind_bind}
use Rattle.format.proofs.Tests.{by}
use Rattle.ber.specs.Field.{or_zero, unless0, unless_none}
use Rattle.ber.specs.Table.{Values, row_dec, rows_at, tag}
use Rattle.ber.specs.Count.{counts}
use Rattle.ber.specs.Read.{read_at}
use Rattle.ber.specs.Text.{or_none, text}
use Rattle.ber.proofs.Readers.{into}
use Rattle.ber.proofs.Tables.{ended, layout_is, rows_with, with_at}
use Rattle.ber.proofs.Counts.{counts_back, number_kept}
use Rattle.ber.proofs.Texts.{text_back, none_kept}
use Rattle.calendar.specs.declared.Stamp.{Stamp}
use Rattle.octets.specs.Filled.{fill_to}
use Rattle.mcdr.specs.declared.Change.{Change}
use Rattle.mcdr.specs.declared.MmRecord.{MmRecord}
use Rattle.mcdr.specs.Changes.{padded}
use Rattle.mcdr.specs.Table.{Changes, Opening, Duration, Cause, Number, NodeId, table}
use Rattle.mcdr.specs.Layout.{body, to_record}
use Rattle.mcdr.specs.Private.List.{lists_at}
use Rattle.mcdr.specs.Private.Parts.{front_rows}
use Rattle.mcdr.specs.Private.Pieces.{record_of}

-- what the code makes of them
abbrev leaf : Values front_rows → ℕ × List Change → Stamp → ℕ → ℕ → ℕ → List ℕ → MmRecord
leaf (_, (imsi, (sgsn, (rac, (lac, _))))) c opening duration cause number node = record {
  imsi = imsi;
  sgsn = sgsn;
  place = record { lac = lac; rac = rac };
  changes = c.1;
  count = c.0;
  opening = opening;
  duration = duration;
  cause = cause;
  number = number;
  nodeid = fill_to 20 0 node;
  nodelen = length node;
}

module _ (s : List ℕ) where
  list_step : (at : ℕ) (k : ℕ × List Change → ℕ → Option MmRecord)
      → bind (read_at (row_dec Changes) s at) (λ p. k (length (or_none p.0), padded (or_none p.0)) p.1) ≡ bind (lists_at s at (tag Changes)) (λ c. k c.0 c.1)
  unfolding lists_at
  list_step at k = sym (bind_bind (read_at (row_dec Changes) s at) (λ p. Some ((length (or_none p.0), padded (or_none p.0)), p.1)) (λ c. k c.0 c.1))

  number_step : (at : ℕ) (k : ℕ → ℕ → Option MmRecord)
      → bind (read_at (row_dec Number) s at) (λ n. k (or_zero n.0) n.1) ≡ bind (read_at (counts (tag Number)) s at) (λ n. k n.0 n.1)
  number_step at k =
      ap (λ (o : Option (Option ℕ × ℕ)). bind o (λ n. k (or_zero n.0) n.1)) (counts_back (tag Number) s at) ∙ go (read_at (counts (tag Number)) s at)
    where
      go : (o : Option (ℕ × ℕ)) → bind {A = Option ℕ × ℕ} (into (λ n. Some (unless0 n)) o) (λ n. k (or_zero n.0) n.1) ≡ bind o (λ n. k n.0 n.1)
      go None = refl
      go (Some q) = ap (λ (n : ℕ). k n q.1) (number_kept q.0)

  node_step : (at : ℕ) (k : List ℕ → ℕ → Option MmRecord)
      → bind (read_at (row_dec NodeId) s at) (λ n. k (or_none n.0) n.1) ≡ bind (read_at (text (tag NodeId) 20) s at) (λ n. k n.0 n.1)
  node_step at k =
      ap (λ (o : Option (Option (List ℕ) × ℕ)). bind o (λ n. k (or_none n.0) n.1)) (text_back (tag NodeId) 20 s at) ∙ go (read_at (text (tag NodeId) 20) s at)
    where
      go : (o : Option (List ℕ × ℕ)) → bind {A = Option (List ℕ) × ℕ} (into (λ x. Some (unless_none x)) o) (λ n. k (or_none n.0) n.1) ≡ bind o (λ n. k n.0 n.1)
      go None = refl
      go (Some q) = ap (λ (x : List ℕ). k x q.1) (none_kept q.0)

  -- opening time to cause, and then k
  abbrev middle : ℕ → (Stamp → ℕ → ℕ → ℕ → Option MmRecord) → Option MmRecord
  middle at k =
      bind (read_at (row_dec Opening) s at) (λ o. bind (read_at (row_dec Duration) s o.1) (λ d. bind (read_at (row_dec Cause) s d.1) (λ e. k o.0 d.0 e.0 e.1)))

  abbrev part_three : Values front_rows → ℕ × List Change → Stamp → ℕ → ℕ → ℕ → List ℕ → ℕ → Option MmRecord
  part_three v c o d e m x n = guard (eqb n (length s)) (leaf v c o d e m x)

  abbrev code : Option MmRecord
  code = rows_with s front_rows 0 (λ v n. bind (lists_at s n (tag Changes)) (λ c. middle c.1 (λ o d e at. bind (read_at (counts (tag Number)) s at)
      (λ m. bind (read_at (text (tag NodeId) 20) s m.1) (λ x. part_three v c.0 o d e m.0 x.0 x.1)))))

  pub record_is : record_of s ≡ code
  unfolding record_of body to_record
  record_is =
      ap (λ (o : Option (Values table)). bind o (λ v. Some (to_record v))) (layout_is s table)
      ∙ go (rows_at s table 0)
      ∙ with_at s table 0 (λ v n. guard (eqb n (length s)) (to_record v))
      ∙ (λ i. rows_with s front_rows 0 (λ v n. bind (read_at (row_dec Changes) s n) (λ p. middle p.1 (λ o d e at. bind (read_at (row_dec Number) s at)
      (λ m. node_step m.1 (part_three v (length (or_none p.0), padded (or_none p.0)) o d e (or_zero m.0)) i)))))
      ∙ (λ i. rows_with s front_rows 0 (λ v n. bind (read_at (row_dec Changes) s n) (λ p. middle p.1 (λ o d e at. number_step at
      (λ m k. bind (read_at (text (tag NodeId) 20) s k) (λ x. part_three v (length (or_none p.0), padded (or_none p.0)) o d e m x.0 x.1)) i))))
      ∙ (λ i. rows_with s front_rows 0 (λ v n. list_step n (λ c k. middle k (λ o d e at. bind (read_at (counts (tag Number)) s at)
      (λ m. bind (read_at (text (tag NodeId) 20) s m.1) (λ x. part_three v c o d e m.0 x.0 x.1)))) i))
    where
      go : (o : Option (Values table × ℕ))
          → bind {A = Values table} (ended s o) (λ v. Some (to_record v)) ≡ bind o (λ q. guard (eqb q.1 (length s)) (to_record q.0))
      go None = refl
      go (Some q) = by (eqb q.1 (length s)) (λ y. rw y) (λ n. rw n)
