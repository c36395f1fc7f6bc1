-- Any two answers that meet a promise are equal: a theorem for each form of promise.
use mathlib.Core.Path.{◌≡◌, sym, ◌∙◌}
use Rattle.std.specs.Prelude.{Option}
use mathlib.Core.List.{List}
use Prim.Native.Nat.{ℕ}
use Rattle.std.specs.Prelude.{Option, Result}
use Rattle.ber.specs.declared.written.NotWritten.{NotWritten}
use denote.Ref.{Bor}
use Rattle.scdr.specs.declared.Record.{Record}
use Rattle.scdr.specs.Answers.{Writes, Sizes}
use Rattle.scdr.specs.Layout.{scdr}
use Rattle.scdr.specs.Apn.{ShowsApn}

-- the answer and the buffer
pub writes_fixes : {r : Record} {b c d : List ℕ} {x y : Result ℕ NotWritten} → Writes r b c x → Writes r b d y
    → ◌≡◌ {A = Result ℕ NotWritten × List ℕ} (x, c) (y, d)
writes_fixes a b = a.is ∙ sym b.is

pub sizes_fixes : {r : Record} {m n : Option ℕ} → Sizes r m → Sizes r n → m ≡ n
sizes_fixes a b = a.is ∙ sym b.is

-- the record, or none
pub reads_record_fixes : (s : List ℕ) (a b : Option Record) → a ≡ scdr.dec s → b ≡ scdr.dec s → a ≡ b
reads_record_fixes s a b e f = e ∙ sym f

-- where the part that is shown begins, and its octets: with its pointer and its length a part is fixed. (The third component of a reference in the
-- logic is the name under which a proof tracks it: no program sees it.)
pub shows_apn_fixes : {s p q : Bor (List ℕ)} → ShowsApn s p → ShowsApn s q → (p.ref_ptr ≡ q.ref_ptr) × (p.now ≡ q.now)
shows_apn_fixes a b = (a.place ∙ sym b.place, a.part ∙ sym b.part)
