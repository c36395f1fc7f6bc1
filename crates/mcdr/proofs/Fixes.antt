-- Any two answers that meet a promise are equal: a theorem for each form of promise.
use mathlib.Core.Path.{◌≡◌, sym, ◌∙◌}
use Rattle.std.specs.Prelude.{Option}
use mathlib.Core.List.{List}
use Prim.Native.Nat.{ℕ}
use Rattle.std.specs.Prelude.{Result}
use Rattle.ber.specs.declared.written.NotWritten.{NotWritten}
use Rattle.mcdr.specs.declared.MmRecord.{MmRecord}
use Rattle.mcdr.specs.Answers.{Writes}
use Rattle.mcdr.specs.Layout.{mcdr}

-- the answer and the buffer
pub writes_fixes : {r : MmRecord} {b c d : List ℕ} {x y : Result ℕ NotWritten} → Writes r b c x → Writes r b d y
    → ◌≡◌ {A = Result ℕ NotWritten × List ℕ} (x, c) (y, d)
writes_fixes a b = a.is ∙ sym b.is

-- the record, or none
pub reads_record_fixes : (s : List ℕ) (a b : Option MmRecord) → a ≡ mcdr.dec s → b ≡ mcdr.dec s → a ≡ b
reads_record_fixes s a b e f = e ∙ sym f
