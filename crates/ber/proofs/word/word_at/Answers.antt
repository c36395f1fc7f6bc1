-- `ber::word::word_at` meets its contract: a number that was read, and a test.
use mathlib.Core.Path.{refl, sym}
use Prim.Native.Nat.{◌^◌}
use lib.Dec.{ltb}
use Rattle.format.specs.Maybe.{guard}
use Rattle.format.specs.Format.{refined}
use Rattle.ber.specs.Int.{int}
use Rattle.ber.proofs.Readers.{first_as}
use Rattle.ber.proofs.Words.{word_no, word_yes}
use Rattle.ber.proofs.word.word_at.Goals as goal

pub returns-in_err-v : goal.returns-in_err-v
returns-in_err-v c =
    let a = c.args in
    rw (first_as a.tag int (refined (λ n. ltb n (2 ^ 32)) int) (λ n. guard (ltb n (2 ^ 32)) n) (λ z. refl) a.s.now a.at, ← c.int_at.ensures, c.in_err-v.was)
    c.from_residual.ensures

pub returns-in_err-ok : goal.returns-in_err-ok
returns-in_err-ok c =
    let a = c.args in
    rw (
      first_as a.tag int (refined (λ n. ltb n (2 ^ 32)) int) (λ n. guard (ltb n (2 ^ 32)) n) (λ z. refl) a.s.now a.at,
      ← c.int_at.ensures,
      c.in_ok-v.was,
      word_no c.try_from.result c.in_ok-v.v (sym c.in_err-ok.ensures.value) c.try_from.ensures,
    ) c.from_residual-in_err-ok.ensures

pub returns : goal.returns
returns c =
    let a = c.args in
    rw (
      first_as a.tag int (refined (λ n. ltb n (2 ^ 32)) int) (λ n. guard (ltb n (2 ^ 32)) n) (λ z. refl) a.s.now a.at,
      ← c.int_at.ensures,
      c.in_ok-v.was,
      word_yes c.try_from.result c.in_ok-v.v c.in_ok-ok.field-0 (sym c.in_ok-ok.ensures.value) c.try_from.ensures,
    ) refl
