-- `event::decode` meets its contract: a law for each row.
use mathlib.Core.Path.{◌≡◌, sym, ◌∙◌}
use native.Mathlib.Omega.{arith}
use Rattle.std.proofs.Common.{None, Some}
use Rattle.std.proofs.lemmas.Result.{err_from_is_err_and}
use Rattle.event.specs.declared.Refusal.TheVariants.{OutOfRange}
use Rattle.event.proofs.Table.{row_is, row_none}
use Rattle.event.proofs.Saying.{too_short, no_mark, unknown_kind, wrong_length, out_of_range, said_is}
use Rattle.event.proofs.decode.Goals as goal

pub returns-then-s-lt7 : goal.returns-then-s-lt7
returns-then-s-lt7 c = too_short c.args.s.now c.if-s-lt7.true

pub returns-then-not-is_marked : goal.returns-then-not-is_marked
returns-then-not-is_marked c = no_mark c.args.s.now c.if-s-lt7.false (sym c.is_marked.ensures ∙ c.if-not-is_marked.true)

pub returns-in_err-kind : goal.returns-in_err-kind
returns-in_err-kind c =
    let s = c.args.s.now in
    let m = sym c.is_marked.ensures ∙ c.if-not-is_marked.false in
    let p = err_from_is_err_and c.from_residual.result c.from_residual.ensures.1 in
    let n = row_none s (rw c.octet.ensures at c.in_err-kind.ensures.1) in
    rw (p.1, p.2, c.in_err-kind.ensures.0) (unknown_kind s c.if-s-lt7.false m n)

pub returns-then-s-whole : goal.returns-then-s-whole
returns-then-s-whole c =
    let s = c.args.s.now in
    let m = sym c.is_marked.ensures ∙ c.if-not-is_marked.false in
    let r = row_is s c.in_ok-kind.kind (c.in_ok-kind.ensures ∙ c.octet.ensures) in
    wrong_length s c.if-s-lt7.false m _ r (rw c.whole.ensures at c.if-s-whole.true)

pub returns-in_err-event : goal.returns-in_err-event
returns-in_err-event c =
    let s = c.args.s.now in
    let m = sym c.is_marked.ensures ∙ c.if-not-is_marked.false in
    let r = row_is s c.in_ok-kind.kind (c.in_ok-kind.ensures ∙ c.octet.ensures) in
    let p = err_from_is_err_and c.from_residual-in_err-event.result c.from_residual-in_err-event.ensures.1 in
    let e : c.event.result ≡ None = grind arith in
    let f : c.in_err-event.field-0.0 ≡ OutOfRange = grind arith in
    rw (p.1, p.2, f) (out_of_range s c.if-s-lt7.false m _ r (c.if-s-whole.false ∙ c.whole.ensures) (sym c.event.ensures ∙ e))

pub returns : goal.returns
returns c =
    let s = c.args.s.now in
    let m = sym c.is_marked.ensures ∙ c.if-not-is_marked.false in
    let r = row_is s c.in_ok-kind.kind (c.in_ok-kind.ensures ∙ c.octet.ensures) in
    let e : c.event.result ≡ Some c.in_ok-event.event = grind arith in
    said_is s c.if-s-lt7.false m _ r (c.if-s-whole.false ∙ c.whole.ensures) c.four.ensures (sym c.event.ensures ∙ e)
