-- `entries::step::value_at` meets its contract: a law for each answer.
use mathlib.Core.Path.{◌∙◌, sym}
use Prim.Native.Nat.{◌+◌}
use native.Mathlib.Omega.{arith}
use Rattle.ber.proofs.Places.{len_some}
use Rattle.entries.proofs.Exits.{no_tag, other_tag, tagged, short_length, other_length, whole_value, long_value, cut_value}
use Rattle.entries.proofs.step.value_at.Goals as goal

pub returns-then-s-at : goal.returns-then-s-at
returns-then-s-at c = let a = c.args in no_tag a.s.now a.from a.at c.if-s-at.true

pub returns-then-not-is_tag : goal.returns-then-not-is_tag
returns-then-not-is_tag c =
    let a = c.args in
    other_tag a.s.now a.from a.at (omega arith) (sym c.is_tag.ensures ∙ c.if-not-is_tag.true)

pub returns-then-s-b-lt3 : goal.returns-then-s-b-lt3
returns-then-s-b-lt3 c =
    let a = c.args in
    let t = sym c.is_tag.ensures ∙ c.if-not-is_tag.false in
    short_length a.s.now a.from a.at c.if-s-b-lt3.true
    ∙ tagged a.s.now a.from a.at (omega arith) t (sym c.in_default.is ∙ c.len_at.ensures)

pub returns-in_default : goal.returns-in_default
returns-in_default c =
    let a = c.args in
    let t = sym c.is_tag.ensures ∙ c.if-not-is_tag.false in
    other_length a.s.now a.from a.at c.if-s-b-lt3.false
    ∙ tagged a.s.now a.from a.at (omega arith) t (sym c.in_default.is ∙ c.len_at.ensures)

pub overflow_sub-s-2 : goal.overflow_sub-s-2
overflow_sub-s-2 c =
    let a = c.args in
    (len_some a.s.now (a.at + 1) (omega arith) (sym c.in-Some.is ∙ c.len_at.ensures)).0

pub returns-then-n-s : goal.returns-then-n-s
returns-then-n-s c =
    let a = c.args in
    let t = sym c.is_tag.ensures ∙ c.if-not-is_tag.false in
    whole_value a.s.now a.from a.at _ _ c.if-n-s.true
    ∙ tagged a.s.now a.from a.at (omega arith) t (sym c.in-Some.is ∙ c.len_at.ensures)

pub returns-then-n-gt1020 : goal.returns-then-n-gt1020
returns-then-n-gt1020 c =
    let a = c.args in
    let t = sym c.is_tag.ensures ∙ c.if-not-is_tag.false in
    long_value a.s.now a.from a.at _ _ c.if-n-s.false c.if-n-gt1020.true
    ∙ tagged a.s.now a.from a.at (omega arith) t
    (sym c.in-Some.is ∙ c.len_at.ensures)

pub returns : goal.returns
returns c =
    let a = c.args in
    let t = sym c.is_tag.ensures ∙ c.if-not-is_tag.false in
    cut_value a.s.now a.from a.at _ _ c.if-n-s.false c.if-n-gt1020.false
    ∙ tagged a.s.now a.from a.at (omega arith) t
    (sym c.in-Some.is ∙ c.len_at.ensures)
