-- `ber::tlv::part_at` meets its contract: a law for each answer.
use mathlib.Core.Path.{◌∙◌, sym}
use Prim.Native.Nat.{◌+◌}
use native.Mathlib.Omega.{arith}
use Rattle.ber.specs.Tlv.{tlv_dec}
use Rattle.ber.proofs.Places.{len_none, len_some, part_end, part_other, part_bare, part_cut, part_there}
use Rattle.ber.proofs.Readers.{read_none, read_some}
use Rattle.ber.proofs.tlv.part_at.Goals as goal

pub returns-in_err-get-clause-reads : goal.returns-in_err-get-clause-reads
returns-in_err-get-clause-reads c =
    let a = c.args in
    rw c.from_residual.ensures (sym (read_none (tlv_dec a.tag) a.s.now a.at (λ _. part_end a.s.now a.at a.tag c.in_err-get.ensures.lookup.3)))

pub returns-then-branch-tag-clause-reads : goal.returns-then-branch-tag-clause-reads
returns-then-branch-tag-clause-reads c =
    let a = c.args in
    sym (read_none (tlv_dec a.tag) a.s.now a.at (λ _. part_other a.s.now a.at a.tag c.in_ok-get.ensures.lookup.3.0 (omega (arith, c.in_ok-get.ensures.lookup.3.1 0))))

pub returns-in_err-n-clause-reads : goal.returns-in_err-n-clause-reads
returns-in_err-n-clause-reads c =
    let a = c.args in
    rw c.from_residual-in_err-n.ensures
    (sym (read_none (tlv_dec a.tag) a.s.now a.at (λ _. part_bare a.s.now a.at a.tag c.in_ok-get.ensures.lookup.3.0 (omega (arith, c.in_ok-get.ensures.lookup.3.1 0))
    (len_none a.s.now (a.at + 1) (omega (arith, c.in_ok-get.ensures.lookup.3.0)) (sym c.in_err-n.was ∙ c.len_at.ensures)))))

pub overflow_sub-s : goal.overflow_sub-s
overflow_sub-s c = let a = c.args in (len_some a.s.now (a.at + 1) (omega (arith, c.in_ok-get.ensures.lookup.3.0)) (sym c.in_ok-n.was ∙ c.len_at.ensures)).0

pub returns-then-s-from-clause-reads : goal.returns-then-s-from-clause-reads
returns-then-s-from-clause-reads c =
    let a = c.args in
    let l = len_some a.s.now (a.at + 1) (omega (arith, c.in_ok-get.ensures.lookup.3.0)) (sym c.in_ok-n.was ∙ c.len_at.ensures) in
    sym (read_none (tlv_dec a.tag) a.s.now a.at (λ _. part_cut a.s.now a.at a.tag c.in_ok-get.ensures.lookup.3.0 (omega (arith, c.in_ok-get.ensures.lookup.3.1 0)) _ _ l (omega arith)))

pub slice_bounds-result-end : goal.slice_bounds-result-end
slice_bounds-result-end c =
    let a = c.args in
    let l = len_some a.s.now (a.at + 1) (omega (arith, c.in_ok-get.ensures.lookup.3.0)) (sym c.in_ok-n.was ∙ c.len_at.ensures) in
    omega arith

pub returns-clause-reads : goal.returns-clause-reads
returns-clause-reads c =
    let a = c.args in
    let l = len_some a.s.now (a.at + 1) (omega (arith, c.in_ok-get.ensures.lookup.3.0)) (sym c.in_ok-n.was ∙ c.len_at.ensures) in
    sym (read_some (tlv_dec a.tag) a.s.now a.at (omega (arith, c.in_ok-get.ensures.lookup.3.0)) (omega arith) (part_there a.s.now a.at a.tag c.in_ok-get.ensures.lookup.3.0 (omega (arith, c.in_ok-get.ensures.lookup.3.1 0)) _ _ l (omega arith)))
