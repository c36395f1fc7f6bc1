-- `ber::imsi::filled` meets its contract: what is left to look at decides.
use mathlib.Core.Path.{refl, sym, ◌∙◌}
use native.Mathlib.Omega.{arith}
use Rattle.ber.specs.Imsi.{halves}
use Rattle.ber.proofs.Imsis.{halves_length, all_f_stop, all_f_more, all_f_end}
use Rattle.ber.proofs.imsi.filled.Goals as goal

pub loop-i-init : goal.loop-i-init
loop-i-init c = refl

pub returns-then-half-ne15 : goal.returns-then-half-ne15
returns-then-half-ne15 c =
    let l = c.loop-i in
    let hs = halves c.args.s.now in
    all_f_stop hs l.i (omega (
      arith,
      halves_length c.args.s.now,
      c.requires,
    )) (λ e. c.if-half-ne15.true (c.half.ensures ∙ e)) ∙ l.invariant

pub loop-i-preserved : goal.loop-i-preserved
loop-i-preserved c =
    let l = c.loop-i in
    let hs = halves c.args.s.now in
    sym (all_f_more hs l.i (omega (arith, halves_length c.args.s.now, c.requires)) (omega (arith, c.half.ensures))) ∙ l.invariant

pub returns : goal.returns
returns c =
    let l = c.loop-i in
    let hs = halves c.args.s.now in
    all_f_end hs l.i (omega (arith, halves_length c.args.s.now, c.requires)) ∙ l.invariant
