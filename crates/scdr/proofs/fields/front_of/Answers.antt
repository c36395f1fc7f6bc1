-- `scdr::fields::front_of` meets its contract: five fields one after another.
use mathlib.Core.Path.{refl, sym, ◌∙◌}
use Rattle.ber.proofs.Readers.{place_none, place_some}
use Rattle.scdr.specs.Private.Pieces.{front_of}
use Rattle.scdr.proofs.fields.front_of.Goals as goal

pub returns-in_err-at : goal.returns-in_err-at
unfolding front_of
returns-in_err-at c =
    let a = c.args in
    rw (place_none _ (sym c.const_at.ensures ∙ c.in_err-at.was)) c.from_residual.ensures

pub returns-in_err-network : goal.returns-in_err-network
unfolding front_of
returns-in_err-network c =
    let a = c.args in
    rw (place_some _ _ (sym c.const_at.ensures ∙ c.in_ok-at.was), ← c.flag_at.ensures, c.in_err-network.was) c.from_residual-in_err-network.ensures

pub returns-in_err-imsi : goal.returns-in_err-imsi
unfolding front_of
returns-in_err-imsi c =
    let a = c.args in
    rw (place_some _ _ (sym c.const_at.ensures ∙ c.in_ok-at.was), ← c.flag_at.ensures, c.in_ok-network.was, ← c.imsi_at.ensures, c.in_err-imsi.was) c.from_residual-in_err-imsi.ensures

pub returns-in_err-sgsn : goal.returns-in_err-sgsn
unfolding front_of
returns-in_err-sgsn c =
    let a = c.args in
    rw (place_some _ _ (sym c.const_at.ensures ∙ c.in_ok-at.was), ← c.flag_at.ensures, c.in_ok-network.was, ← c.imsi_at.ensures, c.in_ok-imsi.was, ← c.address_at.ensures, c.in_err-sgsn.was) c.from_residual-in_err-sgsn.ensures

pub returns-in_err-charging : goal.returns-in_err-charging
unfolding front_of
returns-in_err-charging c =
    let a = c.args in
    rw (place_some _ _ (sym c.const_at.ensures ∙ c.in_ok-at.was), ← c.flag_at.ensures, c.in_ok-network.was, ← c.imsi_at.ensures, c.in_ok-imsi.was, ← c.address_at.ensures, c.in_ok-sgsn.was, ← c.word_at.ensures, c.in_err-charging.was) c.from_residual-in_err-charging.ensures

pub returns : goal.returns
unfolding front_of
returns c =
    let a = c.args in
    rw (place_some _ _ (sym c.const_at.ensures ∙ c.in_ok-at.was), ← c.flag_at.ensures, c.in_ok-network.was, ← c.imsi_at.ensures, c.in_ok-imsi.was, ← c.address_at.ensures, c.in_ok-sgsn.was, ← c.word_at.ensures, c.in_ok-charging.was) refl
