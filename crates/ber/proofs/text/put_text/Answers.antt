-- `ber::text::put_text` meets its contract.
use mathlib.Core.Path.{sym}
use lib.Seq.{length-take-le}
use Rattle.ber.proofs.Writers.{puts_is, puts_none}
use Rattle.ber.proofs.Texts.{text_cut, text_form_lem}
use Rattle.ber.proofs.text.put_text.Goals as goal

pub returns-then-src-n : goal.returns-then-src-n
returns-then-src-n c = let a = c.args in puts_is (text_cut a.tag a.src.now a.n c.if-src-n.true) puts_none

pub slice_bounds-put_tlv-end : goal.slice_bounds-put_tlv-end
slice_bounds-put_tlv-end c = sym (length-take-le _ _ c.if-src-n.false)

pub returns : goal.returns
returns c =
    let a = c.args in puts_is
    (text_form_lem a.tag a.src.now a.n c.if-src-n.false) c.put_tlv.ensures
