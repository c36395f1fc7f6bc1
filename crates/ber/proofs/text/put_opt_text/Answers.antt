-- `ber::text::put_opt_text` meets its contract.
use Rattle.ber.proofs.Writers.{puts_is}
use Rattle.ber.proofs.Texts.{opt_none, opt_some}
use Rattle.ber.proofs.text.put_opt_text.Goals as goal

pub returns-then-n-eq0 : goal.returns-then-n-eq0
returns-then-n-eq0 c = let a = c.args in puts_is (opt_none a.tag a.src.now a.n c.if-n-eq0.true) c.put_all.ensures

pub returns : goal.returns
returns c = let a = c.args in puts_is (opt_some a.tag a.src.now a.n c.if-n-eq0.false) c.put_text.ensures
