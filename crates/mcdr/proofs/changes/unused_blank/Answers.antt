-- `mcdr::changes::unused_blank` meets its contract: `all` tests each place from n on.
use Rattle.std.proofs.Common.{◌≡◌, true, false, drop, rules, tests}
use Rattle.std.proofs.lemmas.Iterator.{cases_from_all, YieldsList-from_slice}
use Rattle.std.proofs.lemmas.Iterator.Adapters.{YieldsList-from_skip}
use Rattle.format.proofs.Each.{each_told}
use Rattle.mcdr.specs.Changes.{is_blank, blanks}
use Rattle.mcdr.proofs.Padded.{all_nil, all_cons}
use Rattle.mcdr.proofs.changes.unused_blank.Goals as goal

pub returns : goal.returns
returns c =
    each_told is_blank blanks all_nil all_cons (drop c.args.n c.args.v) c.all.result
    (cases_from_all _ _ _ (λ x. is_blank x ≡ true) (λ x. is_blank x ≡ false) c.all.ensures.ran
    (YieldsList-from_skip c.args.n (YieldsList-from_slice c.args.v cc) cc)
    (λ x q k. search (rules, tests)) (λ x q k. search (rules, tests)))
