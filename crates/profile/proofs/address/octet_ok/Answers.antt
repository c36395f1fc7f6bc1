-- `profile::address::octet_ok` meets its contract.
use mathlib.Core.Path.{sym, ap, ◌∙◌}
use Rattle.profile.proofs.Numbers.{fits, octet_read}
use Rattle.profile.proofs.address.octet_ok.Goals as goal

pub returns-in-Ok : goal.returns-in-Ok
returns-in-Ok c = ap fits (sym c.in-Ok.is ∙ c.read.ensures) ∙ octet_read c.args.v.now

pub returns-in-Err : goal.returns-in-Err
returns-in-Err c = ap fits (sym c.in-Err.is ∙ c.read.ensures) ∙ octet_read c.args.v.now
