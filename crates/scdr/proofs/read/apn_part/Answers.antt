-- `scdr::read::apn_part` meets its contract.
use mathlib.Core.Path.{refl, subst}
use Rattle.std.specs.Prelude.{Option, None}
use Prim.Native.Nat.{ℕ}
use Rattle.scdr.specs.declared.Record.{Record}
use Rattle.scdr.specs.Private.Taken.{Taken}
use Rattle.scdr.proofs.Accepting.{shows_none}
use Rattle.scdr.proofs.read.apn_part.Goals as goal

pub returns-in-None : goal.returns-in-None
returns-in-None c = shows_none c.args.s _ (subst (λ (o : Option (Record × ℕ)). Taken c.args.s.now o) c.in-None.is c.take_apart.ensures) refl refl
