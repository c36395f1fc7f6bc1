-- The cause with which a record closes: by what closes at once, then by the first limit that is met.
use mathlib.Core.Path.{◌≡◌, ap}
use mathlib.Core.Bool.{Bool, true, false, cond}
use Rattle.std.specs.Prelude.{Some}
use Prim.Native.Nat.{ℕ}
use Rattle.container.specs.declared.OpenRecord.{OpenRecord}
use Rattle.node.specs.declared.Message.{Message}
use Rattle.node.specs.Hear.{limit_met, closing}

module _ (o : OpenRecord) (t : ℕ) (m : Message) where
  pub closing_once : m.closes ≡ true → closing o t m ≡ Some m.cause
  unfolding closing
  closing_once e = ap (λ (b : Bool). cond b (Some m.cause) (limit_met o t m)) e

  pub closing_limit : m.closes ≡ false → closing o t m ≡ limit_met o t m
  unfolding closing
  closing_limit e = ap (λ (b : Bool). cond b (Some m.cause) (limit_met o t m)) e
