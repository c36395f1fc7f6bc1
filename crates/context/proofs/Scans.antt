-- What the test of the table asks: the laws of such tests are history's (proofs/Scans.antt).
use mathlib.Core.Path.{refl}
use Prim.Native.Nat.{ℕ}
use Rattle.history.proofs.Scans.{Asks}
use Rattle.context.specs.Sound.{slot_ok, slots_ok}

pub slots_ask : (count zone clock accepted : ℕ) → Asks (slots_ok count zone clock accepted) (λ c cs. slot_ok count zone clock accepted c)
slots_ask count zone clock accepted = record { step = λ c cs. refl; none = refl }
