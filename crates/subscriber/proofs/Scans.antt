-- What the test of the table asks: the laws of such tests are history's (proofs/Scans.antt).
use mathlib.Core.Path.{refl}
use Prim.Native.Nat.{ℕ}
use Rattle.history.proofs.Scans.{Asks}
use Rattle.subscriber.specs.Sound.{slot_ok, slots_ok}

pub slots_ask : (zone clock accepted : ℕ) → Asks (slots_ok zone clock accepted) (λ s ss. slot_ok zone clock accepted s)
slots_ask zone clock accepted = record { step = λ s ss. refl; none = refl }
