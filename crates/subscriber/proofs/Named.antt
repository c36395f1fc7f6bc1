-- A subscriber that hears something keeps its name, and so have its records.
use mathlib.Core.Path.{◌≡◌, refl}
use mathlib.Core.Bool.{true}
use Rattle.std.specs.Prelude.{Option, None, Some}
use Prim.Native.Nat.{ℕ}
use Rattle.format.proofs.Tests.{by}
use Rattle.history.specs.Lists.{All}
use Rattle.history.proofs.Lists.{none≢some}
use Rattle.profile.specs.declared.Profile.{Profile}
use Rattle.mcdr.specs.Change.{same_place}
use Rattle.subscriber.specs.declared.Subscriber.{Subscriber}
use Rattle.subscriber.specs.declared.Notice.{Notice}
use Rattle.subscriber.specs.declared.Notice.TheVariants.{Moved, Managed, Detached}
use Rattle.subscriber.specs.Subscriber.{place_of, taken}
use Rattle.subscriber.specs.Hear.{listed, record_of, fifteenth, closes_with, hear}

abbrev SameName : Subscriber → Subscriber → Type 0
SameName s z = (z.imsi ≡ s.imsi) × (taken s ≡ true → taken z ≡ true)

abbrev NextNamed : Subscriber → Option Subscriber → Type 0
NextNamed s None = Unit {0}
NextNamed s (Some z) = SameName s z

module _ (p : Profile) (s : Subscriber) (t : ℕ) where
  next_named : (m : Notice) → NextNamed s (hear p s t m).next
  unfolding hear closes_with listed
  next_named (Moved q) =
      by (same_place (place_of s) q) (λ a. rw a (refl, λ e. e))
      (λ a. by (fifteenth s) (λ b. rw (a, b) (refl, λ e. refl)) (λ b. rw (a, b) (refl, λ e. e)))
  next_named Managed = (refl, λ e. refl)
  next_named (Detached cause) = tt

  pub hear_named : (m : Notice) {z : Subscriber} → (hear p s t m).next ≡ Some z → (z.imsi ≡ s.imsi) × (taken s ≡ true → taken z ≡ true)
  hear_named m {z} e = go (hear p s t m).next (next_named m) e
    where
      go : (o : Option Subscriber) → NextNamed s o → o ≡ Some z → SameName s z
      go None k i = absurd (none≢some i)
      go (Some y) k i = let j : y ≡ z = cc in rw j at k

  pub hear_names : (m : Notice) → All (λ r. r.imsi ≡ s.imsi) (hear p s t m).out
  unfolding hear closes_with listed record_of
  hear_names (Moved q) =
      by (same_place (place_of s) q) (λ a. rw a tt) (λ a. by (fifteenth s) (λ b. rw (a, b) (refl, tt)) (λ b. rw (a, b) tt))
  hear_names Managed = (refl, tt)
  hear_names (Detached cause) = (refl, tt)
