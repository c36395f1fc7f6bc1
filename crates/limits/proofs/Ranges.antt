-- What limits in range are, and those that are zero.
use mathlib.Core.Path.{◌≡◌}
use mathlib.Core.Bool.{true, ◌&&◌}
use Prim.Native.Nat.{◌^◌, ◌≤◌}
use lib.Dec.{leb, eqb}
use borrow.Author.Tests.{leb-true, eqb-true}
use Rattle.format.proofs.Tests.{both}
use Rattle.limits.specs.declared.Limits.{Limits}
use Rattle.limits.specs.Limits.{limits_ok, no_limits, blank_limits}

pub record LimitsHold (l : Limits) : Type 0 where
  pub some_octets : 1 ≤ l.volume
  pub few_octets : l.volume ≤ 10 ^ 12
  pub some_seconds : 1 ≤ l.seconds
  pub few_seconds : l.seconds ≤ 604800
  pub some_changes : 1 ≤ l.changes
  pub few_changes : l.changes ≤ 15

pub limits_hold : (l : Limits) → limits_ok l ≡ true → LimitsHold l
unfolding limits_ok
limits_hold l e =
    let a₁ = leb 1 l.volume in
    let a₂ = a₁ && leb l.volume (10 ^ 12) in
    let a₃ = a₂ && leb 1 l.seconds in
    let a₄ = a₃ && leb l.seconds 604800 in
    let a₅ = a₄ && leb 1 l.changes in
    let h₅ = both a₅ (leb l.changes 15) e in
    let h₄ = both a₄ (leb 1 l.changes) h₅.0 in
    let h₃ = both a₃ (leb l.seconds 604800) h₄.0 in
    let h₂ = both a₂ (leb 1 l.seconds) h₃.0 in
    let h₁ = both a₁ (leb l.volume (10 ^ 12)) h₂.0 in
    record {
      some_octets = leb-true 1 l.volume h₁.0;
      few_octets = leb-true l.volume (10 ^ 12) h₁.1;
      some_seconds = leb-true 1 l.seconds h₂.1;
      few_seconds = leb-true l.seconds 604800 h₃.1;
      some_changes = leb-true 1 l.changes h₄.1;
      few_changes = leb-true l.changes 15 h₅.1;
    }

pub blank_limits_lem : (l : Limits) → blank_limits l ≡ true → l ≡ no_limits
unfolding blank_limits
blank_limits_lem l e =
    let h₂ = both (eqb l.volume 0 && eqb l.seconds 0) (eqb l.changes 0) e in
    let h₁ = both (eqb l.volume 0) (eqb l.seconds 0) h₂.0 in
    let volume = eqb-true l.volume 0 h₁.0 in
    let seconds = eqb-true l.seconds 0 h₁.1 in
    let changes = eqb-true l.changes 0 h₂.1 in
    λ i. record { volume = volume i; seconds = seconds i; changes = changes i }
