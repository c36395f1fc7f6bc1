-- The derived equality of QoS profiles is the test of specs/Qos.antt.
use Rattle.std.specs.Prelude.{◌≡◌, ◌&&◌, eqb, refl}
use Rattle.std.proofs.Math.Bool.{and_assoc}
use Rattle.container.specs.declared.Qos.{Qos}
use Rattle.container.specs.Qos.{same_qos}

pub derived_same : (a b : Qos) → (eqb a.reliability b.reliability && (eqb a.delay b.delay && (eqb a.precedence b.precedence
    && (eqb a.peak b.peak && eqb a.mean b.mean)))) ≡ same_qos a b
unfolding same_qos
derived_same a b = simp and_assoc refl
