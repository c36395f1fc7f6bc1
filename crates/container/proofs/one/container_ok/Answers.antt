-- `container::one::container_ok` meets its contract: the code is the test.
use mathlib.Core.Path.{ap₂}
use mathlib.Core.Bool.{Bool, ◌&&◌}
use Prim.Native.Nat.{◌^◌}
use lib.Dec.{leb, ltb}
use Rattle.container.specs.Container.{container_ok}
use Rattle.container.proofs.one.container_ok.Goals as goal

pub returns : goal.returns
unfolding container_ok
returns c =
    let a = c.args.c in
    ap₂ {C = Bool} (λ (x y : Bool). x && ltb a.uplink (2 ^ 40) && ltb a.downlink (2 ^ 40) && leb a.condition 2 && y)
    c.qos_ok-profile.ensures c.stamp_within-time.ensures
