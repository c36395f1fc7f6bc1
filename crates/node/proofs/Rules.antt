-- The rules of a sound node one by one.
use mathlib.Core.Path.{◌≡◌}
use mathlib.Core.Bool.{true, ◌&&◌}
use mathlib.Core.List.{map}
use lib.Dec.{leb, eqb}
use Rattle.format.proofs.Tests.{both}
use Rattle.profile.specs.Profile.{profile_ok}
use Rattle.limits.specs.Sets.{sets_ok}
use Rattle.context.specs.Sound.{slots_ok}
use Rattle.context.specs.Slots.{slot_of, distinct}
use Rattle.keys.specs.Slots as named
use Rattle.subscriber.specs.Subscriber.{slot_of as imsiSlot}
use Rattle.subscriber.specs.Sound.{slots_ok as subscribersOk}
use Rattle.node.specs.declared.Node.{Node}
use Rattle.node.specs.Sound.{sound, latest, most_accepted}

pub record Rules (n : Node) : Type 0 where
  pub profile : profile_ok n.profile ≡ true
  pub sets : sets_ok n.profile.sets n.settings.sets ≡ true
  pub names : distinct (map slot_of n.contexts) ≡ true
  pub slots : slots_ok n.profile.sets n.profile.zone n.clock n.accepted n.contexts ≡ true
  pub imsis : named.distinct eqb (map imsiSlot n.subscribers) ≡ true
  pub places : subscribersOk n.profile.zone n.clock n.accepted n.subscribers ≡ true

pub rules : (n : Node) → sound n ≡ true → Rules n
unfolding sound
rules n s =
    let p = profile_ok n.profile in
    let a = p && sets_ok n.profile.sets n.settings.sets in
    let b = leb n.clock latest in
    let c = leb n.accepted most_accepted in
    let d = distinct (map slot_of n.contexts) in
    let e = slots_ok n.profile.sets n.profile.zone n.clock n.accepted n.contexts in
    let f = named.distinct eqb (map imsiSlot n.subscribers) in
    let u = both (a && b && c && d && e && f) (subscribersOk n.profile.zone n.clock n.accepted n.subscribers) s in
    let v = both (a && b && c && d && e) f u.0 in
    let w = both (a && b && c && d) e v.0 in
    let x = both (a && b && c) d w.0 in
    let y = both (a && b) c x.0 in
    let z = both p (sets_ok n.profile.sets n.settings.sets) (both a b y.0).0 in
    record { profile = z.0; sets = z.1; names = x.1; slots = w.1; imsis = v.1; places = u.1 }
