-- "A sound node" (01), and a fresh one.
use Rattle.std.specs.Prelude.{◌≡◌, Bool, cond, ◌&&◌, map, ℕ, ◌^◌, eqb, leb, replicate}
use Rattle.profile.specs.declared.Profile.{Profile}
use Rattle.profile.specs.Profile.{profile_ok, no_profile}
use Rattle.limits.specs.Sets.{first_editions, sets_ok}
use Rattle.context.specs.Context.{no_context}
use Rattle.context.specs.Sound.{slots_ok}
use Rattle.context.specs.Slots.{slot_of, distinct}
use Rattle.keys.specs.Slots as named
use Rattle.subscriber.specs.Subscriber.{no_subscriber, slot_of as imsiSlot}
use Rattle.subscriber.specs.Sound.{slots_ok as subscribersOk}
use Rattle.node.specs.declared.Node.{Node}

-- the last second of 2099
abbrev pub latest : ℕ
latest = 3155759999

-- so many events and no more
abbrev pub most_accepted : ℕ
most_accepted = 10 ^ 15

-- "Profile in range; clock and accepted count in range; active names distinct", and what each slot must be; and of subscribers (02, W4) "IMSIs
-- distinct", and what each slot must be; and the sets of limits that are in force (02, W6), as many as the profile gave
unfoldable pub sound : Node → Bool
sound n =
    profile_ok n.profile
    && sets_ok n.profile.sets n.settings.sets
    && leb n.clock latest
    && leb n.accepted most_accepted
    && distinct (map slot_of n.contexts)
    && slots_ok n.profile.sets n.profile.zone n.clock n.accepted n.contexts
    && named.distinct eqb (map imsiSlot n.subscribers)
    && subscribersOk n.profile.zone n.clock n.accepted n.subscribers

-- "Fresh node: clock 0, no contexts, no accepted events", no subscribers, and the profile's sets of limits, each with edition 1 (02, W6)
abbrev pub fresh_node : Profile → Node
fresh_node p = record {
  profile = p;
  settings = record { sets = first_editions p.sets p.limits };
  clock = 0;
  accepted = 0;
  contexts = replicate 16 no_context;
  subscribers = replicate 16 no_subscriber;
}

-- all zero, which is unsound
abbrev pub no_node : Node
no_node = fresh_node no_profile

-- "12: a fresh node asked for with a bad profile; no node is made"
unfoldable pub fresh_of : Profile → ℕ × Node
fresh_of p = cond (profile_ok p) (0, fresh_node p) (12, no_node)

pub record Makes (p : Profile) (answer : ℕ) (n : Node) : Type 0 where
  pub is : ◌≡◌ {A = ℕ × Node} (answer, n) (fresh_of p)
