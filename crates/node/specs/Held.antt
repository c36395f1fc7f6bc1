-- What the types say of every node that the code can hold: how many octets and places, how wide the numbers; and of an event's octets.
use Rattle.std.specs.Prelude.{◌≡◌, true, List, ℕ, ◌^◌, ◌<◌, length}
use Rattle.profile.specs.declared.Profile.{Profile}
use Rattle.context.specs.declared.Context.{Context}
use Rattle.subscriber.specs.Held.{HeldSubscriber}
use Rattle.history.specs.Lists.{All}
use Rattle.node.specs.declared.Node.{Node}
use Rattle.node.specs.Sound.{sound}

-- each is an octet
abbrev pub Octets : List ℕ → Type 0
Octets s = All (λ x. x < 256) s

-- so many octets and places
pub record Shaped (c : Context) : Type 0 where
  pub imsi : length c.imsi ≡ 8
  pub apn : length c.apn ≡ 63
  pub containers : length c.current.containers ≡ 15

pub record HeldContext (c : Context) : Type 0 where
  pub shape : Shaped c
  pub id : c.name.id < 2 ^ 32
  pub ggsn : c.name.ggsn < 2 ^ 32
  pub pdptype : c.pdptype < 2 ^ 16
  pub address : c.address < 2 ^ 32

pub record HeldProfile (p : Profile) : Type 0 where
  pub sgsn : p.sgsn < 2 ^ 32
  pub nodeid : length p.nodeid ≡ 20

pub record Held (n : Node) : Type 0 where
  pub profile : HeldProfile n.profile
  pub size : length n.contexts ≡ 16
  pub contexts : All HeldContext n.contexts
  pub places : length n.subscribers ≡ 16
  pub subscribers : All HeldSubscriber n.subscribers

-- a sound node that the code can hold
pub record Whole (n : Node) : Type 0 where
  pub sound : sound n ≡ true
  pub held : Held n
