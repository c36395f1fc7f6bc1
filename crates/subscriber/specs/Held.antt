-- What the types say of every subscriber that the code can hold, and of what it hears: how many octets and places, how wide the numbers.
use Rattle.std.specs.Prelude.{◌≡◌, Bool, true, length}
use Rattle.mcdr.specs.Change.{place_ok}
use Rattle.mcdr.specs.Rules.{all_places_ok}
use Rattle.subscriber.specs.declared.Subscriber.{Subscriber}
use Rattle.subscriber.specs.declared.Notice.{Notice}
use Rattle.subscriber.specs.declared.Notice.TheVariants.{Moved, Managed, Detached}

pub record HeldSubscriber (s : Subscriber) : Type 0 where
  pub imsi : length s.imsi ≡ 8
  pub changes : length s.changes ≡ 15
  pub place : place_ok s.place ≡ true
  pub places : all_places_ok s.changes ≡ true

unfoldable pub notice_held : Notice → Bool
notice_held (Moved q) = place_ok q
notice_held Managed = true
notice_held (Detached cause) = true
