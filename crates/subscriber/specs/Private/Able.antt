-- What private functions may count on.
use Rattle.std.specs.Prelude.{◌^◌, ◌<◌}
use Rattle.subscriber.specs.declared.Subscriber.{Subscriber}

-- a place for one change more, a number for one record more
pub record Roomy (s : Subscriber) : Type 0 where
  pub count : s.count < 15
  pub closed : s.closed < 10 ^ 15
