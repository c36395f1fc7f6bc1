-- A context.
use Rattle.std.specs.Prelude.{List, []}
use Rattle.container.specs.declared.Container.{Container}
use Rattle.container.specs.Open.{no_open}
use Rattle.container.specs.Open as O
use Rattle.octets.specs.Filled.{fill_to}
use Rattle.context.specs.declared.Context.{Context}

-- the containers that have ended in its open record
abbrev pub used : Context → List Container
used c = O.used c.current

-- what a free slot holds
abbrev pub no_context : Context
no_context = record {
  active = 0;
  flags = 0;
  set = 0;
  name = record { id = 0; ggsn = 0 };
  imsi = fill_to 8 0 [];
  apn = fill_to 63 0 [];
  apnlen = 0;
  pdptype = 0;
  address = 0;
  current = no_open;
  closed = 0;
}
