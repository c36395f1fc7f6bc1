-- `container::open::is_blank` meets its contract: the code is the test.
use Rattle.container.specs.Qos.{no_qos}
use Rattle.container.specs.Open.{blank_open}
use Rattle.container.proofs.Same.{derived_same}
use Rattle.container.proofs.open.is_blank.Goals as goal

pub returns : goal.returns
unfolding blank_open
returns c =
    rw
    (c.eq-same.ensures, c.no_qos.ensures, derived_same c.args.o.qos no_qos, c.is_blank-unlimited.ensures, c.unused_blank-unused.ensures)
