-- `scdr::write::record_size` meets its contract: every record has room in 1,024 octets.
use mathlib.Core.Path.{refl}
use Rattle.scdr.proofs.Answering.{sizes}
use Rattle.scdr.proofs.write.record_size.Goals as goal

pub returns : goal.returns
returns c = rw c.ok.ensures.value (sizes c.args.r.now c.write_record.ensures.short refl c.write_record.ensures.writes)
