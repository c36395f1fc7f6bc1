-- The bench table holds: one statement over its twelve rows, computed.
use Rattle.std.proofs.Common.{T}
use Rattle.ber.specs.Int.{int_enc}
use Rattle.ber.specs.Length.{len_enc}
use Rattle.ber.specs.Imsi.{packed}
use Rattle.calendar.specs.Month.{month_len, seek, month_day}
use Rattle.calendar.specs.Stamp.{stamp_enc}
use Rattle.testing.specs.Table.{table, agree}

pub table_holds : T (agree table)
unfolding table agree int_enc len_enc packed stamp_enc month_day seek month_len
table_holds = tt
