-- `host::charging_fresh` meets its contract.
use mathlib.Core.Path.{sym, ap}
use Rattle.host.proofs.Starts.{told, begins, begins_not}
use Rattle.host.proofs.charging_fresh.Goals as goal

pub returns-in-Ok : goal.returns-in-Ok
returns-in-Ok c = begins _ _ _ _ c.begin.result c.begin.ensures (sym (ap told c.in-Ok.is))

pub returns-in-Err-Line : goal.returns-in-Err-Line
returns-in-Err-Line c = let w = c.in-Err-Line in begins_not c.begin.ensures w.is w.field-0-is c.no_node.ensures

pub returns-in-Err-Range : goal.returns-in-Err-Range
returns-in-Err-Range c = let w = c.in-Err-Range in begins_not c.begin.ensures w.is w.field-0-is c.no_node-in-Err-Range.ensures
