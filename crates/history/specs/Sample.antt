-- A sample, and no part of any product: a small node, so that the demand is seen to be met and wrong nodes to be refused. It shows how an
-- instance is made:
--   Events   what can happen, and the node's two settings: a volume limit, which a record keeps from its opening, and an offset of the
--            clock, which is read at each cut
--   Lines    a kind of subject: lines that count octets
--   Guests   a second kind, with its own names, records and cuts: guests that move from place to place
--   Node     a node with both, and its calls: one event, or several reports, which are applied up to the first that is refused
pub mod Events
pub mod Lines
pub mod Guests
pub mod Node
