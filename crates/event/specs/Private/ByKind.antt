-- The rows of the table of kinds, as the code has them.
use Rattle.std.specs.Prelude.{◌≡◌, List, ℕ, ◌≤◌, ◌<◌}
use Rattle.std.specs.Prelude.{Option, Result, MatchResult}
use Rattle.std.specs.Bool.{then_some}
use Rattle.event.specs.Kinds.{Kind}
use Rattle.event.specs.Kinds.{activate_kind, traffic_kind, qos_kind, tariff_kind, release_kind, tick_kind, management_kind}
use Rattle.event.specs.Kinds.{attach_kind, location_kind, subscriber_kind, detach_kind, replace_kind}
use Rattle.event.specs.declared.Event.{Event}
use Rattle.event.specs.declared.Refusal.{Refusal}
use Rattle.event.specs.declared.Refusal.TheVariants.{UnknownKind}
use Rattle.event.specs.declared.kinds.Kind as C
use Rattle.event.specs.declared.kinds.Kind.TheVariants.{Activate, Traffic, Qos, Tariff, Release, Tick, Management}
use Rattle.event.specs.declared.kinds.Kind.TheVariants.{Attach, Location, ManageSubscriber, Detach, Replace}

-- the row of a kind
abbrev pub row_by : C.Kind → Kind
row_by Activate = activate_kind
row_by Traffic = traffic_kind
row_by Qos = qos_kind
row_by Tariff = tariff_kind
row_by Release = release_kind
row_by Tick = tick_kind
row_by Management = management_kind
row_by Attach = attach_kind
row_by Location = location_kind
row_by ManageSubscriber = subscriber_kind
row_by Detach = detach_kind
row_by Replace = replace_kind

-- the kind whose row has this number, or that none of 1 to 12 is this number
abbrev pub Decodes : ℕ → Result C.Kind Refusal → Type 0
Decodes n r = MatchResult r (λ k. (row_by k).number ≡ n) (λ e. (e ≡ UnknownKind) × (1 ≤ n → 12 < n))

-- what an event says by a row, where its fields are in range
abbrev pub said_in : Kind → List ℕ → Option Event
said_in k s = then_some (k.in_range s) (k.says s)
