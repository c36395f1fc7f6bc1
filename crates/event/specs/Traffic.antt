-- The octets of a traffic event that says given values: what a report in a list stands for (02, W2).
use Rattle.std.specs.Prelude.{List, ◌∷◌, ◌++◌, ℕ}
use Rattle.ber.specs.Int.{lowest}
use Rattle.event.specs.declared.Name.{Name}

-- "Every event begins with the mark C3 5E, a kind, and a 4-octet time", "2 traffic | ID 4, GGSN 4, uplink 4, downlink 4 | 23", big-endian
unfoldable pub traffic_event : Name → ℕ → ℕ → ℕ → List ℕ
traffic_event m t up down = 0xC3 ∷ 0x5E ∷ 2 ∷ (lowest 4 t ++ (lowest 4 m.id ++ (lowest 4 m.ggsn ++ (lowest 4 up ++ lowest 4 down))))
