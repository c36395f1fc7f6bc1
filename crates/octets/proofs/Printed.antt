-- Names that 02's W5 prints, and the edges of lowering, computed.
use mathlib.Core.Path.{◌≡◌, refl}
use mathlib.Core.List.{[], ◌∷◌, map}
use Rattle.octets.specs.Chars.{lower, lowered}

-- "Crew.Ship" and "crew.ship"
pub crew_ship : lowered (0x43 ∷ 0x72 ∷ 0x65 ∷ 0x77 ∷ 0x2E ∷ 0x53 ∷ 0x68 ∷ 0x69 ∷ 0x70 ∷ []) ≡
    (0x63 ∷ 0x72 ∷ 0x65 ∷ 0x77 ∷ 0x2E ∷ 0x73 ∷ 0x68 ∷ 0x69 ∷ 0x70 ∷ [])
unfolding lowered lower
crew_ship = refl

-- the octet before 'A', 'A', 'Z', and the one after
pub edges : map lower (0x40 ∷ 0x41 ∷ 0x5A ∷ 0x5B ∷ []) ≡ (0x40 ∷ 0x61 ∷ 0x7A ∷ 0x5B ∷ [])
unfolding lower
edges = refl
