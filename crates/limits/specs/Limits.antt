-- When a record closes by itself: its limits, in range (01, "Profile and clock").
use Rattle.std.specs.Prelude.{Bool, ◌&&◌, ◌^◌, leb, eqb}
use Rattle.limits.specs.declared.Limits.{Limits}

-- volume limit 1..1,000,000,000,000 octets; time limit 1..604,800 s; change limit 1..15
unfoldable pub limits_ok : Limits → Bool
limits_ok l =
    leb 1 l.volume && leb l.volume (10 ^ 12) && leb 1 l.seconds && leb l.seconds 604800 && leb 1 l.changes && leb l.changes 15

-- all zero, which is out of range: what stands where there are no limits
abbrev pub no_limits : Limits
no_limits = record { volume = 0; seconds = 0; changes = 0 }

unfoldable pub blank_limits : Limits → Bool
blank_limits l = eqb l.volume 0 && eqb l.seconds 0 && eqb l.changes 0
