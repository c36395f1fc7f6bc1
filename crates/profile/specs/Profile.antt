-- The profile in range (01, "Profile and clock"; 02, W6).
use Rattle.std.specs.Prelude.{Bool, ◌&&◌, leb, replicate}
use Rattle.limits.specs.Limits.{no_limits}
use Rattle.limits.specs.Sets.{first_editions, sets_ok}
use Rattle.octets.specs.Names.{node_ok}
use Rattle.profile.specs.declared.Profile.{Profile}

-- SGSN address of four octets, any; the sets of limits that it gives, each with edition 1, those of a node: 1 to 8, in range, unused ones zero;
-- offset -720..840 minutes, kept as 720 more; node ID of 0..20 characters 20 to 7E, its unused octets zero
unfoldable pub profile_ok : Profile → Bool
profile_ok p = sets_ok p.sets (first_editions p.sets p.limits) && leb p.zone 1560 && node_ok p.nodeid p.nodelen

-- all zero, which is out of range: what stands where there is no profile
abbrev pub no_profile : Profile
no_profile = record { sgsn = 0; limits = replicate 8 no_limits; sets = 0; zone = 0; nodeid = replicate 20 0; nodelen = 0 }
