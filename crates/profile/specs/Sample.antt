-- The profile of 01's "One session, whole", as a text; and one with two sets of limits, and one with eight.
use Rattle.std.specs.Prelude.{List, [], ◌∷◌, ◌++◌, ℕ, replicate}
use Rattle.limits.specs.declared.Limits.{Limits}
use Rattle.limits.specs.Limits.{no_limits}
use Rattle.profile.specs.declared.Profile.{Profile}

-- sgsn 10.0.0.1
abbrev pub line1 : List ℕ
line1 = 0x73 ∷ 0x67 ∷ 0x73 ∷ 0x6E ∷ 0x20 ∷ 0x31 ∷ 0x30 ∷ 0x2E ∷ 0x30 ∷ 0x2E ∷ 0x30 ∷ 0x2E ∷ 0x31 ∷ 10 ∷ []

-- limits 1000 60 2
abbrev pub line2 : List ℕ
line2 = 0x6C ∷ 0x69 ∷ 0x6D ∷ 0x69 ∷ 0x74 ∷ 0x73 ∷ 0x20 ∷ 0x31 ∷ 0x30 ∷ 0x30 ∷ 0x30 ∷ 0x20 ∷ 0x36 ∷ 0x30 ∷ 0x20 ∷ 0x32 ∷ 10 ∷ []

-- offset 0
abbrev pub line3 : List ℕ
line3 = 0x6F ∷ 0x66 ∷ 0x66 ∷ 0x73 ∷ 0x65 ∷ 0x74 ∷ 0x20 ∷ 0x30 ∷ 10 ∷ []

-- node-id
abbrev pub line4 : List ℕ
line4 = 0x6E ∷ 0x6F ∷ 0x64 ∷ 0x65 ∷ 0x2D ∷ 0x69 ∷ 0x64 ∷ 10 ∷ []

-- all four
abbrev pub session_text : List ℕ
session_text = line1 ++ line2 ++ line3 ++ line4

abbrev pub first_set : Limits
first_set = record { volume = 1000; seconds = 60; changes = 2 }

-- the same address, offset and node ID with other sets
abbrev pub with : List Limits → ℕ → Profile
with ls n = record { sgsn = 0x0A000001; limits = ls; sets = n; zone = 720; nodeid = replicate 20 0; nodelen = 0 }

abbrev pub session : Profile
session = with (first_set ∷ replicate 7 no_limits) 1

-- limits 5 7 15
abbrev pub second : List ℕ
second = 0x6C ∷ 0x69 ∷ 0x6D ∷ 0x69 ∷ 0x74 ∷ 0x73 ∷ 0x20 ∷ 0x35 ∷ 0x20 ∷ 0x37 ∷ 0x20 ∷ 0x31 ∷ 0x35 ∷ 10 ∷ []

abbrev pub pair_text : List ℕ
pair_text = line1 ++ line2 ++ second ++ line3 ++ line4

abbrev pub pair : Profile
pair = with (first_set ∷ record { volume = 5; seconds = 7; changes = 15 } ∷ replicate 6 no_limits) 2

-- as many as there can be
abbrev pub eight_text : List ℕ
eight_text = line1 ++ line2 ++ second ++ line2 ++ line2 ++ line2 ++ line2 ++ line2 ++ line2 ++ line3 ++ line4

abbrev pub eight : Profile
eight = with (first_set ∷ record { volume = 5; seconds = 7; changes = 15 } ∷ replicate 6 first_set) 8
