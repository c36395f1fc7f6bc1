-- Texts that read and texts that do not, computed.
use mathlib.Core.Path.{◌≡◌, refl}
use mathlib.Core.List.{List, [], ◌∷◌, ◌++◌}
use Prim.Native.Nat.{ℕ, ◌-◌, ◌^◌}
use mathlib.Core.Bool.{true, false}
use lib.ListN.{take, replicate}
use Rattle.std.specs.Prelude.{Result, Ok, Err}
use Rattle.limits.specs.Limits.{limits_ok, no_limits, blank_limits}
use Rattle.limits.specs.Sets.{first_editions, set_ok, blank_set, used_ok, sets_ok}
use Rattle.octets.specs.Names.{node_ok}
use Rattle.octets.specs.Chars.{all_of}
use Rattle.profile.specs.Fault.{unless, or_bad}
use Rattle.profile.specs.Cut.{has, up_to, past, begins}
use Rattle.profile.specs.Number.{number_fault, numeral, at_most}
use Rattle.profile.specs.Address.{octet_ok, octet_of}
use Rattle.profile.specs.Three.{three_fault, limits_of}
use Rattle.profile.specs.Offset.{west_fault, offset_fault, east, west, zone_of}
use Rattle.profile.specs.Node.{node_octets}
use Rattle.profile.specs.Line.{lines_past, line_fault}
use Rattle.profile.specs.Profile.{profile_ok}
use Rattle.profile.specs.Sets.{limits_name, limits_ahead, sets_in, limits_in}
use Rattle.profile.specs.Text.{sgsn_name, offset_name, node_name, first_bad, profile_by, profile_of, read_by, read_of}
use Rattle.profile.specs.Print.{digits_in, address_text, limits_text, offset_text, node_text, lines_of, text_of}
use Rattle.profile.specs.Sample.{line1, line2, line3, line4, session_text, first_set, with, session, pair_text, pair, eight_text, eight}
use Rattle.profile.specs.declared.fault.Fault.{Fault}
use Rattle.profile.specs.declared.fault.BadLine.{BadLine}
use Rattle.profile.specs.declared.fault.Fault.TheVariants.{Missing, End, Name, Space, Number, Zero, Address, More}
use Rattle.profile.specs.declared.Profile.{Profile}

abbrev badly : ℕ → Fault → Result Profile BadLine
badly n f = Err (record { line = n; fault = f })

-- ---- "One session, whole"; and more sets

pub record Samples : Type 0 where
  pub session_read : read_of session_text ≡ Ok session
  pub session_text_lem : text_of session ≡ session_text
  pub pair_read : read_of pair_text ≡ Ok pair
  pub pair_text_lem : text_of pair ≡ pair_text
  pub eight_read : read_of eight_text ≡ Ok eight
  pub eight_text_lem : text_of eight ≡ eight_text

pub samples : Samples
unfolding read_of read_by first_bad or_bad unless line_fault has up_to past begins number_fault three_fault all_of numeral at_most octet_ok west_fault offset_fault
    limits_ahead sets_in limits_in limits_of profile_by profile_of lines_past octet_of zone_of east west node_octets
    text_of lines_of address_text limits_text offset_text node_text digits_in
samples = record { session_read = refl; session_text_lem = refl; pair_read = refl; pair_text_lem = refl; eight_read = refl; eight_text_lem = refl }

-- ---- faults

-- the session with something else after a name
abbrev with_sgsn : List ℕ → List ℕ
with_sgsn t = (sgsn_name ++ t) ++ line2 ++ line3 ++ line4

abbrev with_set : List ℕ → List ℕ
with_set t = line1 ++ (limits_name ++ t) ++ line3 ++ line4

abbrev with_offset : List ℕ → List ℕ
with_offset t = line1 ++ line2 ++ (offset_name ++ t) ++ line4

pub record Faults : Type 0 where
  -- no text at all
  pub nothing : read_of [] ≡ badly 1 Missing
  -- the last line is missing
  pub three_lines : read_of (line1 ++ line2 ++ line3) ≡ badly 4 Missing
  -- nothing after the sets
  pub no_offset : read_of (line1 ++ line2 ++ line2) ≡ badly 4 Missing
  -- the last line feed is missing
  pub no_last_feed : read_of (take 47 session_text) ≡ badly 4 End
  -- an empty line after the last
  pub one_more : read_of (session_text ++ 10 ∷ []) ≡ badly 5 More
  -- and after the last of the longest text
  pub one_more_of_eight : read_of (eight_text ++ 10 ∷ []) ≡ badly 12 More
  -- lines 2 and 3 swapped
  pub swapped : read_of (line1 ++ line3 ++ line2 ++ line4) ≡ badly 2 Name
  -- no set
  pub no_set_lem : read_of (line1 ++ line3 ++ line4) ≡ badly 2 Name
  -- a ninth set
  pub nine_sets : read_of (line1 ++ line2 ++ line2 ++ line2 ++ line2 ++ line2 ++ line2 ++ line2 ++ line2 ++ line2 ++ line3 ++ line4) ≡ badly 10 Name
  -- limits  1000 60 2
  pub two_spaces : read_of (with_set (0x20 ∷ 0x20 ∷ 0x31 ∷ 0x30 ∷ 0x30 ∷ 0x30 ∷ 0x20 ∷ 0x36 ∷ 0x30 ∷ 0x20 ∷ 0x32 ∷ 10 ∷ [])) ≡ badly 2 Space
  -- limits1000 60 2
  pub no_space : read_of (with_set (0x31 ∷ 0x30 ∷ 0x30 ∷ 0x30 ∷ 0x20 ∷ 0x36 ∷ 0x30 ∷ 0x20 ∷ 0x32 ∷ 10 ∷ [])) ≡ badly 2 Space
  -- limits 1000 60 2, and limitsX in the next line
  pub later_set : read_of (line1 ++ line2 ++ (limits_name ++ 0x58 ∷ 10 ∷ []) ++ line3 ++ line4) ≡ badly 3 Space
  -- node-id and a space
  pub node_space : read_of (line1 ++ line2 ++ line3 ++ (node_name ++ 0x20 ∷ 10 ∷ [])) ≡ badly 4 Space
  -- limits and a space
  pub no_number : read_of (with_set (0x20 ∷ 10 ∷ [])) ≡ badly 2 Number
  -- limits 1000 60
  pub two_limits : read_of (with_set (0x20 ∷ 0x31 ∷ 0x30 ∷ 0x30 ∷ 0x30 ∷ 0x20 ∷ 0x36 ∷ 0x30 ∷ 10 ∷ [])) ≡ badly 2 Number
  -- limits 1000 60 2 1
  pub four_limits : read_of (with_set (0x20 ∷ 0x31 ∷ 0x30 ∷ 0x30 ∷ 0x30 ∷ 0x20 ∷ 0x36 ∷ 0x30 ∷ 0x20 ∷ 0x32 ∷ 0x20 ∷ 0x31 ∷ 10 ∷ [])) ≡ badly 2 Number
  -- limits 1000  60 2
  pub spaces_between : read_of (with_set (0x20 ∷ 0x31 ∷ 0x30 ∷ 0x30 ∷ 0x30 ∷ 0x20 ∷ 0x20 ∷ 0x36 ∷ 0x30 ∷ 0x20 ∷ 0x32 ∷ 10 ∷ [])) ≡ badly 2 Number
  -- limits 1000 60 2 and a space
  pub space_after : read_of (with_set (0x20 ∷ 0x31 ∷ 0x30 ∷ 0x30 ∷ 0x30 ∷ 0x20 ∷ 0x36 ∷ 0x30 ∷ 0x20 ∷ 0x32 ∷ 0x20 ∷ 10 ∷ [])) ≡ badly 2 Number
  -- limits 1000 60 2 and a carriage return
  pub return : read_of (with_set (0x20 ∷ 0x31 ∷ 0x30 ∷ 0x30 ∷ 0x30 ∷ 0x20 ∷ 0x36 ∷ 0x30 ∷ 0x20 ∷ 0x32 ∷ 0x0D ∷ 10 ∷ [])) ≡ badly 2 Number
  -- limits 01000 60 2
  pub leading_zero : read_of (with_set (0x20 ∷ 0x30 ∷ 0x31 ∷ 0x30 ∷ 0x30 ∷ 0x30 ∷ 0x20 ∷ 0x36 ∷ 0x30 ∷ 0x20 ∷ 0x32 ∷ 10 ∷ [])) ≡ badly 2 Zero
  -- limits 1000 60 02
  pub later_zero : read_of (with_set (0x20 ∷ 0x31 ∷ 0x30 ∷ 0x30 ∷ 0x30 ∷ 0x20 ∷ 0x36 ∷ 0x30 ∷ 0x20 ∷ 0x30 ∷ 0x32 ∷ 10 ∷ [])) ≡ badly 2 Zero
  -- limits 01 X 2
  pub zero_first : read_of (with_set (0x20 ∷ 0x30 ∷ 0x31 ∷ 0x20 ∷ 0x58 ∷ 0x20 ∷ 0x32 ∷ 10 ∷ [])) ≡ badly 2 Zero
  -- offset +90
  pub plus : read_of (with_offset (0x20 ∷ 0x2B ∷ 0x39 ∷ 0x30 ∷ 10 ∷ [])) ≡ badly 3 Number
  -- offset -0
  pub minus_zero : read_of (with_offset (0x20 ∷ 0x2D ∷ 0x30 ∷ 10 ∷ [])) ≡ badly 3 Zero
  -- offset -
  pub minus_alone : read_of (with_offset (0x20 ∷ 0x2D ∷ 10 ∷ [])) ≡ badly 3 Number
  -- sgsn 10.0.0.256
  pub octet_256 : read_of (with_sgsn (0x20 ∷ 0x31 ∷ 0x30 ∷ 0x2E ∷ 0x30 ∷ 0x2E ∷ 0x30 ∷ 0x2E ∷ 0x32 ∷ 0x35 ∷ 0x36 ∷ 10 ∷ [])) ≡ badly 1 Address
  -- sgsn 10.0.0
  pub three_numbers : read_of (with_sgsn (0x20 ∷ 0x31 ∷ 0x30 ∷ 0x2E ∷ 0x30 ∷ 0x2E ∷ 0x30 ∷ 10 ∷ [])) ≡ badly 1 Address
  -- sgsn 10.0.0.1.2
  pub five_numbers : read_of (with_sgsn (0x20 ∷ 0x31 ∷ 0x30 ∷ 0x2E ∷ 0x30 ∷ 0x2E ∷ 0x30 ∷ 0x2E ∷ 0x31 ∷ 0x2E ∷ 0x32 ∷ 10 ∷ [])) ≡ badly 1 Address
  -- sgsn 10.0.0.01
  pub octet_leading_zero : read_of (with_sgsn (0x20 ∷ 0x31 ∷ 0x30 ∷ 0x2E ∷ 0x30 ∷ 0x2E ∷ 0x30 ∷ 0x2E ∷ 0x30 ∷ 0x31 ∷ 10 ∷ [])) ≡ badly 1 Address

pub faults : Faults
unfolding read_of read_by first_bad or_bad unless line_fault has up_to past begins number_fault three_fault all_of numeral at_most octet_ok west_fault offset_fault
    limits_ahead sets_in lines_past
faults =
    record {
      nothing = refl;
      three_lines = refl;
      no_offset = refl;
      no_last_feed = refl;
      one_more = refl;
      one_more_of_eight = refl;
      swapped = refl;
      no_set_lem = refl;
      nine_sets = refl;
      two_spaces = refl;
      no_space = refl;
      later_set = refl;
      node_space = refl;
      no_number = refl;
      two_limits = refl;
      four_limits = refl;
      spaces_between = refl;
      space_after = refl;
      return = refl;
      leading_zero = refl;
      later_zero = refl;
      zero_first = refl;
      plus = refl;
      minus_zero = refl;
      minus_alone = refl;
      octet_256 = refl;
      three_numbers = refl;
      five_numbers = refl;
      octet_leading_zero = refl;
    }

-- ---- profiles in range, and not

pub record Ranges : Type 0 where
  pub one_set : profile_ok session ≡ true
  pub two_sets : profile_ok pair ≡ true
  pub eight_sets : profile_ok eight ≡ true
  -- no set
  pub no_sets : profile_ok (with (replicate 8 no_limits) 0) ≡ false
  -- more sets than places
  pub nine_sets : profile_ok (with (replicate 8 first_set) 9) ≡ false
  -- a second set that is all zero
  pub zero_set : profile_ok (with (first_set ∷ replicate 7 no_limits) 2) ≡ false
  -- limits in a place that is not used
  pub unused_limits : profile_ok (with (replicate 8 first_set) 7) ≡ false
  -- 16 changes in the last set
  pub sixteen_changes : profile_ok (with (first_set ∷ record { volume = 1000; seconds = 60; changes = 16 } ∷ replicate 6 no_limits) 2) ≡ false

pub ranges : Ranges
unfolding profile_ok sets_ok used_ok first_editions set_ok blank_set limits_ok blank_limits node_ok all_of
ranges =
    record {
      one_set = refl;
      two_sets = refl;
      eight_sets = refl;
      no_sets = refl;
      nine_sets = refl;
      zero_set = refl;
      unused_limits = refl;
      sixteen_changes = refl;
    }

-- ---- values out of range, which read all the same

-- -90 and -721
pub offset_90 : zone_of (0x2D ∷ 0x39 ∷ 0x30 ∷ []) ≡ 630
unfolding zone_of west numeral
offset_90 = refl

pub offset_721 : zone_of (0x2D ∷ 0x37 ∷ 0x32 ∷ 0x31 ∷ []) ≡ 65535
unfolding zone_of west numeral
offset_721 = refl

-- 256 changes in one octet, and 2 ^ 64 octets in eight
pub changes_256 : at_most 255 (numeral 0 (0x32 ∷ 0x35 ∷ 0x36 ∷ [])) ≡ 255
unfolding at_most numeral
changes_256 = refl

pub volume_top : at_most (2 ^ 64 - 1) (numeral 0 (0x31 ∷ 0x38 ∷ 0x34 ∷ 0x34 ∷ 0x36 ∷ 0x37 ∷ 0x34 ∷ 0x34 ∷ 0x30 ∷ 0x37 ∷ 0x33 ∷ 0x37 ∷ 0x30 ∷ 0x39 ∷ 0x35 ∷
    0x35 ∷ 0x31 ∷ 0x36 ∷ 0x31 ∷ 0x36 ∷ [])) ≡ 2 ^ 64 - 1
unfolding at_most numeral
volume_top = refl
