-- The text of a profile: these lines, in this order (02, W6: one to eight are sets of limits).
use Rattle.std.specs.Prelude.{List, [], ◌∷◌, ◌++◌, ℕ, suc, ◌+◌, eqb, length, replicate, Option, None, Some, Result, Ok, Err}
use Rattle.profile.specs.Cut.{feed, past}
use Rattle.profile.specs.Fault.{unless, or_bad}
use Rattle.profile.specs.Address.{address_of}
use Rattle.profile.specs.Offset.{zone_of}
use Rattle.profile.specs.Node.{node_octets}
use Rattle.profile.specs.Line.{lines_past, value_at, line_fault}
use Rattle.profile.specs.Sets.{limits_name, sets_in, limits_in}
use Rattle.profile.specs.declared.Profile.{Profile}
use Rattle.profile.specs.declared.fault.BadLine.{BadLine}
use Rattle.profile.specs.declared.line.Kind.{Kind}
use Rattle.profile.specs.declared.line.Kind.TheVariants.{Dotted, Three, Signed, Rest}
use Rattle.profile.specs.declared.fault.Fault.TheVariants.{More}

-- ---- the names

-- sgsn
abbrev pub sgsn_name : List ℕ
sgsn_name = 0x73 ∷ 0x67 ∷ 0x73 ∷ 0x6E ∷ []

-- offset
abbrev pub offset_name : List ℕ
offset_name = 0x6F ∷ 0x66 ∷ 0x66 ∷ 0x73 ∷ 0x65 ∷ 0x74 ∷ []

-- node-id
abbrev pub node_name : List ℕ
node_name = 0x6E ∷ 0x6F ∷ 0x64 ∷ 0x65 ∷ 0x2D ∷ 0x69 ∷ 0x64 ∷ []

-- ---- the table: a name and the kind of its value, a row a line

pub record Row : Type 0 where
  pub name : List ℕ
  pub kind : Kind

abbrev row : List ℕ → Kind → Row
row n k = record { name = n; kind = k }

abbrev pub set_row : Row
set_row = row limits_name Three

abbrev pub end_rows : List Row
end_rows = row offset_name Signed ∷ row node_name Rest ∷ []

-- with so many sets of limits
abbrev pub rows_of : ℕ → List Row
rows_of k = row sgsn_name Dotted ∷ (replicate k set_row ++ end_rows)

-- ---- the first bad line, and what is wrong there

-- The lines of these rows, from number n on: each is read by its row, and nothing follows the last.
unfoldable pub first_bad : List Row → ℕ → List ℕ → Option BadLine
first_bad [] n s = or_bad n (unless (eqb (length s) 0) More None) None
first_bad (r ∷ rs) n s = or_bad n (line_fault r.name r.kind s) (first_bad rs (suc n) (past feed s))

-- ---- the profile

-- with so many sets: the first line has the address, the next have the sets, and after them come the offset and the node ID
unfoldable pub profile_by : ℕ → List ℕ → Profile
profile_by k s =
    record {
      sgsn = address_of (value_at 0 s);
      limits = limits_in 8 k (lines_past 1 s);
      sets = k;
      zone = zone_of (value_at (k + 1) s);
      nodeid = node_octets (value_at (k + 2) s);
      nodelen = length (value_at (k + 2) s);
    }

unfoldable pub profile_of : List ℕ → Profile
profile_of s = profile_by (sets_in s) s

-- ---- what the text says: a profile, or the first bad line and what is wrong there

unfoldable pub read_by : Option BadLine → Profile → Result Profile BadLine
read_by None p = Ok p
read_by (Some b) p = Err b

unfoldable pub read_of : List ℕ → Result Profile BadLine
read_of s = read_by (first_bad (rows_of (sets_in s)) 1 s) (profile_of s)
