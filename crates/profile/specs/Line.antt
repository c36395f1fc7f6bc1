-- The line at the front of a text: a name, one space, a value and a line feed. What is wrong with it is what comes first here.
use Rattle.std.specs.Prelude.{Bool, not, ◌&&◌, ◌||◌, List, ℕ, zero, suc, leb, eqb, length, get_or, drop, Option, None}
use Rattle.profile.specs.Cut.{feed, space, has, up_to, past, begins}
use Rattle.profile.specs.Fault.{unless}
use Rattle.profile.specs.Three.{three_fault}
use Rattle.profile.specs.Address.{address_ok}
use Rattle.profile.specs.Offset.{offset_fault}
use Rattle.profile.specs.declared.line.Kind.{Kind}
use Rattle.profile.specs.declared.line.Kind.TheVariants.{Dotted, Three, Signed, Rest}
use Rattle.profile.specs.declared.fault.Fault.{Fault}
use Rattle.profile.specs.declared.fault.Fault.TheVariants.{Missing, End, Name, Space, Address}

-- what follows the name in the line; and its value, which follows the first space: no name has one
abbrev pub tail_of : List ℕ → List ℕ → List ℕ
tail_of name s = drop (length name) (up_to feed s)

abbrev pub value_of : List ℕ → List ℕ
value_of s = past space (up_to feed s)

-- one space, and not another
abbrev pub one_space : List ℕ → Bool
one_space t = eqb (get_or t 0 0) space && not (eqb (get_or t 1 0) space)

-- Before the rest of the line, which may be any octets. An empty one has no space before it.
abbrev pub rest_space : List ℕ → Bool
rest_space t = eqb (length t) 0 || (eqb (get_or t 0 0) space && leb 2 (length t))

-- the space before a value of each kind, and what is wrong with the value
abbrev pub spaced : Kind → List ℕ → Bool
spaced Dotted t = one_space t
spaced Three t = one_space t
spaced Signed t = one_space t
spaced Rest t = rest_space t

abbrev pub value_fault : Kind → List ℕ → Option Fault
value_fault Dotted v = unless (address_ok v) Address None
value_fault Three v = three_fault v
value_fault Signed v = offset_fault v
value_fault Rest v = None

-- the line is there, it has a line feed, it begins with its name, and after it come the space and the value
unfoldable pub line_fault : List ℕ → Kind → List ℕ → Option Fault
line_fault name kind s =
    unless (leb 1 (length s)) Missing
    (unless (has feed s) End
    (unless (begins name (up_to feed s)) Name
    (unless (spaced kind (tail_of name s)) Space
    (value_fault kind (value_of s)))))

-- ---- the lines after it

-- what is left of the text after n lines, and the value of the line that is there
unfoldable pub lines_past : ℕ → List ℕ → List ℕ
lines_past zero s = s
lines_past (suc n) s = lines_past n (past feed s)

abbrev pub value_at : ℕ → List ℕ → List ℕ
value_at n s = value_of (lines_past n s)
