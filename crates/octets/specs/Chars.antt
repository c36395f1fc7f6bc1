-- The characters of a text, and octets that are all zero.
use Rattle.std.specs.Prelude.{Bool, true, cond, ◌&&◌, ◌||◌, List, [], ◌∷◌, map, ℕ, ◌+◌, leb, eqb}
use Rattle.octets.specs.declared.chars.Class.{Class}
use Rattle.octets.specs.declared.chars.Class.TheVariants.{Apn, Node, Digit}

-- each passes the test
unfoldable pub all_of : (ℕ → Bool) → List ℕ → Bool
all_of p [] = true
all_of p (x ∷ xs) = p x && all_of p xs

abbrev pub is_zero : ℕ → Bool
is_zero x = eqb x 0

-- '0' to '9'
abbrev pub digit : ℕ → Bool
digit x = leb 48 x && leb x 57

-- An access point name has letters, digits, '.' and '-' (01, "Events"), and its letters are small ones in a record and in a node: "one spelling of an
-- APN" (02, W5).
unfoldable pub apn_char : ℕ → Bool
apn_char x = (leb 0x61 x && leb x 0x7A) || (leb 0x30 x && leb x 0x39) || eqb x 0x2E || eqb x 0x2D

-- 'A' to 'Z' lowered, any other octet as it is (02, W5). An event may have capitals.
unfoldable pub lower : ℕ → ℕ
lower x = cond (leb 0x41 x && leb x 0x5A) (x + 0x20) x

-- a name with its letters lowered
unfoldable pub lowered : List ℕ → List ℕ
lowered s = map lower s

-- a node ID has characters 20 to 7E (01, "Profile and clock")
unfoldable pub node_char : ℕ → Bool
node_char x = leb 0x20 x && leb x 0x7E

-- the characters of a class
abbrev pub char_of : Class → ℕ → Bool
char_of Apn = apn_char
char_of Node = node_char
char_of Digit = digit
