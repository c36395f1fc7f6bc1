-- Names as they are stored: so many characters, and "unused octets zero" (01, "Profile and clock" and "A sound node").
use Rattle.std.specs.Prelude.{Bool, cond, ◌&&◌, List, [], ℕ, leb, length, take, drop}
use Rattle.octets.specs.declared.chars.Class.{Class}
use Rattle.octets.specs.declared.names.Checked.{Checked}
use Rattle.octets.specs.Chars.{all_of, apn_char, node_char, is_zero, char_of, lowered}
use Rattle.octets.specs.Filled.{fill_to}

-- an access point name of 1 to 63 characters as a record and a node have it, its unused octets zero
unfoldable pub apn_ok : List ℕ → ℕ → Bool
apn_ok apn n = leb 1 n && leb n 63 && all_of apn_char (take n apn) && all_of is_zero (drop n apn)

-- An access point name as an event spells it: 1 to 63 characters, which are a record's once they are lowered (02, W5).
unfoldable pub is_apn : List ℕ → Bool
is_apn s = leb 1 (length s) && leb (length s) 63 && all_of apn_char (lowered s)

-- "The check of an access point name should hand back the name with letters in lower case" (02, W5): as it is stored, and how long it is. What is no
-- name has none, and n 0.
unfoldable pub checked_apn : List ℕ → Checked
checked_apn s =
    cond (is_apn s)
    (record { apn = fill_to 63 0 (lowered s); n = length s })
    (record { apn = fill_to 63 0 []; n = 0 })

-- a node ID of 0 to 20 characters, its unused octets zero
unfoldable pub node_ok : List ℕ → ℕ → Bool
node_ok node n = leb n 20 && all_of node_char (take n node) && all_of is_zero (drop n node)

-- n characters of a class at the front of an array, and zeros after them
unfoldable pub stored : Class → List ℕ → ℕ → Bool
stored class a n = leb n (length a) && all_of (char_of class) (take n a) && all_of is_zero (drop n a)
