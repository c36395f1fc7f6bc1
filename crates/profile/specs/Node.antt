-- A node ID as a profile keeps it.
use Rattle.std.specs.Prelude.{List, ◌++◌, ℕ, take, replicate}

-- its first twenty octets, with zeros after them
unfoldable pub node_octets : List ℕ → List ℕ
node_octets v = take 20 (v ++ replicate 20 0)
