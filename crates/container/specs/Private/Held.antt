-- How the code tests the containers of an open record: in one pass over the array that holds them.
use Rattle.std.specs.Prelude.{Bool, ◌&&◌, List, ℕ, ltb, take, drop}
use Rattle.container.specs.declared.Qos.{Qos}
use Rattle.container.specs.declared.Container.{Container}
use Rattle.container.specs.List.{blanks}
use Rattle.container.specs.Open.{open_ok, volume_of}

-- an array that holds the containers of an open record in its first n places, with less counted in them than a limit, and nothing after them
unfoldable pub held_ok : ℕ → ℕ → Qos → ℕ → ℕ → ℕ → List Container → Bool
held_ok zone opening q now limit n v = open_ok zone opening q now (take n v) && blanks (drop n v) && ltb (volume_of (take n v)) limit
