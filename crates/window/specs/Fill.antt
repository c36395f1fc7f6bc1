-- A window that is read on.
use Rattle.std.specs.Prelude.{◌≡◌, ℕ, ◌+◌, ◌-◌, ◌≤◌, List, length, take, Result, unwrap_or}
use Rattle.std.specs.Result.{result_ok}
use Rattle.window.specs.declared.Place.{Place}
use Rattle.window.specs.Moved.{moved_of}

-- how many octets a read brought: none where it failed
abbrev pub came : {E : Type 0} → Result ℕ E → ℕ
came r = unwrap_or (result_ok r) 0

-- What was left stands at the front, and what was read begins behind it. How much that is, if there is room, and what stands there, is the
-- system's.
pub record Fills {E : Type 0} (w w' : List ℕ) (p q : Place) (r : Result ℕ E) : Type 0 where
  pub front : take (p.end - p.at) w' ≡ take (p.end - p.at) (moved_of p.at (p.end - p.at) w)
  pub place : q ≡ record { at = 0; end = p.end - p.at + came r; offset = p.offset }
  pub room : came r ≤ length w - (p.end - p.at)
