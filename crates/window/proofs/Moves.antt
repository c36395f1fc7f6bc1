-- Moving what is left to the front of a window.
use Rattle.std.proofs.Common.{◌≡◌, ℕ, ◌-◌, ◌<◌, ◌≤◌, min, List, length, arith}
use Rattle.std.specs.List.{copy_within}
use Rattle.std.proofs.lemmas.Grind.{common_steps}
use Rattle.window.specs.Moved.{moved_of}

module _ (w : List ℕ) (at end : ℕ) where
  -- what is left and stands in the window is copied to its front
  pub moved_copied : {stop : ℕ} → stop ≡ min end (length w) → at < stop → copy_within w at stop 0 ≡ moved_of at (end - at) w
  unfolding moved_of
  moved_copied e h = grind (arith, common_steps)

  -- and where nothing of it does, the window stays
  pub moved_none : {stop : ℕ} → stop ≡ min end (length w) → stop ≤ at → w ≡ moved_of at (end - at) w
  unfolding moved_of
  moved_none e h = grind (arith, common_steps)
