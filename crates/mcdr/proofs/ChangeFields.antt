-- A change read field by field, and what is written put together.
use mathlib.Core.Path.{◌≡◌, refl}
use mathlib.Core.Bool.{true, false, ◌&&◌}
use Rattle.std.specs.Prelude.{Option, None, Some, IsSomeAnd}
use mathlib.Core.List.{List, [], ◌++◌}
use Prim.Native.Nat.{ℕ, ◌^◌, ◌<◌}
use lib.Dec.{T, eqb}
use lib.ListN.{length}
use borrow.Author.Tests.{lt-ltb}
use Rattle.format.specs.Maybe.{bind, guard}
use Rattle.format.proofs.Maybe.{guard_yes}
use Rattle.ber.specs.Table.{row_enc, rows_at}
use Rattle.ber.specs.Write.{Puts}
use Rattle.ber.specs.Private.Filled.{Filled}
use Rattle.ber.proofs.Tables.{table_is}
use Rattle.ber.proofs.Writers.{wrote, wrote_last}
use Rattle.ber.specs.Private.Wrote.{Wrote}
use Rattle.ber.proofs.Ready.{filled_of}
use Rattle.calendar.specs.declared.Stamp.{Stamp}
use Rattle.calendar.specs.Stamp.{stamp_ok}
use Rattle.container.specs.Container.{no_stamp}
use Rattle.mcdr.specs.declared.Place.{Place}
use Rattle.mcdr.specs.declared.Change.{Change}
use Rattle.mcdr.specs.Change.{place_ok, NewLac, NewRac, Time, change_table, to_change, of_change, change_ok, change}
use Rattle.mcdr.proofs.Formats.{change_short}

pub place_ok_lem : (p : Place) → p.lac < 256 ^ 2 → p.rac < 256 → place_ok p ≡ true
unfolding place_ok
place_ok_lem p l r = rw (lt-ltb p.lac (256 ^ 2) l, lt-ltb p.rac 256 r)

-- ---- read, of octets s that are all its contents

pub change_is : (s : List ℕ) → change.dec s ≡ bind (rows_at s change_table 0) (λ q. guard (eqb q.1 (length s) && change_ok (to_change q.0)) (to_change q.0))
unfolding change
change_is s = table_is s change_table to_change of_change change_ok

-- any place is one, where the code holds it
pub change_timed : (c : Change) → c.place.lac < 256 ^ 2 → c.place.rac < 256 → change_ok c ≡ stamp_ok c.time
unfolding change_ok
change_timed c l r = rw (place_ok_lem c.place l r)

-- ---- written

-- a change's fields in an array that has room for them
pub change_filled : (c : Change) {b b' : List ℕ} {r : Option ℕ} → length b ≡ 18 → Wrote (change.enc c) b b' 0 r
    → IsSomeAnd r (λ n. Filled (change.enc c) 18 b' n)
unfolding change
change_filled c room w = filled_of room w (change_short c)

-- the last of them
pub time_last : (c : Change) {b b' : List ℕ} {at : ℕ} {r : Option ℕ} → T (stamp_ok c.time)
    → Puts (guard (stamp_ok c.time) (row_enc Time c.time)) b b' at r → Wrote (row_enc Time c.time ++ []) b b' at r
time_last c ok p = wrote_last (wrote (guard_yes (stamp_ok c.time) _ ok) p)
