-- The laws of the formats of a change and of a list of them, and how long their forms get. Which values have a form: those that the tests of specs/
-- take, and no others.
use mathlib.Core.Path.{◌≡◌, refl}
use mathlib.Core.Bool.{true}
use mathlib.Core.List.{List, [], ◌∷◌}
use Prim.Native.Nat.{◌^◌, ◌≤◌}
use native.Mathlib.Omega.{arith}
use lib.Dec.{T, ltb}
use lib.ListN.{length}
use Rattle.format.specs.Format.{Law, mapped}
use Rattle.format.proofs.Formats.{octet_law, refined_law, mapped_law}
use Rattle.format.proofs.Tests.{and_l, and_r, and_i}
use Rattle.ber.specs.Int.{lowest}
use Rattle.ber.specs.Field.{run_good, ◌⨾◌}
use Rattle.ber.specs.Table.{layout}
use Rattle.ber.proofs.Fields.{many_law}
use Rattle.ber.proofs.Fixeds.{fixed_law}
use Rattle.ber.proofs.Tables.{Laws, layout_law, layout_fits}
use Rattle.calendar.specs.Stamp.{stamp_ok}
use Rattle.calendar.proofs.Stamps.{stamp_law, length_stamp}
use Rattle.mcdr.specs.declared.Change.{Change}
use Rattle.mcdr.specs.Change.{place_ok, change_ok, change_tag, change_table, to_change, of_change, change, no_change}
use Rattle.mcdr.specs.Changes.{changes, each_ok}

-- ---- the formats are lawful

laws : Laws change_table
laws = (fixed_law 2, tt) ⨾ (octet_law (λ x. true), tt) ⨾ (stamp_law, tt) ⨾ tt

pub change_law : Law change
unfolding change
change_law =
    refined_law change_ok (mapped to_change of_change (layout change_table))
    (mapped_law to_change of_change (layout change_table) (layout_law change_table laws tt) (λ w g. refl) (λ c. refl))

pub change_most : change.most ≡ 18
unfolding change
change_most = refl

pub changes_law : Law changes
unfolding changes
changes_law = many_law change_tag (λ b. change) (λ b. change_law) 18 (λ b. omega (arith, change_most)) tt no_change 1 15

pub changes_most : changes.most ≡ 300
unfolding changes
changes_most = refl

-- the form of any change is so long, with its values in range or not
pub change_short : (c : Change) → length (change.enc c) ≤ 18
unfolding change lowest
change_short c = layout_fits change_table (of_change c) (omega arith ⨾ omega arith ⨾ omega (arith, length_stamp c.time) ⨾ tt)

-- ---- which values have a form

lac_of_lem : (c : Change) → T (place_ok c.place) → T (ltb c.place.lac (256 ^ 2))
unfolding place_ok
lac_of_lem c t = and_l (ltb c.place.lac (256 ^ 2)) (ltb c.place.rac 256) t

pub change_good : (c : Change) → T (change_ok c) → change.good c
unfolding change change_ok
change_good c t = (
  lac_of_lem c (and_l (place_ok c.place) (stamp_ok c.time) t) ⨾ tt ⨾ and_r (place_ok c.place) (stamp_ok c.time) t ⨾ tt,
  t,
)

pub good_change : (c : Change) → change.good c → T (change_ok c)
unfolding change
good_change c g = g.1

run_good_lem : (b : Change) (cs : List Change) → T (each_ok cs) → run_good change_tag (λ b. change) b cs
unfolding each_ok
run_good_lem b [] t = tt
run_good_lem b (c ∷ cs) t = (change_good c (and_l (change_ok c) (each_ok cs) t), run_good_lem c cs (and_r (change_ok c) (each_ok cs) t))

good_run : (b : Change) (cs : List Change) → run_good change_tag (λ b. change) b cs → T (each_ok cs)
unfolding each_ok
good_run b [] g = tt
good_run b (c ∷ cs) g = and_i (change_ok c) (each_ok cs) (good_change c g.0) (good_run c cs g.1)

pub each_good : (cs : List Change) → T (each_ok cs) → 1 ≤ length cs → length cs ≤ 15 → changes.good cs
unfolding changes
each_good cs t l h = (run_good_lem no_change cs t, l, h)

pub good_each : (cs : List Change) → changes.good cs → T (each_ok cs) × (1 ≤ length cs) × (length cs ≤ 15)
unfolding changes
good_each cs g = (good_run no_change cs g.0, g.1, g.2)
