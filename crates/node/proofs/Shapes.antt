-- What the types say of every context of a table.
use mathlib.Core.List.{List, [], ◌∷◌}
use Prim.Native.Nat.{ℕ}
use borrow.Author.Rules.{rules}
use mir.Val.{Val}
use denote.Array.{each}
use denote.Builtin.{Array}
use denote.Shadow.{shadow}
use denote.Laws.{Is}
use Rattle.format.proofs.Arrays.{length_of_map}
use Rattle.history.specs.Lists.{All}
use Rattle.context.specs.declared.Context.{Context}
use Rattle.context.specs.contracts.Context as X
use Rattle.node.specs.Held.{Shaped}

-- of each context, what its type says of it
each_is : (xs : List Context) (us : List Val) → shadow (each (X.the_row).Denot (X.the_row).own_val xs us) → All (λ x. (u : Val) × Is X.the_row x (u ∷ [])) xs
each_is [] [] p = tt
each_is [] (u ∷ us) p = absurd p
each_is (x ∷ xs) [] p = absurd p
each_is (x ∷ xs) (u ∷ us) p = ((u, p.0), each_is xs us p.1)

shaped : (c : Context) (u : Val) → Is X.the_row c (u ∷ []) → Shaped c
shaped c u p =
    record {
      imsi = search (rules, length_of_map);
      apn = search (rules, length_of_map);
      containers = search
          (rules, length_of_map, p.1.1.1.1.1.1.1.1.1.1.1);
    }

shaped_all : (cs : List Context) → All (λ c. (u : Val) × Is X.the_row c (u ∷ [])) cs → All Shaped cs
shaped_all [] p = tt
shaped_all (c ∷ cs) p = (shaped c p.0.0 p.0.1, shaped_all cs p.1)

-- the table of a node that the code holds
pub all_shaped : (n : ℕ) (cs : List Context) (vs : List Val) → Is (Array X.the_row (tt {0}) n) cs vs → All Shaped cs
all_shaped n cs vs p = shaped_all cs (each_is cs p.0 p.1.1)
