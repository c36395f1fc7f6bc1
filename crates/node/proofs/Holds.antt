-- Every node that the code can hold is as specs/Held.antt says, and so are the octets of every slice: what their types say of them.
use mathlib.Core.Path.{◌≡◌, refl}
use mathlib.Core.Bool.{true}
use mathlib.Core.List.{List, [], ◌∷◌}
use Prim.Native.Nat.{ℕ, zero, suc, ◌^◌, ◌<◌}
use native.Mathlib.Omega.{arith}
use lib.ListN.{get_or}
use borrow.Author.Tests.{lt-ltb}
use borrow.Author.Rules.{rules}
use mir.Val.{Val}
use denote.Array.{each}
use denote.Shadow.{shadow}
use denote.Laws.{Is}
use Rattle.format.proofs.Arrays.{length_of_map}
use Rattle.history.specs.Lists.{All}
use Rattle.context.specs.declared.Context.{Context}
use Rattle.context.specs.contracts.Context as X
use Rattle.mcdr.specs.declared.Place.{Place}
use Rattle.mcdr.specs.declared.Change.{Change}
use Rattle.mcdr.specs.Change.{place_ok}
use Rattle.mcdr.specs.Rules.{all_places_ok}
use Rattle.mcdr.specs.contracts.Change as C
use Rattle.subscriber.specs.declared.Subscriber.{Subscriber}
use Rattle.subscriber.specs.Held.{HeldSubscriber}
use Rattle.subscriber.specs.contracts.Subscriber as U
use Rattle.node.specs.declared.Node.{Node}
use Rattle.node.specs.Held.{Shaped, Octets, HeldContext, Held}
use Rattle.node.specs.contracts.Node as N
use Rattle.node.proofs.Shapes.{all_shaped}

held_context : (c : Context) (u : Val) → Shaped c → Is X.the_row c (u ∷ []) → HeldContext c
held_context c u s p = record { shape = s; id = omega arith; ggsn = omega arith; pdptype = omega arith; address = omega arith }

held_each : (cs : List Context) (us : List Val) → All Shaped cs → shadow (each (X.the_row).Denot (X.the_row).own_val cs us) → All HeldContext cs
held_each [] us s p = tt
held_each (c ∷ cs) [] s p = absurd p
held_each (c ∷ cs) (u ∷ us) s p = (held_context c u s.0 p.0, held_each cs us s.1 p.1)

-- a place, and each change of a subscriber
held_place : (q : Place) → q.lac < 2 ^ 16 → q.rac < 2 ^ 8 → place_ok q ≡ true
unfolding place_ok
held_place q l r = rw (lt-ltb q.lac (256 ^ 2) l, lt-ltb q.rac 256 r)

held_change : (c : Change) (u : Val) → Is C.the_row c (u ∷ []) → place_ok c.place ≡ true
held_change c u p = held_place c.place (omega arith) (omega arith)

held_changes : (cs : List Change) (us : List Val) → shadow (each (C.the_row).Denot (C.the_row).own_val cs us) → all_places_ok cs ≡ true
unfolding all_places_ok
held_changes [] us p = refl
held_changes (c ∷ cs) [] p = absurd p
held_changes (c ∷ cs) (u ∷ us) p = rw (held_change c u p.0, held_changes cs us p.1)

held_subscriber : (s : Subscriber) (u : Val) → Is U.the_row s (u ∷ []) → HeldSubscriber s
held_subscriber s u p =
    let q = p.1.1.1.1.1.1.0 in
    record {
      imsi = search (rules, length_of_map);
      changes = search (rules, length_of_map);
      place = held_place s.place (omega arith) (omega arith);
      places = held_changes s.changes q.0 q.1.1;
    }

held_all : (ss : List Subscriber) (us : List Val) → shadow (each (U.the_row).Denot (U.the_row).own_val ss us) → All HeldSubscriber ss
held_all [] us p = tt
held_all (s ∷ ss) [] p = absurd p
held_all (s ∷ ss) (u ∷ us) p = (held_subscriber s u p.0, held_all ss us p.1)

pub held_is : (n : Node) (vs : List Val) → Is N.the_row n vs → Held n
held_is n vs p =
    let a = p.1.1.1.1.1.1.0 in
    let q = p.1.1.1.1.1.1.1.0 in
    record {
      profile = record { sgsn = omega arith; nodeid = search (rules, length_of_map) };
      size = search (rules, length_of_map);
      contexts = held_each n.contexts a.0 (all_shaped 16 n.contexts _ a) a.1.1;
      places = search (rules, length_of_map);
      subscribers = held_all n.subscribers q.0 q.1.1;
    }

pub octets_are : (s : List ℕ) → ((i : ℕ) → get_or s i 0 < 256) → Octets s
octets_are [] h = tt
octets_are (x ∷ s) h = (h zero, octets_are s (λ i. h (suc i)))
