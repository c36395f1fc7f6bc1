-- Demand 3, for every node that handles a kind as its histories say.
use Prim.Native.Nat.{ℕ}
use mathlib.Core.Path.{◌≡◌, refl, sym, ◌∙◌}
use mathlib.Core.Bool.{Bool}
use mathlib.Core.List.{List, [], ◌∷◌}
use Rattle.history.specs.Lists.{each}
use Rattle.history.specs.History.{InOrder}
use Rattle.history.specs.Records.{Rules}
use Rattle.history.specs.Log.{Meaning, histories}
use Rattle.history.specs.Table.{Handling}
use Rattle.history.specs.Run.{Machine, run, all_written, log}
use Rattle.history.specs.Demand.{OnceEach, InTime, Forms, Sight, under, held, Demand3}
use Rattle.history.proofs.Lists.{all_map}
use Rattle.history.proofs.Whole.{in_time, once}
use Rattle.history.proofs.Tables.{Sound}
use Rattle.history.proofs.Told.{charged}
use Rattle.history.proofs.Histories.{every_proper, every_ordered}
use Rattle.history.proofs.Runs.{Serves, runs}

-- names read alike give the same under a name
under_alike : {N A : Type 0} (same same' : N → N → Bool) (name name' : A → N) → ((m n : N) → same m n ≡ same' m n)
    → ((a : A) → name a ≡ name' a)
    → (n : N) (xs : List A) → under same name n xs ≡ under same' name' n xs
under_alike same same' name name' p q n [] = refl
under_alike same same' name name' p q n (x ∷ xs) = rw (p n (name x), q x, under_alike same same' name name' p q n xs)

pub demand3 : {G N S E W C B M I O : Type 0} (R : Rules S E) (D : Meaning G N S E W) (F : Forms N S E C B) (K : Handling G N S E W C B) (L : Sight N C B M O)
    (X : Machine M I W O) (known : S → G) → Sound R D F K L.name_of known → (settings : M → G) (clock : M → ℕ)
    → Serves K L X settings clock
    → (fresh : M) → held (L.slots fresh) ≡ [] → (calls : List I) (n : N) → Demand3 R D F L X fresh (settings fresh) calls n
demand3 R D F K L X known Z settings clock Y fresh empty calls n =
    let r = runs K L X settings clock Y calls fresh in
    let o = every_ordered R D n (clock fresh) (clock (run X fresh calls)) (settings fresh) (log X fresh calls) r.timely in
    let c = charged R D F K L.name_of known Z n (settings fresh) (L.slots fresh) (log X fresh calls) (rw empty) r.admitted in
    record {
      closed =
          sym (under_alike K.same D.same L.name_of L.name_of Z.same_meant (λ b. refl) n (each L.kindred (all_written X fresh calls)))
          ∙ rw r.wrote c.closed;
      open_now =
          sym (under_alike K.same D.same K.name L.name Z.same_meant Y.names n (held (L.slots (run X fresh calls))))
          ∙ rw r.slots c.open_now;
      released = c.released;
      all_reported = c.all_reported;
      in_order = o;
      in_time = all_map InOrder (InTime R) (in_time R) (histories R D n (settings fresh) (log X fresh calls)) o;
      once = every_proper R D n (OnceEach R) (λ h p. once R h p) (settings fresh) (log X fresh calls);
    }
