-- What holds of every history in a log: nothing is heard after the release, and time does not go back.
use Prim.Native.Nat.{ℕ, ◌≤◌}
use mathlib.Core.Path.{◌≡◌, refl}
use mathlib.Core.Bool.{Bool, true, false, cond}
use mathlib.Core.List.{List, [], ◌∷◌, ◌++◌, map}
use Rattle.std.specs.Prelude.{Option, None, Some}
use native.Mathlib.Omega.{arith}
use Rattle.history.specs.Lists.{All, NotFalling}
use Rattle.history.specs.History.{History, start, latest, InOrder}
use Rattle.history.specs.Records.{Rules, ended}
use Rattle.history.specs.Log.{Accepted, Said, activates, tells, tells_all, nothing, Meaning, grown, heard, grow, follow, starts_by, histories}
use Rattle.history.proofs.Lists.{map_append, not_falling_append}
use Rattle.history.proofs.Records.{Proper}

-- The events of a log are in time order: none before k, none after l.
abbrev pub Ordered : {W : Type 0} → ℕ → List (Accepted W) → ℕ → Type 0
Ordered k cs l = NotFalling k (map (λ c. c.time) cs) l

pub ordered_append : {W : Type 0} (k m l : ℕ) (cs ds : List (Accepted W)) → Ordered k cs m → Ordered m ds l → Ordered k (cs ++ ds) l
ordered_append k m l cs ds p q = rw map_append (not_falling_append k m l (map (λ c. c.time) cs) (map (λ c. c.time) ds) p q)

module _ {G N S E W : Type 0} (R : Rules S E) (D : Meaning G N S E W) (n : N) where
  -- What holds of each start, followed through the events after it, holds of each history.
  module _ (P : History S E → Type 0) where
    each_activation : (cs : List (Accepted W)) (g : G) (t : ℕ) (w : Said G N S E) (rest : List (History S E))
        → ((s : S) → P (follow R D n cs (start t s))) → All P rest → All P (map (follow R D n cs) (starts_by R D n g t w) ++ rest)
    each_activation cs g t (activates m s) rest f r = go (D.same n m)
      where
        go : (x : Bool) → All P (map (follow R D n cs) (cond x (start t (s g) ∷ []) []) ++ rest)
        go true = (f (s g), r)
        go false = r
    each_activation cs g t (tells m e) rest f r = r
    each_activation cs g t (tells_all e) rest f r = r
    each_activation cs g t nothing rest f r = r

  -- ---- nothing is heard after the release

  grown_proper : (h : History S E) (t : ℕ) (o : Option E) (b : Bool) → ended R h ≡ b → Proper R h → Proper R (cond b h (grown h t o))
  grown_proper h t o true f p = p
  grown_proper h t None false f p = p
  grown_proper h t (Some e) false f p = (f, p)

  follow_proper : (cs : List (Accepted W)) (h : History S E) → Proper R h → Proper R (follow R D n cs h)
  follow_proper [] h p = p
  follow_proper (c ∷ cs) h p = follow_proper cs (grow R D n c h) (grown_proper h c.time (heard R D n (D.says c.event)) (ended R h) refl p)

  pub every_proper : (P : History S E → Type 0) → ((h : History S E) → Proper R h → P h) → (g : G) (cs : List (Accepted W))
      → All P (histories R D n g cs)
  every_proper P holds g [] = tt
  every_proper P holds g (c ∷ cs) = each_activation P cs g c.time (D.says c.event) _
      (λ s. holds (follow R D n cs (start c.time s)) (follow_proper cs (start c.time s) tt)) (every_proper P holds (D.settles g c.event) cs)

  -- ---- time does not go back

  grown_ordered : (h : History S E) (k t : ℕ) (o : Option E) (b : Bool) → k ≤ t → latest h ≤ k → InOrder h
      → InOrder (cond b h (grown h t o)) × (latest (cond b h (grown h t o)) ≤ t)
  grown_ordered h k t o true f p q = (q, omega arith)
  grown_ordered h k t None false f p q = (q, omega arith)
  grown_ordered h k t (Some e) false f p q = (((omega arith), q), omega arith)

  follow_ordered : (cs : List (Accepted W)) (k l : ℕ) (h : History S E) → Ordered k cs l → latest h ≤ k → InOrder h
      → InOrder (follow R D n cs h)
  follow_ordered [] k l h o p q = q
  follow_ordered (c ∷ cs) k l h o p q =
      let i = grown_ordered h k c.time (heard R D n (D.says c.event)) (ended R h) o.0 p q in
      follow_ordered cs c.time l (grow R D n c h) o.1 i.1 i.0

  pub every_ordered : (k l : ℕ) (g : G) (cs : List (Accepted W)) → Ordered k cs l → All InOrder (histories R D n g cs)
  every_ordered k l g [] o = tt
  every_ordered k l g (c ∷ cs) o = each_activation InOrder cs g c.time (D.says c.event) _
      (λ s. follow_ordered cs c.time l (start c.time s) o.1 (omega arith) tt) (every_ordered c.time l (D.settles g c.event) cs o.1)
