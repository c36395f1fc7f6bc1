-- What a profile in range is: its sets of limits, one after another, its offset and its node ID.
use mathlib.Core.Path.{◌≡◌}
use mathlib.Core.Bool.{true, false, ◌&&◌}
use mathlib.Core.List.{List, [], ◌∷◌}
use Prim.Native.Nat.{ℕ, zero, suc, ◌^◌, ◌≤◌, ◌<◌}
use native.Mathlib.Omega.{arith}
use lib.Dec.{leb, eqb}
use lib.ListN.{length, take, drop}
use borrow.Author.Tests.{leb-true}
use Rattle.limits.specs.declared.Limits.{Limits}
use Rattle.limits.specs.Limits.{limits_ok, no_limits, blank_limits}
use Rattle.limits.specs.Sets.{given, first_editions, set_ok, blank_set, used_ok, sets_ok}
use Rattle.limits.proofs.Ranges.{LimitsHold, limits_hold, blank_limits_lem}
use Rattle.limits.proofs.Numbers.{sets_hold}
use Rattle.octets.specs.Chars.{all_of, node_char, is_zero}
use Rattle.octets.specs.Names.{node_ok}
use Rattle.profile.specs.Profile.{profile_ok}
use Rattle.profile.specs.declared.Profile.{Profile}
use Rattle.profile.proofs.Firsts.{both}

-- ---- the sets

-- k sets of limits in range, and none in the places after them
pub data Sets : ℕ → List Limits → Type 0 where
  none : Sets zero []
  unused : (ls : List Limits) → Sets zero ls → Sets zero (no_limits ∷ ls)
  used : (k : ℕ) (l : Limits) (ls : List Limits) → LimitsHold l → Sets k ls → Sets (suc k) (l ∷ ls)

sets_are : (k : ℕ) (ls : List Limits) → k ≤ length ls → used_ok k (first_editions k ls) ≡ true → Sets k ls
unfolding used_ok first_editions set_ok blank_set
sets_are zero [] h e = none
sets_are (suc k) [] h e = absurd (omega arith)
sets_are zero (l ∷ ls) h e =
    let (a, b) = both (blank_set (given false l)) (used_ok zero (first_editions zero ls)) e in
    rw (blank_limits_lem l (both (eqb 0 0) (blank_limits l) a).1) (unused ls (sets_are zero ls (omega arith) b))
sets_are (suc k) (l ∷ ls) h e =
    let (a, b) = both (set_ok (given true l)) (used_ok k (first_editions k ls)) e in
    used k l ls (limits_hold l (both (leb 1 1) (limits_ok l) a).1) (sets_are k ls (omega arith) b)

-- ---- the profile

-- what the fields' types say of every profile that the code can hold
pub record Shaped (p : Profile) : Type 0 where
  pub sgsn : p.sgsn < 2 ^ 32
  pub limits : length p.limits ≡ 8
  pub nodeid : length p.nodeid ≡ 20

pub record InRange (p : Profile) : Type 0 where
  pub some : 1 ≤ p.sets
  pub most : p.sets ≤ 8
  pub sets : Sets p.sets p.limits
  pub zone : p.zone ≤ 1560
  pub few : p.nodelen ≤ 20
  pub node : node_ok p.nodeid p.nodelen ≡ true

-- the parts of the rule
pub record Parts (p : Profile) : Type 0 where
  pub sets : sets_ok p.sets (first_editions p.sets p.limits) ≡ true
  pub zone : p.zone ≤ 1560
  pub node : node_ok p.nodeid p.nodelen ≡ true

pub parts : (p : Profile) → profile_ok p ≡ true → Parts p
unfolding profile_ok
parts p e =
    let ss = first_editions p.sets p.limits in
    let (a, n) = both (sets_ok p.sets ss && leb p.zone 1560) (node_ok p.nodeid p.nodelen) e in
    let (s, z) = both (sets_ok p.sets ss) (leb p.zone 1560) a in
    record { sets = s; zone = leb-true p.zone 1560 z; node = n }

node_few : (node : List ℕ) (n : ℕ) → node_ok node n ≡ true → n ≤ 20
unfolding node_ok
node_few node n e =
    leb-true n 20 (both (leb n 20) (all_of node_char (take n node))
    (both (leb n 20 && all_of node_char (take n node)) (all_of is_zero (drop n node)) e).0).0

pub in_range_lem : (p : Profile) → length p.limits ≡ 8 → profile_ok p ≡ true → InRange p
in_range_lem p l e =
    let a = parts p e in
    let h = sets_hold p.sets (first_editions p.sets p.limits) a.sets in
    record {
      some = h.some;
      most = h.few;
      sets = sets_are p.sets p.limits (omega (arith, h.few)) h.used;
      zone = a.zone;
      few = node_few p.nodeid p.nodelen a.node;
      node = a.node;
    }
