-- The rules of stored names one by one.
use mathlib.Core.Path.{◌≡◌}
use mathlib.Core.Bool.{true, ◌&&◌}
use mathlib.Core.List.{List}
use Prim.Native.Nat.{ℕ, ◌≤◌}
use lib.Dec.{T, leb, leb→le}
use lib.ListN.{length, take, drop}
use borrow.Author.Tests.{leb-true}
use Rattle.format.proofs.Tests.{and_l, and_r, both}
use Rattle.octets.specs.Chars.{all_of, is_zero, apn_char, node_char, lowered}
use Rattle.octets.specs.Names.{apn_ok, is_apn, node_ok}

pub record Apn (a : List ℕ) (n : ℕ) : Type 0 where
  pub least : 1 ≤ n
  pub most : n ≤ 63
  pub chars : T (all_of apn_char (take n a))
  pub rest : T (all_of is_zero (drop n a))

pub apn_rules : (a : List ℕ) (n : ℕ) → T (apn_ok a n) → Apn a n
unfolding apn_ok
apn_rules a n t =
    let c = all_of apn_char (take n a) in
    let z = all_of is_zero (drop n a) in
    let u = and_l (leb 1 n && leb n 63 && c) z t in
    let v = and_l (leb 1 n && leb n 63) c u in
    record {
      least = leb→le 1 n (and_l (leb 1 n) (leb n 63) v);
      most = leb→le n 63 (and_r (leb 1 n) (leb n 63) v);
      chars = and_r (leb 1 n && leb n 63) c u;
      rest = and_r (leb 1 n && leb n 63 && c) z t;
    }

-- of a name as an event spells it
pub record Spelled (s : List ℕ) : Type 0 where
  pub least : 1 ≤ length s
  pub most : length s ≤ 63
  pub chars : all_of apn_char (lowered s) ≡ true

pub spelled_rules : (s : List ℕ) → is_apn s ≡ true → Spelled s
unfolding is_apn
spelled_rules s e =
    let (u, c) = both (leb 1 (length s) && leb (length s) 63) (all_of apn_char (lowered s)) e in
    let (l, m) = both (leb 1 (length s)) (leb (length s) 63) u in
    record { least = leb-true 1 (length s) l; most = leb-true (length s) 63 m; chars = c }

pub record Node (a : List ℕ) (n : ℕ) : Type 0 where
  pub most : n ≤ 20
  pub chars : T (all_of node_char (take n a))
  pub rest : T (all_of is_zero (drop n a))

pub node_rules : (a : List ℕ) (n : ℕ) → T (node_ok a n) → Node a n
unfolding node_ok
node_rules a n t =
    let c = all_of node_char (take n a) in
    let z = all_of is_zero (drop n a) in
    let u = and_l (leb n 20 && c) z t in
    record {
      most = leb→le n 20 (and_l (leb n 20) c u);
      chars = and_r (leb n 20) c u;
      rest = and_r (leb n 20 && c) z t;
    }
