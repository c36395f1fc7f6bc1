-- The values that are printed read.
use mathlib.Core.Path.{◌≡◌, refl, sym, ap, ◌∙◌}
use mathlib.Core.Bool.{Bool, true, false, ◌&&◌, ◌||◌}
use mathlib.Core.List.{List, [], ◌∷◌, ◌++◌, append_assoc}
use Prim.Native.Nat.{ℕ, ◌+◌, ◌-◌, ◌*◌, ◌/◌, ◌%◌, ◌^◌, ◌≤◌, ◌<◌}
use native.Mathlib.Omega.{arith}
use lib.Dec.{leb, eqb}
use lib.ListN.{length, take, drop, get_or, replicate, take-append-drop, length-drop, replicate-append-replicate, get_or-append}
use lib.Seq.{take_at, length-take-le}
use borrow.Author.Tests.{leb-true, leb-false, le-leb, eqb-true, eqb-false, ne_eqb}
use Rattle.octets.specs.Chars.{all_of, digit, node_char, is_zero}
use Rattle.octets.specs.Names.{node_ok}
use Rattle.limits.specs.declared.Limits.{Limits}
use Rattle.profile.specs.Cut.{feed, space, has, past}
use Rattle.std.specs.Prelude.{None}
use Rattle.profile.specs.Fault.{unless}
use Rattle.profile.specs.Number.{numeral, at_most}
use Rattle.profile.specs.Address.{dot, octet_ok, octet_of, address_ok, address_of}
use Rattle.profile.specs.Three.{three_fault, limits_of}
use Rattle.profile.specs.Offset.{west_fault, offset_fault, east, west, zone_of}
use Rattle.profile.specs.Node.{node_octets}
use Rattle.profile.specs.Print.{number_text, address_text, limits_text, offset_text, node_text}
use Rattle.profile.specs.declared.line.Kind.TheVariants.{Rest}
use Rattle.profile.specs.declared.fault.Fault.TheVariants.{Number, Zero}
use Rattle.profile.proofs.Firsts.{clash, both, unless_met}
use Rattle.profile.proofs.Numbers.{by, most_is}
use Rattle.profile.proofs.Marks.{absent, absent_both, up_to_here, past_here}
use Rattle.profile.proofs.Digits.{Plain, plain_digits, plain_fault, Spells, number_spells}
use Rattle.limits.proofs.Ranges.{LimitsHold}
use Rattle.profile.proofs.Lines.{Value, Tail}

-- ---- digits have no mark among them

digit_first : (v : List ℕ) → all_of digit v ≡ true → 1 ≤ length v → digit (get_or v 0 0) ≡ true
unfolding all_of
digit_first [] a h = absurd (omega arith)
digit_first (x ∷ v) a h = (both (digit x) (all_of digit v) a).0

module _ {v : List ℕ} (f : Plain v) where
  no_mark : (x : ℕ) → digit x ≡ false → has x v ≡ false
  no_mark x e = absent x digit v e f.each

  first_is_not : (x : ℕ) → digit x ≡ false → get_or v 0 0 ≡ x → ⊥
  first_is_not x e g = clash (digit_first v f.each f.some) (ap digit g ∙ e)

  pub plain_value : Value v
  plain_value = record { clear = no_mark feed refl; first = first_is_not space refl }

-- ---- numbers

module _ {v : List ℕ} {n : ℕ} (f : Spells v n) where
  pub number_same : (m : ℕ) → n ≤ m → at_most m (numeral 0 v) ≡ n
  number_same m h = ap (at_most m) f.same ∙ sym (most_is m n h)

  octet_ok_lem : n ≤ 255 → octet_ok v ≡ true
  unfolding octet_ok
  octet_ok_lem h = rw (plain_fault f.plain, f.same) (le-leb n 255 h)

  octet_same : n ≤ 255 → octet_of v ≡ n
  unfolding octet_of
  octet_same h = number_same 255 h

-- ---- addresses

pub record Address (n : ℕ) (v : List ℕ) : Type 0 where
  pub ok : address_ok v ≡ true
  pub same : address_of v ≡ n
  pub value : Value v

module _ (n : ℕ) {p q r t : List ℕ} {a b c d : ℕ} (fp : Spells p a) (fq : Spells q b) (fr : Spells r c) (ft : Spells t d) where
  dotted : a ≤ 255 → b ≤ 255 → c ≤ 255 → d ≤ 255 → ((a * 256 + b) * 256 + c) * 256 + d ≡ n → Address n (p ++ dot ∷ (q ++ dot ∷ (r ++ dot ∷ t)))
  unfolding has
  dotted ha hb hc hd e =
      let x = r ++ dot ∷ t in
      let w = q ++ dot ∷ x in
      let p1 = past_here dot w p (no_mark fp.plain dot refl) in
      let p2 = past_here dot x q (no_mark fq.plain dot refl) in
      let p3 = past_here dot t r (no_mark fr.plain dot refl) in
      let u1 = up_to_here dot w p (no_mark fp.plain dot refl) in
      let u2 = up_to_here dot x q (no_mark fq.plain dot refl) in
      let u3 = up_to_here dot t r (no_mark fr.plain dot refl) in
      let first = get_or-append p (dot ∷ w) 0 0 fp.plain.some in
      record {
        ok = rw (p1, p2, p3, u1, u2, u3, octet_ok_lem fp ha, octet_ok_lem fq hb, octet_ok_lem fr hc, octet_ok_lem ft hd);
        same = rw (p1, p2, p3, u1, u2, u3, octet_same fp ha, octet_same fq hb, octet_same fr hc, octet_same ft hd) e;
        value =
            record {
              clear =
                  absent_both feed p (dot ∷ w) (no_mark fp.plain feed refl)
                  (absent_both feed q (dot ∷ x) (no_mark fq.plain feed refl)
                  (absent_both feed r (dot ∷ t) (no_mark fr.plain feed refl) (no_mark ft.plain feed refl)));
              first = λ g. first_is_not fp.plain space refl (sym first ∙ g);
            };
      }

pub address_is : (n : ℕ) → n < 2 ^ 32 → Address n (address_text n)
unfolding address_text
address_is n h =
    dotted n (number_spells (n / 2 ^ 24) (omega arith)) (number_spells (n / 2 ^ 16 % 256) (omega arith))
    (number_spells (n / 2 ^ 8 % 256) (omega arith)) (number_spells (n % 256) (omega arith))
    (omega arith) (omega arith) (omega arith) (omega arith) (omega arith)

-- ---- the three limits of a set

pub record Three (l : Limits) (v : List ℕ) : Type 0 where
  pub fault : three_fault v ≡ None
  pub same : limits_of v ≡ l
  pub value : Value v

module _ (l : Limits) {p q r : List ℕ} (fp : Spells p l.volume) (fq : Spells q l.seconds) (fr : Spells r l.changes) where
  apart : LimitsHold l → Three l (p ++ space ∷ (q ++ space ∷ r))
  unfolding three_fault limits_of unless has
  apart h =
      let w = q ++ space ∷ r in
      let p1 = past_here space w p (no_mark fp.plain space refl) in
      let p2 = past_here space r q (no_mark fq.plain space refl) in
      let u1 = up_to_here space w p (no_mark fp.plain space refl) in
      let u2 = up_to_here space r q (no_mark fq.plain space refl) in
      let first = get_or-append p (space ∷ w) 0 0 fp.plain.some in
      let volume = number_same fp (2 ^ 64 - 1) (omega (arith, h.few_octets)) in
      let seconds = number_same fq (2 ^ 32 - 1) (omega (arith, h.few_seconds)) in
      let changes = number_same fr 255 (omega (arith, h.few_changes)) in
      record {
        fault = rw (p1, p2, u1, u2, plain_fault fp.plain, plain_fault fq.plain, plain_fault fr.plain);
        same = rw (p1, p2, u1, u2, volume, seconds, changes);
        value =
            record {
              clear =
                  absent_both feed p (space ∷ w) (no_mark fp.plain feed refl)
                  (absent_both feed q (space ∷ r) (no_mark fq.plain feed refl) (no_mark fr.plain feed refl));
              first = λ g. first_is_not fp.plain space refl (sym first ∙ g);
            };
      }

pub three_is : (l : Limits) → LimitsHold l → Three l (limits_text l)
unfolding limits_text
three_is l h =
    apart l (number_spells l.volume (omega (arith, h.few_octets))) (number_spells l.seconds (omega (arith, h.few_seconds)))
    (number_spells l.changes (omega (arith, h.few_changes))) h

-- ---- offsets

pub record Offset (z : ℕ) (v : List ℕ) : Type 0 where
  pub fault : offset_fault v ≡ None
  pub zone : zone_of v ≡ z
  pub value : Value v

ahead_of : (z : ℕ) (v : List ℕ) → z ≤ 1560 → 720 ≤ z → Spells v (z - 720) → Offset z v
unfolding offset_fault zone_of east
ahead_of z v h k f =
    let m = ne_eqb (get_or v 0 0) 45 (first_is_not f.plain 45 refl) in
    let e : z - 720 + 720 ≡ z = omega arith in
    record {
      fault = rw (m, plain_fault f.plain);
      zone = rw (m, f.same, e, sym (most_is 65535 z (omega arith)));
      value = plain_value f.plain;
    }

behind : (z : ℕ) (v : List ℕ) → z < 720 → Spells v (720 - z) → Offset z (45 ∷ v)
unfolding offset_fault zone_of west_fault west has
behind z v h f =
    let b : leb (720 - z) 720 ≡ true = le-leb (720 - z) 720 (omega arith) in
    record {
      fault = unless_met Number (plain_digits f.plain) (unless_met Zero (rw (ne_eqb (get_or v 0 0) 48 (f.first (omega arith)))) refl);
      zone = rw (f.same, b) (omega arith);
      value = record { clear = no_mark f.plain feed refl; first = λ e. omega arith };
    }

pub offset_is : (z : ℕ) → z ≤ 1560 → Offset z (offset_text z)
unfolding offset_text
offset_is z h =
    by (leb 720 z)
    (λ t. rw t (ahead_of z (number_text (z - 720)) h (leb-true 720 z t) (number_spells (z - 720) (omega arith))))
    (λ t. let l = leb-false 720 z t in rw t (behind z (number_text (720 - z)) l (number_spells (720 - z) (omega arith))))

-- ---- node IDs

abbrev zeros : ℕ → List ℕ
zeros n = replicate n 0

zeros_are : (l : List ℕ) → all_of is_zero l ≡ true → l ≡ zeros (length l)
unfolding all_of
zeros_are [] e = refl
zeros_are (x ∷ l) e =
    let (a, b) = both (eqb x 0) (all_of is_zero l) e in
    ap (λ (y : ℕ). y ∷ l) (eqb-true x 0 a) ∙ ap (◌∷◌ 0) (zeros_are l b)

pub record Node (node : List ℕ) (n : ℕ) (t : List ℕ) : Type 0 where
  pub tail : Tail Rest t
  pub value : past space t ≡ take n node
  pub octets : node_octets (take n node) ≡ node
  pub many : length (take n node) ≡ n

not_char : node_char feed ≡ false
unfolding node_char
not_char = refl

-- the octets of a node ID, which has zeros after them, and zeros after them
octets_are : (node : List ℕ) (n : ℕ) → length node ≡ 20 → n ≤ 20 → all_of is_zero (drop n node) ≡ true → node_octets (take n node) ≡ node
unfolding node_octets
octets_are node n l h z =
    let d : drop n node ≡ zeros (20 - n) = zeros_are (drop n node) z ∙ ap zeros (length-drop n node ∙ ap (λ (i : ℕ). i - n) l) in
    let s : 20 - n + n ≡ 20 = omega arith in
    let r : zeros (20 - n) ++ zeros n ≡ zeros 20 = replicate-append-replicate (20 - n) n 0 ∙ ap zeros s in
    let o : take n node ++ zeros 20 ≡ node ++ zeros n =
    ap (λ (y : List ℕ). take n node ++ y) (sym r)
    ∙ sym (append_assoc (take n node) (zeros (20 - n)) (zeros n))
    ∙ ap (λ (y : List ℕ). (take n node ++ y) ++ zeros n) (sym d)
    ∙ ap (λ (y : List ℕ). y ++ zeros n) (take-append-drop n node) in
    ap (take 20) o ∙ take_at node (zeros n) 20 l

or-true : (a : Bool) → (a || true) ≡ true
or-true true = refl
or-true false = refl

pub node_is : (node : List ℕ) (n : ℕ) → length node ≡ 20 → node_ok node n ≡ true → Node node n (node_text node n)
unfolding node_ok node_text has past
node_is node n l e =
    let (f, z) = both (leb n 20 && all_of node_char (take n node)) (all_of is_zero (drop n node)) e in
    let (g, k) = both (leb n 20) (all_of node_char (take n node)) f in
    let h = leb-true n 20 g in
    let m : length (take n node) ≡ n = length-take-le n node (omega arith) in
    let o = octets_are node n l h z in
    by (eqb n 0)
    (λ t.
    let v = ap (λ (i : ℕ). take i node) (sym (eqb-true n 0 t)) in
    rw t (record { tail = record { clear = refl; lead = refl; fault = refl }; value = v; octets = o; many = m }))
    (λ t.
    let w = eqb-false n 0 t in
    let some : 1 ≤ n = by (leb 1 n) (λ u. leb-true 1 n u) (λ u. absurd (w (omega (arith, leb-false 1 n u)))) in
    let q : leb 2 (length (space ∷ take n node)) ≡ true = le-leb 2 (length (space ∷ take n node)) (omega arith) in
    let clear = absent feed node_char (take n node) not_char k in
    let lead = or-true (eqb (length (space ∷ take n node)) 0) in
    rw t (record { tail = record { clear = clear; lead = rw q lead; fault = refl }; value = refl; octets = o; many = m }))
