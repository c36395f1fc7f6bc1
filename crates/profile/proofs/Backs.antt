-- What reads as a value in range is what is printed for it.
use mathlib.Core.Path.{◌≡◌, refl, sym, ap, ◌∙◌}
use mathlib.Core.Bool.{true, false, not, ◌&&◌}
use mathlib.Core.List.{List, [], ◌∷◌, ◌++◌}
use Prim.Native.Nat.{ℕ, ◌+◌, ◌-◌, ◌*◌, ◌/◌, ◌%◌, ◌^◌, ◌≤◌, ◌<◌}
use native.Mathlib.Omega.{arith}
use lib.Dec.{leb, eqb}
use lib.ListN.{length, take, drop, get_or, replicate, length-append}
use lib.Seq.{take_at, take-take}
use borrow.Author.Tests.{leb-true, leb-false, le-leb, lt-leb, eqb-true, eqb-false, ne_eqb, not-true}
use Rattle.std.specs.Prelude.{None, is_none}
use Rattle.std.specs.Option.{option_or}
use Rattle.profile.specs.Fault.{unless}
use Rattle.profile.specs.Cut.{space, has, up_to, past}
use Rattle.profile.specs.Number.{digits, number_fault, numeral, at_most}
use Rattle.profile.specs.Address.{dot, octet_ok, octet_of, address_ok, address_of}
use Rattle.profile.specs.Three.{volume_in, seconds_in, changes_in, three_fault, limits_of}
use Rattle.profile.specs.Offset.{west_fault, offset_fault, east, west, zone_of}
use Rattle.profile.specs.Node.{node_octets}
use Rattle.profile.specs.Line.{rest_space}
use Rattle.profile.specs.Print.{number_text, address_text, limits_text, limits_tail, offset_text, node_text}
use Rattle.profile.specs.declared.line.Kind.TheVariants.{Dotted, Three, Signed, Rest}
use Rattle.profile.specs.declared.fault.Fault.TheVariants.{Number, Zero, Address}
use Rattle.profile.proofs.Firsts.{clash, both, is_none_lem, met_unless, none_first}
use Rattle.profile.proofs.Numbers.{by, most_is, most_over}
use Rattle.profile.proofs.Marks.{cut_is, past_some}
use Rattle.profile.proofs.Digits.{digits_plain, fault_plain, numeral_some, number_back}
use Rattle.limits.proofs.Ranges.{LimitsHold}
use Rattle.profile.proofs.Lines.{Tail, spaced_back}

-- ---- addresses

record Octet (v : List ℕ) : Type 0 where
  some : 1 ≤ length v
  low : octet_of v ≤ 255
  same : number_text (octet_of v) ≡ v

octet_back : (v : List ℕ) → octet_ok v ≡ true → Octet v
unfolding octet_ok octet_of
octet_back v e =
    let (a, b) = both (is_none (number_fault v)) (leb (numeral 0 v) 255) e in
    let f = fault_plain v (is_none_lem (number_fault v) a) in
    let h = leb-true (numeral 0 v) 255 b in
    let n : numeral 0 v ≡ at_most 255 (numeral 0 v) = most_is 255 (numeral 0 v) h in
    record { some = f.some; low = omega arith; same = ap number_text (sym n) ∙ number_back v f (omega arith) }

dotted_text : (a b c d : ℕ) → a ≤ 255 → b ≤ 255 → c ≤ 255 → d ≤ 255
    → address_text (((a * 256 + b) * 256 + c) * 256 + d) ≡ number_text a ++ dot ∷ (number_text b ++ dot ∷ (number_text c ++ dot ∷ number_text d))
unfolding address_text
dotted_text a b c d ha hb hc hd =
    let p : (((a * 256 + b) * 256 + c) * 256 + d) / 2 ^ 24 ≡ a = omega arith in
    let q : (((a * 256 + b) * 256 + c) * 256 + d) / 2 ^ 16 % 256 ≡ b = omega arith in
    let r : (((a * 256 + b) * 256 + c) * 256 + d) / 2 ^ 8 % 256 ≡ c = omega arith in
    let t : (((a * 256 + b) * 256 + c) * 256 + d) % 256 ≡ d = omega arith in
    rw (p, q, r, t)

cut_long : (x : ℕ) (s : List ℕ) → has x s ≡ true → 1 ≤ length s
cut_long x s e = omega (arith, ap length (cut_is x s e), length-append (up_to x s) (x ∷ past x s))

address_back : (v : List ℕ) → address_ok v ≡ true → address_text (address_of v) ≡ v
address_back v e =
    let w = past dot v in
    let x = past dot w in
    let (abc, d) = both (octet_ok (up_to dot v) && octet_ok (up_to dot w) && octet_ok (up_to dot x)) (octet_ok (past dot x)) e in
    let (ab, c) = both (octet_ok (up_to dot v) && octet_ok (up_to dot w)) (octet_ok (up_to dot x)) abc in
    let (a, b) = both (octet_ok (up_to dot v)) (octet_ok (up_to dot w)) ab in
    let fa = octet_back (up_to dot v) a in
    let fb = octet_back (up_to dot w) b in
    let fc = octet_back (up_to dot x) c in
    let fd = octet_back (past dot x) d in
    let hx = past_some dot x fd.some in
    let hw = past_some dot w (cut_long dot x hx) in
    let hv = past_some dot v (cut_long dot w hw) in
    dotted_text (octet_of (up_to dot v)) (octet_of (up_to dot w)) (octet_of (up_to dot x)) (octet_of (past dot x)) fa.low fb.low fc.low fd.low
    ∙ rw (fa.same, fb.same, fc.same, fd.same)
    (ap (λ (l : List ℕ). up_to dot v ++ dot ∷ (up_to dot w ++ dot ∷ l)) (sym (cut_is dot x hx))
    ∙ ap (λ (l : List ℕ). up_to dot v ++ dot ∷ l) (sym (cut_is dot w hw))
    ∙ sym (cut_is dot v hv))

-- ---- numbers

capped_back : (m : ℕ) (v : List ℕ) → number_fault v ≡ None → m < 10 ^ 20 → at_most m (numeral 0 v) < m → number_text (at_most m (numeral 0 v)) ≡ v
capped_back m v e k h =
    by (leb (numeral 0 v) m)
    (λ t. let l = leb-true (numeral 0 v) m t in ap number_text (sym (most_is m (numeral 0 v) l)) ∙ number_back v (fault_plain v e) (omega arith))
    (λ t. let l = leb-false (numeral 0 v) m t in let o = most_over m (numeral 0 v) (omega arith) in absurd (omega arith))

-- ---- the three limits of a set

three_back : (v : List ℕ) → three_fault v ≡ None → LimitsHold (limits_of v) → limits_text (limits_of v) ≡ v
unfolding three_fault limits_of limits_text
three_back v e h =
    let w = past space v in
    let (a, f) = none_first (number_fault (volume_in v)) (option_or (number_fault (seconds_in v)) (number_fault (changes_in v))) e in
    let (b, c) = none_first (number_fault (seconds_in v)) (number_fault (changes_in v)) f in
    let hw = past_some space w (fault_plain (changes_in v) c).some in
    let hv = past_some space v (cut_long space w hw) in
    rw (
      capped_back (2 ^ 64 - 1) (volume_in v) a (omega arith) (omega (arith, h.few_octets)),
      capped_back (2 ^ 32 - 1) (seconds_in v) b (omega arith) (omega (arith, h.few_seconds)),
      capped_back 255 (changes_in v) c (omega arith) (omega (arith, h.few_changes)),
    )
    (ap (λ (l : List ℕ). up_to space v ++ space ∷ l) (sym (cut_is space w hw)) ∙ sym (cut_is space v hv))

-- ---- offsets

minus_first : (v : List ℕ) → get_or v 0 0 ≡ 45 → v ≡ 45 ∷ drop 1 v
minus_first [] e = absurd (omega arith)
minus_first (y ∷ v) e = ap (λ (z : ℕ). z ∷ v) e

west_back : (w : List ℕ) → west_fault w ≡ None → west (numeral 0 w) ≤ 1560 → offset_text (west (numeral 0 w)) ≡ 45 ∷ w
unfolding west_fault west offset_text
west_back w e h =
    let (d, b) = met_unless (digits w) Number (unless (not (eqb (get_or w 0 0) 48)) Zero None) e in
    let z = eqb-false (get_or w 0 0) 48 (not-true (eqb (get_or w 0 0) 48) (met_unless (not (eqb (get_or w 0 0) 48)) Zero None b).0) in
    let f = digits_plain w d (λ l. z) in
    let g = numeral_some w f.each f.some z in
    by (leb (numeral 0 w) 720)
    (λ t.
    let l = leb-true (numeral 0 w) 720 t in
    let m : 720 - (720 - numeral 0 w) ≡ numeral 0 w = omega arith in
    rw (t, lt-leb 720 (720 - numeral 0 w) (omega arith), m, number_back w f (omega arith)))
    (λ t. let k = rw t at h in absurd (omega arith))

east_back : (v : List ℕ) → number_fault v ≡ None → east (numeral 0 v) ≤ 1560 → offset_text (east (numeral 0 v)) ≡ v
unfolding east offset_text
east_back v e h =
    let f = fault_plain v e in
    by (leb (numeral 0 v + 720) 65535)
    (λ t.
    let s = most_is 65535 (numeral 0 v + 720) (leb-true (numeral 0 v + 720) 65535 t) in
    let m : numeral 0 v + 720 - 720 ≡ numeral 0 v = omega arith in
    rw (← s, le-leb 720 (numeral 0 v + 720) (omega arith), m, number_back v f (omega arith)))
    (λ t. let k = leb-false (numeral 0 v + 720) 65535 t in let o = most_over 65535 (numeral 0 v + 720) (omega arith) in absurd (omega arith))

offset_back : (v : List ℕ) → offset_fault v ≡ None → zone_of v ≤ 1560 → offset_text (zone_of v) ≡ v
unfolding offset_fault zone_of
offset_back v e h =
    by (eqb (get_or v 0 0) 45)
    (λ t. let a = rw t at e in let b = rw t at h in rw t (west_back (drop 1 v) a b ∙ sym (minus_first v (eqb-true (get_or v 0 0) 45 t))))
    (λ t. let a = rw t at e in let b = rw t at h in rw t (east_back v a b))

-- ---- node IDs

rest_back : (t : List ℕ) → rest_space t ≡ true → length (past space t) ≤ 20 → node_text (node_octets (past space t)) (length (past space t)) ≡ t
unfolding node_text node_octets past
rest_back [] e h = refl
rest_back (x ∷ []) e h = clash (both (eqb x space) false e).1 refl
rest_back (x ∷ y ∷ u) e h =
    let many = rw (ne_eqb (length (x ∷ y ∷ u)) 0 (λ w. omega arith)) at e in
    let (a, b) = both (eqb x space) (leb 2 (length (x ∷ y ∷ u))) many in
    let k : length (y ∷ u) ≤ 20 = rw a at h in
    let o : take (length (y ∷ u)) (take 20 ((y ∷ u) ++ replicate 20 0)) ≡ y ∷ u =
    take-take (length (y ∷ u)) 20 ((y ∷ u) ++ replicate 20 0) k ∙ take_at (y ∷ u) (replicate 20 0) (length (y ∷ u)) refl in
    rw (a, ne_eqb (length (y ∷ u)) 0 (λ w. omega arith), o) (ap (λ (z : ℕ). z ∷ y ∷ u) (sym (eqb-true x space a)))

-- ---- what follows a name is what is printed for the value after its space

module _ (v t : List ℕ) (e : v ≡ past space t) where
  pub dotted_back : Tail Dotted t → space ∷ address_text (address_of v) ≡ t
  dotted_back f =
      spaced_back (λ (w : List ℕ). address_text (address_of w)) v t f.lead e
      (address_back (past space t) (met_unless (address_ok (past space t)) Address None f.fault).0)

  pub signed_back : Tail Signed t → zone_of v ≤ 1560 → space ∷ offset_text (zone_of v) ≡ t
  signed_back f h = spaced_back (λ (w : List ℕ). offset_text (zone_of w)) v t f.lead e (offset_back (past space t) f.fault (rw e at h))

  pub node_back : Tail Rest t → length v ≤ 20 → node_text (node_octets v) (length v) ≡ t
  node_back f h = rw e (rest_back t f.lead (rw e at h))

pub limits_back : (t : List ℕ) → Tail Three t → LimitsHold (limits_of (past space t)) → limits_tail (limits_of (past space t)) ≡ t
limits_back t f h =
    spaced_back (λ (w : List ℕ). limits_text (limits_of w)) (past space t) t f.lead refl (three_back (past space t) f.fault h)
