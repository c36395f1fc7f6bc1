-- Record lists: a list of records within the rules reads back mark by mark, and what reads is such a list.
use mathlib.Core.Path.{◌≡◌, refl, ap, ◌∙◌}
use mathlib.Core.Bool.{Bool, true, false, and-eq-true_iff}
use Rattle.std.specs.Prelude.{Some}
use Rattle.std.proofs.lemmas.Option.{none-some, same_Some}
use mathlib.Core.List.{List, [], ◌∷◌, ◌++◌}
use Prim.Native.Nat.{ℕ, zero, suc, ◌≤◌}
use native.Mathlib.Nat.{le_of_suc-le-suc}
use native.Mathlib.Omega.{arith}
use lib.Dec.{T, eqb}
use lib.ListN.{length, drop, length-append}
use borrow.Author.Tests.{eqb-true}
use Rattle.format.specs.Maybe.{bind}
use Rattle.format.proofs.Maybe.{bind_some}
use Rattle.format.proofs.Tests.{by}
use Rattle.cdrs.specs.Cdr.{Cdr, cdr_enc, cdr_rules, first_cdr}
use Rattle.cdrs.specs.List.{list_enc, mark_at, list_dec, record_list}
use Rattle.cdrs.proofs.Cdrs.{front, front_sound}

-- each record is within the rules
abbrev pub AllRight : List Cdr → Type 0
AllRight [] = Unit {0}
AllRight (r ∷ rs) = T (cdr_rules r) × AllRight rs

reads : (n : ℕ) (rs : List Cdr) → AllRight rs → length rs ≤ n → list_dec n (list_enc rs) ≡ Some rs
unfolding list_dec list_enc mark_at
reads zero [] a h = refl
reads zero (r ∷ rs) a h = absurd (omega arith)
reads (suc n) [] a h = refl
reads (suc n) (r ∷ rs) a h = rw (front r (list_enc rs) a.0, reads n rs a.1 (le_of_suc-le-suc h))

-- a list has no more records than octets
pub list_long : (rs : List Cdr) → length rs ≤ length (list_enc rs)
unfolding list_enc
list_long [] = omega arith
list_long (r ∷ rs) = omega (arith, list_long rs, length-append (cdr_enc r) (list_enc rs))

-- a list of records within the rules reads back as it is
pub list_reads : (rs : List Cdr) → AllRight rs → record_list (list_enc rs) ≡ Some rs
unfolding record_list
list_reads rs a = reads (length (list_enc rs)) rs a (list_long rs)

mark_front : (s : List ℕ) {y : List ℕ} → mark_at s ≡ true → drop 2 s ≡ y → s ≡ 0xC3 ∷ 0x5A ∷ y
unfolding mark_at
mark_front [] m d = absurd (let u : ◌≡◌ {A = ℕ} 0 1 = cc in omega arith)
mark_front (a ∷ []) m d =
    let z = (and-eq-true_iff (eqb a 0xC3) (eqb 0 0x5A)).0 m in
    absurd (let q : ◌≡◌ {A = Bool} false true = z.1 in let u : ◌≡◌ {A = ℕ} 0 1 = cc in omega arith)
mark_front (a ∷ b ∷ s) m d =
    let z = (and-eq-true_iff (eqb a 0xC3) (eqb b 0x5A)).0 m in
    rw (eqb-true a 0xC3 z.0, eqb-true b 0x5A z.1) (ap (λ (l : List ℕ). 0xC3 ∷ 0x5A ∷ l) d)

-- what reads as a list is its octets, and each of its records is within the rules
pub reads_list : (n : ℕ) (s : List ℕ) (rs : List Cdr) → list_dec n s ≡ Some rs → AllRight rs × (s ≡ list_enc rs)
unfolding list_dec list_enc
reads_list zero [] rs e = let z = same_Some [] rs e in rw (← z) (tt, refl)
reads_list zero (x ∷ s) rs e = absurd (none-some rs e)
reads_list (suc n) [] rs e = let z = same_Some [] rs e in rw (← z) (tt, refl)
reads_list (suc n) (x ∷ s) rs e =
    by (mark_at (x ∷ s))
    (λ m.
    let (p, f, d) = bind_some (first_cdr (drop 2 (x ∷ s))) (λ p. bind (list_dec n p.1) (λ rs. Some (p.0 ∷ rs))) rs (rw m at e) in
    let (qs, g, k) = bind_some (list_dec n p.1) (λ rs. Some (p.0 ∷ rs)) rs d in
    let z = same_Some (p.0 ∷ qs) rs k in
    let (a, w) = reads_list n p.1 qs g in
    let (t, v) = front_sound (drop 2 (x ∷ s)) p f in
    rw (← z) ((t, a), mark_front (x ∷ s) m (v ∙ ap (λ (l : List ℕ). cdr_enc p.0 ++ l) w)))
    (λ m. absurd (none-some rs (rw m at e)))
