-- Any two answers that meet a promise are equal: a theorem for each form of promise.
use mathlib.Core.Path.{◌≡◌, refl, sym, ap, ◌∙◌}
use Rattle.std.specs.Prelude.{Option, None, Some, MatchOption, IfSome}
use Rattle.std.proofs.lemmas.Option.{none-some, same_Some}
use mathlib.Core.List.{List}
use Prim.Native.Nat.{ℕ, ◌+◌, ◌-◌, ◌≤◌, ◌<◌}
use native.Mathlib.Omega.{arith}
use lib.ListN.{length}
use Rattle.std.specs.Borrow.{Bor}
use Rattle.ber.specs.declared.octet.Octets.{Octets}
use Rattle.ber.specs.Length.{len_enc}
use Rattle.ber.specs.Tlv.{tlv_dec}
use Rattle.ber.specs.Read.{read_at, octets_of, LiesIn}
use Rattle.ber.specs.Write.{Puts, Holds}

-- what was found, and the place after it
pub reads_fixes : {A : Type 0} (p : List ℕ → Option (A × List ℕ)) (s : List ℕ) (at : ℕ) (a b : Option (A × ℕ))
    → a ≡ read_at p s at → b ≡ read_at p s at → a ≡ b
reads_fixes p s at a b e f = e ∙ sym f

-- the buffer, and the place after what was written
pub puts_fixes : {x : Option (List ℕ)} {b c d : List ℕ} {at : ℕ} {m n : Option ℕ} → Puts x b c at m → Puts x b d at n
    → ◌≡◌ {A = List ℕ × Option ℕ} (c, m) (d, n)
puts_fixes a b = a.is ∙ sym b.is

-- the array, and how many octets of it count
pub holds_fixes : (m : ℕ) (x : List ℕ) (a b : Octets m) → Holds m x a.octets a.n → Holds m x b.octets b.n → a ≡ b
holds_fixes m x a b e f i = record { n = (e.size ∙ sym f.size) i; octets = (e.octets ∙ sym f.octets) i }

-- the octets of a length, or that there are none
pub len_fixes : (len : ℕ) (a b : Option (Octets 3))
    → MatchOption a (65536 ≤ len) (λ x. (len < 65536) × Holds 3 (len_enc len) x.octets x.n)
    → MatchOption b (65536 ≤ len) (λ x. (len < 65536) × Holds 3 (len_enc len) x.octets x.n) → a ≡ b
len_fixes len None None e f = refl
len_fixes len None (Some b) e f = absurd (omega (arith, f.0))
len_fixes len (Some a) None e f = absurd (omega (arith, e.0))
len_fixes len (Some a) (Some b) e f = ap {B = Option (Octets 3)} (λ x. Some x) (holds_fixes 3 (len_enc len) a b e.1 f.1)

-- ---- octets that are answered as a part of those that were lent

-- a part that lies in s is known by its octets and by the place after them
same_part : (s : Bor (List ℕ)) (p q : Bor (List ℕ) × ℕ) → LiesIn s p → LiesIn s q → ◌≡◌ {A = List ℕ × ℕ} (p.0.now, p.1) (q.0.now, q.1) → p ≡ q
same_part s p q l m e i =
    let P : List ℕ × ℕ → ℕ × ℕ = λ z. (s.ref_ptr.0, z.1 - length z.0 + s.ref_ptr.1) in
    (record { ref_ptr = (l ∙ ap P e ∙ sym m) i; now = (e i).0 }, (e i).1)

same_parts : (s : Bor (List ℕ)) (a b : Option (Bor (List ℕ) × ℕ)) → octets_of a ≡ octets_of b → IfSome a (LiesIn s) → IfSome b (LiesIn s) → a ≡ b
same_parts s None None e l m = refl
same_parts s None (Some q) e l m = absurd (none-some (q.0.now, q.1) e)
same_parts s (Some p) None e l m = absurd (none-some (p.0.now, p.1) (sym e))
same_parts s (Some p) (Some q) e l m =
    ap {B = Option (Bor (List ℕ) × ℕ)} (λ x. Some x) (same_part s p q l m (same_Some (p.0.now, p.1) (q.0.now, q.1) e))

-- the octets that were found and the place after them, and with the place where they lie the very part
pub copies_fixes : (p : List ℕ → Option (List ℕ × List ℕ)) (s : Bor (List ℕ)) (at : ℕ) (a b : Option (Bor (List ℕ) × ℕ))
    → octets_of a ≡ read_at p s.now at → octets_of b ≡ read_at p s.now at
    → (octets_of a ≡ octets_of b) × (IfSome a (LiesIn s) → IfSome b (LiesIn s) → a ≡ b)
copies_fixes p s at a b e f = (e ∙ sym f, same_parts s a b (e ∙ sym f))

-- the contents and the place where they end, and with the place where they lie the very part
pub lies_fixes : (s : Bor (List ℕ)) (at t : ℕ) (a b : Option (Bor (List ℕ) × ℕ))
    → octets_of a ≡ read_at (tlv_dec t) s.now at → octets_of b ≡ read_at (tlv_dec t) s.now at
    → (octets_of a ≡ octets_of b) × (IfSome a (LiesIn s) → IfSome b (LiesIn s) → a ≡ b)
lies_fixes s at t = copies_fixes (tlv_dec t) s at
