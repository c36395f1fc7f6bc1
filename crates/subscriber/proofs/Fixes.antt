-- The promises leave nothing open: two results that meet one of them, of the same inputs, are equal. First what a promise says by numbers, then
-- what the function answers itself.
use mathlib.Core.Path.{◌≡◌, refl, sym, ap, ◌∙◌}
use mathlib.Core.List.{List}
use Prim.Native.Nat.{ℕ}
use native.Mathlib.Omega.{arith}
use Rattle.std.specs.Prelude.{Result, Ok, Err}
use Rattle.ber.specs.declared.written.NotWritten.{NotWritten}
use Rattle.ber.specs.declared.written.NotWritten.TheVariants.{OutsideRules, NoRoom}
use Rattle.profile.specs.declared.Profile.{Profile}
use Rattle.mcdr.specs.declared.MmRecord.{MmRecord}
use Rattle.subscriber.specs.declared.Subscriber.{Subscriber}
use Rattle.subscriber.specs.declared.Notice.{Notice}
use Rattle.subscriber.specs.Tell.{answer_of, written_of, Tells}
use Rattle.subscriber.specs.Private.Marked.{Marks, Emits}

-- ---- what public functions promise

-- `tell::tell`: the answer, the subscriber, the written length and the buffer
pub tells_fixes : {p : Profile} {t : ℕ} {m : Notice} {s s₁ s₂ : Subscriber} {b b₁ b₂ : List ℕ} {a₁ a₂ w₁ w₂ : ℕ}
    → Tells p t m s b b₁ a₁ s₁ w₁ → Tells p t m s b b₂ a₂ s₂ w₂
    → ◌≡◌ {A = ℕ × (Subscriber × (ℕ × List ℕ))} (a₁, (s₁, (w₁, b₁))) (a₂, (s₂, (w₂, b₂)))
tells_fixes p q = p.is ∙ sym q.is

-- ---- what the code answers

-- a result by its two numbers: no two have both in common
same_result : (x y : Result ℕ NotWritten) → answer_of x ≡ answer_of y → written_of x ≡ written_of y → x ≡ y
same_result (Ok m) (Ok n) e f = ap (λ v. Ok v) f
same_result (Ok m) (Err NoRoom) e f = absurd (omega arith)
same_result (Ok m) (Err OutsideRules) e f = absurd (omega arith)
same_result (Err NoRoom) (Ok n) e f = absurd (omega arith)
same_result (Err NoRoom) (Err NoRoom) e f = refl
same_result (Err NoRoom) (Err OutsideRules) e f = absurd (omega arith)
same_result (Err OutsideRules) (Ok n) e f = absurd (omega arith)
same_result (Err OutsideRules) (Err NoRoom) e f = absurd (omega arith)
same_result (Err OutsideRules) (Err OutsideRules) e f = refl

-- the result, the subscriber and the buffer, where the numbers, the subscriber and the buffer are equal
joined : (r₁ r₂ : Result ℕ NotWritten) {s₁ s₂ : Subscriber} {b₁ b₂ : List ℕ}
    → ◌≡◌ {A = ℕ × (Subscriber × (ℕ × List ℕ))} (answer_of r₁, (s₁, (written_of r₁, b₁))) (answer_of r₂, (s₂, (written_of r₂, b₂)))
    → ◌≡◌ {A = Result ℕ NotWritten × (Subscriber × List ℕ)} (r₁, (s₁, b₁)) (r₂, (s₂, b₂))
joined r₁ r₂ w =
    let i = same_result r₁ r₂ (ap (λ v. v.0) w) (ap (λ v. v.1.1.0) w) in
    let j = ap (λ v. v.1.0) w in
    let k = ap (λ v. v.1.1.1) w in
    cc

-- `tell::tell`: how many octets are written, or why none; the subscriber; and the buffer
pub tell_fixes : {p : Profile} {t : ℕ} {m : Notice} {s s₁ s₂ : Subscriber} {b b₁ b₂ : List ℕ} (r₁ r₂ : Result ℕ NotWritten)
    → Tells p t m s b b₁ (answer_of r₁) s₁ (written_of r₁) → Tells p t m s b b₂ (answer_of r₂) s₂ (written_of r₂)
    → ◌≡◌ {A = Result ℕ NotWritten × (Subscriber × List ℕ)} (r₁, (s₁, b₁)) (r₂, (s₂, b₂))
tell_fixes r₁ r₂ p q = joined r₁ r₂ (tells_fixes p q)

-- ---- what private functions promise

pub marks_fixes : {r : MmRecord} {b b₁ b₂ : List ℕ} {a₁ a₂ : Result ℕ NotWritten} → Marks r b b₁ a₁ → Marks r b b₂ a₂
    → ◌≡◌ {A = Result ℕ NotWritten × List ℕ} (a₁, b₁) (a₂, b₂)
marks_fixes p q = p.is ∙ sym q.is

pub emits_fixes : {r : MmRecord} {s z s₁ s₂ : Subscriber} {b b₁ b₂ : List ℕ} {a₁ a₂ w₁ w₂ : ℕ} → Emits r s z b b₁ a₁ s₁ w₁ → Emits r s z b b₂ a₂ s₂ w₂
    → ◌≡◌ {A = ℕ × (Subscriber × (ℕ × List ℕ))} (a₁, (s₁, (w₁, b₁))) (a₂, (s₂, (w₂, b₂)))
emits_fixes p q = p.is ∙ sym q.is

-- `tell::emit`: the same
pub emit_fixes : {r : MmRecord} {s z s₁ s₂ : Subscriber} {b b₁ b₂ : List ℕ} (r₁ r₂ : Result ℕ NotWritten)
    → Emits r s z b b₁ (answer_of r₁) s₁ (written_of r₁) → Emits r s z b b₂ (answer_of r₂) s₂ (written_of r₂)
    → ◌≡◌ {A = Result ℕ NotWritten × (Subscriber × List ℕ)} (r₁, (s₁, b₁)) (r₂, (s₂, b₂))
emit_fixes r₁ r₂ p q = joined r₁ r₂ (emits_fixes p q)
