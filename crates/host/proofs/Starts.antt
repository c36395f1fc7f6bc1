-- A node made of a text that reads, and none where a value is out of range.
use mathlib.Core.Path.{◌≡◌, refl, sym, ap, ◌∙◌}
use mathlib.Core.Bool.{Bool, true, false}
use mathlib.Core.List.{List}
use Prim.Native.Nat.{ℕ}
use native.Mathlib.Omega.{arith}
use Rattle.std.specs.Prelude.{Result, Ok, Err}
use Rattle.profile.specs.Profile.{profile_ok}
use Rattle.profile.specs.Text.{read_of}
use Rattle.profile.specs.declared.Profile.{Profile}
use Rattle.profile.specs.declared.fault.BadLine.{BadLine}
use Rattle.node.specs.declared.Node.{Node}
use Rattle.node.specs.Sound.{fresh_of, no_node, Makes}
use Rattle.host.specs.Begin.{begun_by, begun, began_by, Begins}
use Rattle.host.specs.declared.Unfit.{Unfit}
use Rattle.host.specs.declared.Unfit.TheVariants.{Line, Range}

by : {X : Type 0} (t : Bool) → (t ≡ true → X) → (t ≡ false → X) → X
by true f g = f refl
by false f g = g refl

module _ (s : List ℕ) (p : Profile) (a : ℕ) (n : Node) (e : read_of s ≡ Ok p) (m : Makes p a n) where
  pub begun_node : a ≡ 0 → ◌≡◌ {A = Result Node Unfit} (Ok n) (begun s)
  unfolding begun_by fresh_of
  begun_node z =
      by (profile_ok p)
      (λ t. let q = rw t at m.is in rw (e, t) (ap (λ (w : ℕ × Node). Ok w.1) q))
      (λ t. let q = rw t at m.is in let y : a ≡ 12 = ap (λ (w : ℕ × Node). w.0) q in absurd (omega arith))

  pub begun_none : (a ≡ 0 → ⊥) → ◌≡◌ {A = Result Node Unfit} (Err Range) (begun s)
  unfolding begun_by fresh_of
  begun_none z =
      by (profile_ok p)
      (λ t. let q = rw t at m.is in absurd (z (ap (λ (w : ℕ × Node). w.0) q)))
      (λ t. rw (e, t))

-- ---- as a host in C has it

-- the line that an error names, or 0; and what is answered
abbrev pub line_of : Unfit → ℕ
line_of (Line b) = b.line
line_of Range = 0

abbrev pub told : Result Node Unfit → ℕ × (Node × ℕ)
told (Ok n) = (0, (n, 0))
told (Err u) = (12, (no_node, line_of u))

told_by : (r : Result Profile BadLine) → told (begun_by r) ≡ began_by r
unfolding begun_by began_by fresh_of
told_by (Ok p) = by (profile_ok p) (λ t. rw t) (λ t. rw t)
told_by (Err b) = refl

pub begins : (s : List ℕ) (a l : ℕ) (n : Node) (r : Result Node Unfit) → r ≡ begun s → ◌≡◌ {A = ℕ × (Node × ℕ)} (a, (n, l)) (told r) → Begins s a n l
begins s a l n r e t = record { is = t ∙ ap told e ∙ told_by (read_of s) }

pub begins_not : {s : List ℕ} {r : Result Node Unfit} {u v : Unfit} {n : Node} → r ≡ begun s → r ≡ Err u → u ≡ v → n ≡ no_node
    → Begins s 12 n (line_of v)
begins_not {s} {r} {u} {v} {n} e f g h = begins s 12 (line_of v) n r e (ap (λ (m : Node). (12, (m, line_of v))) h ∙ sym (ap told (f ∙ ap Err g)))
