-- Activates that differ in the spelling of the name alone say the same, and no row of the refusal table tells them apart.
use mathlib.Core.Path.{◌≡◌, refl, sym, ap, ap₂, ◌∙◌}
use mathlib.Core.Bool.{◌&&◌}
use mathlib.Core.List.{List, ◌∷◌}
use Prim.Native.Nat.{ℕ, zero, suc, ◌+◌, ◌-◌, ◌≤◌, ◌<◌}
use native.Mathlib.Omega.{arith}
use lib.Dec.{leb, eqb}
use lib.ListN.{length, take, drop, get_or, length-append, take-append-drop}
use lib.Seq.{get_or-take, take-take}
use Rattle.ber.specs.Int.{spelt, octets_from, number_in}
use Rattle.octets.proofs.Fronts.{drop_take}
use Rattle.octets.proofs.Checked.{spelled_length, spelled_name}
use Rattle.event.specs.Fields.{kind_of, time_of, flags_of, imsi_of, count_of, spelling_of, qos_at, activation_of, activate_ok}
use Rattle.event.specs.Kinds.{Kind, kinds, kind_in, row_of, activate_kind, the_row, whole_of}
use Rattle.event.specs.Rows.{marked, known, measured, fields_ok}
use Rattle.event.specs.Event.{event_of}
use Rattle.event.specs.Spelling.{OneSpelling}
use Rattle.event.specs.declared.Event.TheVariants.{Activate}
use Rattle.event.proofs.Table.{known_is}

-- ---- octets with the same front

part_front : (n k at : ℕ) → at + k ≤ n → (l : List ℕ) → take k (drop at (take n l)) ≡ take k (drop at l)
part_front n k at h l = ap (take k) (drop_take at n l) ∙ take-take k (n - at) (drop at l) (omega arith)

module _ {n : ℕ} (s t : List ℕ) (e : take n s ≡ take n t) where
  pub front_at : (i : ℕ) → i < n → get_or s i 0 ≡ get_or t i 0
  front_at i h = sym (get_or-take n s i 0 h) ∙ ap (λ (l : List ℕ). get_or l i 0) e ∙ get_or-take n t i 0 h

  front_octets : (k at : ℕ) → at + k ≤ n → octets_from k at s ≡ octets_from k at t
  unfolding octets_from
  front_octets zero at h = refl
  front_octets (suc k) at h =
      ap₂ {C = List ℕ} (λ x xs. x ∷ xs) (front_at at (omega arith)) (front_octets k (suc at) (omega arith))

  pub front_number : (k at : ℕ) → at + k ≤ n → number_in k at s ≡ number_in k at t
  unfolding number_in
  front_number k at h = ap (spelt 0) (front_octets k at h)

  pub front_part : (k at : ℕ) → at + k ≤ n → take k (drop at s) ≡ take k (drop at t)
  front_part k at h =
      sym (part_front n k at h s) ∙ ap (λ (l : List ℕ). take k (drop at l)) e ∙ part_front n k at h t

-- ---- two spellings of one name

row_of_lem : (u : List ℕ) → kind_of u ≡ 1 → the_row (row_of u) ≡ activate_kind
unfolding kinds kind_in
row_of_lem u e = rw e

pub says_activate : (u : List ℕ) → kind_of u ≡ 1 → event_of u ≡ Activate (activation_of u)
unfolding event_of
says_activate u e = ap (λ (k : Kind). k.says u) (row_of_lem u e)

module _ (s t : List ℕ) (o : OneSpelling s t) where
  at_front : (i : ℕ) → i < 37 → get_or s i 0 ≡ get_or t i 0
  at_front = front_at s t o.front

  number_front : (k at : ℕ) → at + k ≤ 37 → number_in k at s ≡ number_in k at t
  number_front = front_number s t o.front

  pub kind_too : kind_of t ≡ 1
  kind_too = sym (at_front 2 (omega arith)) ∙ o.kind

  pub same_time : time_of s ≡ time_of t
  same_time = number_front 4 3 (omega arith)

  pub same_flags : flags_of s ≡ flags_of t
  same_flags = at_front 15 (omega arith)

  pub same_imsi : imsi_of s ≡ imsi_of t
  same_imsi = front_part {n = 37} s t o.front 8 16 (omega arith)

  pub same_length : length s ≡ length t
  same_length =
      omega (
        arith,
        length-append (take 37 s) (spelling_of s),
        length-append (take 37 t) (spelling_of t),
        ap length (take-append-drop 37 s),
        ap length (take-append-drop 37 t),
        ap length o.front,
        spelled_length (spelling_of s) (spelling_of t) o.name,
      )

  same_count : count_of s ≡ count_of t
  same_count = at_front 36 (omega arith)

  same_qos_lem : qos_at 30 s ≡ qos_at 30 t
  same_qos_lem =
      rw (
        at_front 30 (omega arith),
        at_front 31 (omega arith),
        at_front 32 (omega arith),
        at_front 33 (omega arith),
        at_front 34 (omega arith),
      )

  pub same_activation : activation_of s ≡ activation_of t
  same_activation =
      rw (
        number_front 4 7 (omega arith),
        number_front 4 11 (omega arith),
        same_flags,
        number_front 2 24 (omega arith),
        number_front 4 26 (omega arith),
        same_qos_lem,
        at_front 35 (omega arith),
        same_count,
      )

  same_ok : activate_ok s ≡ activate_ok t
  unfolding activate_ok
  same_ok = rw (same_flags, same_imsi, same_qos_lem, spelled_name (spelling_of s) (spelling_of t) o.name)

  -- ---- the row of each is that of an activate

  same_row : {X : Type 0} (f : List ℕ → Kind → X) → f s activate_kind ≡ f t activate_kind → f s (the_row (row_of s)) ≡ f t (the_row (row_of t))
  same_row f e = ap (λ (k : Kind). f s k) (row_of_lem s o.kind) ∙ e ∙ ap (λ (k : Kind). f t k) (sym (row_of_lem t kind_too))

  pub same_marked : marked s ≡ marked t
  unfolding marked
  same_marked = rw (at_front 0 (omega arith), at_front 1 (omega arith))

  pub same_known : known s ≡ known t
  same_known = known_is s ∙ ap (λ (k : ℕ). leb 1 k && leb k 12) (at_front 2 (omega arith)) ∙ sym (known_is t)

  pub same_measured : measured s ≡ measured t
  unfolding measured whole_of
  same_measured = same_row (λ u k. eqb (length u) (k.whole u)) (rw (same_length, same_count))

  pub same_fields : fields_ok s ≡ fields_ok t
  unfolding fields_ok
  same_fields = same_row (λ u k. k.in_range u) same_ok
