-- The table at a later time, and after an activation: each slot is as it must be.
use mathlib.Core.Path.{◌≡◌, sym, ◌∙◌}
use mathlib.Core.Bool.{true}
use mathlib.Core.List.{List}
use Prim.Native.Nat.{ℕ, ◌≤◌}
use lib.Dec.{eqb}
use borrow.Author.Tests.{eqb-true, eqb-false}
use Rattle.format.proofs.Tests.{by}
use Rattle.context.specs.declared.Context.{Context}
use Rattle.context.specs.Context.{no_context}
use Rattle.context.specs.Sound.{slot_ok, slots_ok}
use Rattle.context.proofs.Scans.{slots_ask}
use Rattle.context.proofs.Sounds.{slot_active, slot_free}
use Rattle.history.proofs.Lists.{all_map}
use Rattle.history.proofs.Scans.{asks_all, all_ask}
use Rattle.history.proofs.Slots.{Filled, filled_all}
use Rattle.node.specs.Step.{taken}
use Rattle.node.proofs.ContextKept.{later_context}

module _ (l z clock accepted t m : ℕ) (since : clock ≤ t) (few : accepted ≤ m) where
  slot_later : (c : Context) → slot_ok l z clock accepted c ≡ true → slot_ok l z t m c ≡ true
  slot_later c k =
      by (eqb c.active 1)
      (λ e.
      let a = eqb-true c.active 1 e in
      slot_active l z t m c a ∙ later_context l z clock accepted c (sym (slot_active l z clock accepted c a) ∙ k) t m since few)
      (λ e.
      let a = eqb-false c.active 1 e in
      slot_free l z t m c a ∙ sym (slot_free l z clock accepted c a) ∙ k)

  pub slots_later : (cs : List Context) → slots_ok l z clock accepted cs ≡ true → slots_ok l z t m cs ≡ true
  slots_later cs k =
      all_ask (slots_ask l z t m) cs
      (all_map (λ c. slot_ok l z clock accepted c ≡ true) (λ c. slot_ok l z t m c ≡ true) slot_later cs (asks_all (slots_ask l z clock accepted) cs k))

pub filled_slots : (l z t m : ℕ) {x : Context} {cs ds : List Context} → Filled taken no_context x cs ds
    → slot_ok l z t m x ≡ true → slots_ok l z t m cs ≡ true → slots_ok l z t m ds ≡ true
filled_slots l z t m {x} {cs} {ds} f k e =
    all_ask (slots_ask l z t m) ds (filled_all taken no_context (λ c. slot_ok l z t m c ≡ true) f k (asks_all (slots_ask l z t m) cs e))
