-- What the rules of a sound slot say: of an active context, and of a free one.
use mathlib.Core.Path.{◌≡◌, ap, ◌∙◌}
use mathlib.Core.Bool.{true, ◌&&◌}
use Prim.Native.Nat.{ℕ, ◌≤◌, ◌<◌}
use lib.Dec.{leb, eqb}
use lib.ListN.{length, replicate}
use borrow.Author.Tests.{leb-true, ltb-true, eqb-true, le-leb, lt-ltb, eq-eqb, ne_eqb}
use Rattle.format.proofs.Tests.{both, true_T}
use Rattle.ber.specs.Imsi.{imsi_ok}
use Rattle.container.specs.Open.{sound_open, blank_open}
use Rattle.container.proofs.OpenRules.{SoundOpen, sound_open_lem, sound_open_is, is_blank_lem, blank_open_lem}
use Rattle.octets.specs.Chars.{all_of, is_zero}
use Rattle.octets.specs.Names.{apn_ok}
use Rattle.octets.specs.Filled.{fill_to}
use Rattle.octets.proofs.Filled.{zeros_are}
use Rattle.limits.specs.Sets.{has_set}
use Rattle.context.specs.declared.Context.{Context}
use Rattle.context.specs.Context.{no_context}
use Rattle.context.specs.Sound.{fields_ok, closed_ok, context_ok, zero_ok, slot_ok}

-- ---- an active context

-- all that holds of one that is as it must be
pub record Good (count z clock accepted : ℕ) (c : Context) : Type 0 where
  pub flags : c.flags ≤ 3
  pub imsi : imsi_ok c.imsi ≡ true
  pub apn : apn_ok c.apn c.apnlen ≡ true
  pub set : has_set count c.set ≡ true
  pub closed : c.closed < accepted
  pub current : SoundOpen z clock c.current

module _ (count zone clock accepted : ℕ) (c : Context) where
  pub good : context_ok count zone clock accepted c ≡ true → Good count zone clock accepted c
  unfolding context_ok fields_ok closed_ok
  good h =
      let f = fields_ok c in
      let s = has_set count c.set in
      let d = closed_ok accepted c in
      let h₂ = both (f && s && d) (sound_open zone clock c.current) h in
      let h₁ = both (f && s) d h₂.0 in
      let h₀ = both f s h₁.0 in
      let a = leb c.flags 3 in
      let b = imsi_ok c.imsi in
      let f₂ = both (a && b) (apn_ok c.apn c.apnlen) h₀.0 in
      let f₁ = both a b f₂.0 in
      record {
        flags = leb-true c.flags 3 f₁.0;
        imsi = f₁.1;
        apn = f₂.1;
        set = h₀.1;
        closed = ltb-true c.closed accepted h₁.1;
        current = sound_open_lem zone clock c.current h₂.1;
      }

  pub good_is : Good count zone clock accepted c → context_ok count zone clock accepted c ≡ true
  unfolding context_ok fields_ok closed_ok
  good_is g =
      rw (
        le-leb c.flags 3 g.flags,
        g.imsi,
        g.apn,
        g.set,
        lt-ltb c.closed accepted g.closed,
        sound_open_is zone clock c.current g.current,
      )

-- ---- a free slot

pub is_zero_lem : zero_ok no_context ≡ true
unfolding zero_ok all_of fill_to
is_zero_lem = rw is_blank_lem

module _ (c : Context) where
  pub zero_is : zero_ok c ≡ true → length c.imsi ≡ 8 → length c.apn ≡ 63 → length c.current.containers ≡ 15 → c ≡ no_context
  unfolding zero_ok fill_to
  zero_is h k l m =
      let a₁ = eqb c.active 0 in
      let a₂ = a₁ && eqb c.flags 0 in
      let a₂' = a₂ && eqb c.set 0 in
      let a₃ = a₂' && eqb c.name.id 0 in
      let a₄ = a₃ && eqb c.name.ggsn 0 in
      let a₅ = a₄ && all_of is_zero c.imsi in
      let a₆ = a₅ && all_of is_zero c.apn in
      let a₇ = a₆ && eqb c.apnlen 0 in
      let a₈ = a₇ && eqb c.pdptype 0 in
      let a₉ = a₈ && eqb c.address 0 in
      let h₂ = both (a₉ && blank_open c.current) (eqb c.closed 0) h in
      let h₁ = both a₉ (blank_open c.current) h₂.0 in
      let g₈ = both a₈ (eqb c.address 0) h₁.0 in
      let g₇ = both a₇ (eqb c.pdptype 0) g₈.0 in
      let g₆ = both a₆ (eqb c.apnlen 0) g₇.0 in
      let g₅ = both a₅ (all_of is_zero c.apn) g₆.0 in
      let g₄ = both a₄ (all_of is_zero c.imsi) g₅.0 in
      let g₃ = both a₃ (eqb c.name.ggsn 0) g₄.0 in
      let g₂ = both a₂' (eqb c.name.id 0) g₃.0 in
      let g₂' = both a₂ (eqb c.set 0) g₂.0 in
      let g₁ = both a₁ (eqb c.flags 0) g₂'.0 in
      let active = eqb-true c.active 0 g₁.0 in
      let flags = eqb-true c.flags 0 g₁.1 in
      let set = eqb-true c.set 0 g₂'.1 in
      let id = eqb-true c.name.id 0 g₂.1 in
      let ggsn = eqb-true c.name.ggsn 0 g₃.1 in
      let imsi : c.imsi ≡ replicate 8 0 = zeros_are c.imsi (true_T (all_of is_zero c.imsi) g₄.1) ∙ ap (λ (n : ℕ). replicate n 0) k in
      let apn : c.apn ≡ replicate 63 0 = zeros_are c.apn (true_T (all_of is_zero c.apn) g₅.1) ∙ ap (λ (n : ℕ). replicate n 0) l in
      let apnlen = eqb-true c.apnlen 0 g₆.1 in
      let pdptype = eqb-true c.pdptype 0 g₇.1 in
      let address = eqb-true c.address 0 g₈.1 in
      let none = blank_open_lem c.current m h₁.1 in
      let closed = eqb-true c.closed 0 h₂.1 in
      λ i. record {
        active = active i;
        flags = flags i;
        set = set i;
        name = record { id = id i; ggsn = ggsn i };
        imsi = imsi i;
        apn = apn i;
        apnlen = apnlen i;
        pdptype = pdptype i;
        address = address i;
        current = none i;
        closed = closed i;
      }

-- ---- a slot

module _ (count zone clock accepted : ℕ) where
  module _ (c : Context) where
    pub slot_active : c.active ≡ 1 → slot_ok count zone clock accepted c ≡ context_ok count zone clock accepted c
    unfolding slot_ok
    slot_active e = rw (eq-eqb c.active 1 e)

    pub slot_free : (c.active ≡ 1 → ⊥) → slot_ok count zone clock accepted c ≡ zero_ok c
    unfolding slot_ok
    slot_free e = rw (ne_eqb c.active 1 e)
