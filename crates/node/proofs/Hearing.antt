-- The table hears an event: history's laws of slots (proofs/Slots.antt, Heards.antt) of contexts.
use mathlib.Core.Path.{◌≡◌, refl, sym, ap, ◌∙◌}
use mathlib.Core.Logic.{◌↔◌}
use mathlib.Core.Bool.{true}
use mathlib.Core.List.{List, map}
use Prim.Native.Nat.{ℕ, suc}
use lib.Dec.{eqb}
use lib.ListN.{length}
use borrow.Author.Tests.{eqb-true, eqb-false, eq-eqb}
use Rattle.format.proofs.Tests.{both}
use Rattle.scdr.specs.declared.Record.{Record}
use Rattle.profile.specs.declared.Profile.{Profile}
use Rattle.event.specs.declared.Name.{Name}
use Rattle.event.specs.declared.Event.{Event}
use Rattle.context.specs.declared.Context.{Context}
use Rattle.context.specs.Context.{no_context}
use Rattle.context.specs.Sound.{slot_ok, slots_ok}
use Rattle.context.specs.Slots.{same_name}
use Rattle.context.proofs.Scans.{slots_ask}
use Rattle.context.proofs.Sounds.{slot_free, zero_is}
use Rattle.history.specs.Lists.{All}
use Rattle.history.specs.Log.{tells, tells_all}
use Rattle.history.specs.Table.{Handling, slots_hear, slots_write}
use Rattle.history.specs.Slots.{distinct, across, along}
use Rattle.history.proofs.Lists.{all_map, all_both}
use Rattle.history.proofs.Scans.{First, asks_all}
use Rattle.history.proofs.Slots as S
use Rattle.history.proofs.Hearing as H
use Rattle.node.specs.declared.Message.{Message}
use Rattle.node.specs.declared.Settings.{Settings}
use Rattle.node.specs.Step.{Brought, handling, taken, seen, stood, marked_octets, octets_of}
use Rattle.node.specs.Held.{Shaped}
use Rattle.node.specs.Private.Range.{slot_next, slot_out}
use Rattle.node.proofs.Found.{contexts, named}

-- ---- names are told apart

pub same_name_lem : (a b : Name) → same_name a b ≡ true → a ≡ b
same_name_lem a b e =
    let w = both (eqb a.id b.id) (eqb a.ggsn b.ggsn) e in
    let x = eqb-true a.id b.id w.0 in
    let y = eqb-true a.ggsn b.ggsn w.1 in
    λ i. record { id = x i; ggsn = y i }

pub same_exactly : (a b : Name) → (same_name a b ≡ true) ↔ (a ≡ b)
same_exactly a b = (
  (λ e. same_name_lem a b e),
  (λ e. rw (ap (λ (n : Name). n.id) e, ap (λ (n : Name). n.ggsn) e, eq-eqb b.id b.id refl, eq-eqb b.ggsn b.ggsn refl)),
)

-- ---- a free slot holds nothing

abbrev pub Settled : Context → Type 0
Settled c = S.Settled taken no_context c

module _ (count zone clock accepted : ℕ) where
  settled : (c : Context) → Shaped c × (slot_ok count zone clock accepted c ≡ true) → Settled c
  unfolding S.Settled
  settled c s e = zero_is c (sym (slot_free count zone clock accepted c (eqb-false c.active 1 e)) ∙ s.1) s.0.imsi s.0.apn s.0.containers

  pub all_settled : (cs : List Context) → All Shaped cs → slots_ok count zone clock accepted cs ≡ true → All Settled cs
  all_settled cs s k =
      all_map (λ c. Shaped c × (slot_ok count zone clock accepted c ≡ true)) Settled settled cs
      (all_both Shaped (λ c. slot_ok count zone clock accepted c ≡ true) cs s (asks_all (slots_ask count zone clock accepted) cs k))

-- ---- all hear, one hears

module _ (p : Profile) (gs : Settings) (t : ℕ) (h : Message) where
  abbrev K : Handling Settings Name Brought Message (Event × List ℕ) Context Record
  K = handling p

  module _ (cs : List Context) (s : All Settled cs) where
    pub all_after : map stood (slots_hear K gs t (tells_all h) (map seen cs)) ≡ across 0 (length cs) (slot_next p gs t h) cs
    unfolding slot_next
    all_after = H.all_after K taken no_context gs t marked_octets h cs s

    pub all_outs : octets_of (slots_write K gs t (tells_all h) (map seen cs)) ≡ along 0 (length cs) (slot_out p gs t h) cs
    unfolding slot_out octets_of
    all_outs = H.all_outs K taken no_context gs t marked_octets h cs s

  module _ (m : Name) {cs : List Context} {i : ℕ} (f : First (named m) cs i) (s : All Settled cs) (d : distinct contexts cs ≡ true) where
    pub tells_after : map stood (slots_hear K gs t (tells m h) (map seen cs)) ≡ across i (suc i) (slot_next p gs t h) cs
    unfolding slot_next
    tells_after = H.tells_after K taken no_context gs t marked_octets h same_exactly m f s d

    pub tells_outs : octets_of (slots_write K gs t (tells m h) (map seen cs)) ≡ along i (suc i) (slot_out p gs t h) cs
    unfolding slot_out octets_of
    tells_outs = H.tells_outs K taken no_context gs t marked_octets h same_exactly m f s d
