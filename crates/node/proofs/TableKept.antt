-- The table after an event: each slot as it must be, the names still apart, and what was written.
use mathlib.Core.Path.{◌≡◌, refl, sym, ap, ◌∙◌}
use mathlib.Core.Bool.{true}
use Rattle.std.specs.Prelude.{Option, None, Some}
use mathlib.Core.List.{List, map}
use Prim.Native.Nat.{ℕ, ◌+◌}
use native.Mathlib.Omega.{arith}
use lib.Dec.{eqb}
use borrow.Author.Tests.{eqb-true}
use Rattle.format.proofs.Tests.{by}
use Rattle.scdr.specs.declared.Record.{Record}
use Rattle.octets.specs.Filled.{fill_to}
use Rattle.container.specs.List.{no_containers}
use Rattle.profile.specs.declared.Profile.{Profile}
use Rattle.event.specs.declared.Name.{Name}
use Rattle.event.specs.declared.Event.{Event}
use Rattle.context.specs.declared.Context.{Context}
use Rattle.context.specs.Context.{no_context}
use Rattle.context.specs.Sound.{slot_ok, slots_ok}
use Rattle.context.specs.Slots.{same_name}
use Rattle.context.proofs.Scans.{slots_ask}
use Rattle.context.proofs.Sounds.{slot_active, slot_free, is_zero_lem}
use Rattle.history.specs.Lists.{All}
use Rattle.history.specs.Log.{Said, activates, tells, tells_all, nothing}
use Rattle.history.specs.Table.{Handling, hears, listen, slot, slots_hear, slots_write}
use Rattle.history.specs.Slots.{distinct}
use Rattle.history.proofs.Lists.{all_map, all_both}
use Rattle.history.proofs.Scans.{asks_all, all_ask}
use Rattle.history.proofs.Slots.{Keeps, same, freed, Pairs, pairs_all, pairs_distinct}
use Rattle.history.proofs.Hearing.{hear_pairs, hear_all}
use Rattle.node.specs.declared.Message.{Message}
use Rattle.node.specs.declared.Settings.{Settings}
use Rattle.node.specs.Step.{Brought, handling, taken, seen, stood}
use Rattle.node.specs.Private.Premises.{InRange, ReportFits, Due, SoundContext}
use Rattle.node.specs.Held.{Shaped, HeldContext, HeldProfile}
use Rattle.node.proofs.Found.{contexts}
use Rattle.node.proofs.ContextKept.{keeps_held, Fine, NextKeeps, Leaves, same_keeps, leaves}
use Rattle.node.proofs.Brings.{AllInRange}

-- ---- slots with nothing in them

module _ (l z clock accepted : ℕ) where
  pub nothing_ok : slot_ok l z clock accepted no_context ≡ true
  nothing_ok = slot_free l z clock accepted no_context (λ e. omega arith) ∙ is_zero_lem

pub nothing_held : HeldContext no_context
unfolding fill_to no_containers
nothing_held =
    record { shape = record { imsi = refl; apn = refl; containers = refl }; id = omega arith; ggsn = omega arith; pdptype = omega arith; address = omega arith }

pub shapes : (cs : List Context) → All HeldContext cs → All Shaped cs
shapes cs h = all_map HeldContext Shaped (λ c k. k.shape) cs h

-- ---- those that hear

-- d stands where c stood
pub record Stays (p : Profile) (t m : ℕ) (c d : Context) : Type 0 where
  pub slot : slot_ok p.sets p.zone t m d ≡ true
  pub held : HeldContext d
  pub names : Keeps contexts c d

-- the table ds follows the table cs
abbrev pub Onward : Profile → ℕ → ℕ → List Context → List Context → Type 0
Onward p t m cs ds = Pairs (Stays p t m) cs ds

module _ {p : Profile} {t m : ℕ} {cs ds : List Context} (o : Pairs (Stays p t m) cs ds) where
  pub onward_slots : slots_ok p.sets p.zone t m ds ≡ true
  onward_slots = all_ask (slots_ask p.sets p.zone t m) ds (pairs_all (λ d. slot_ok p.sets p.zone t m d ≡ true) (λ c d s. s.slot) o)

  pub onward_held : All HeldContext ds
  onward_held = pairs_all HeldContext (λ c d s. s.held) o

  pub onward_distinct : distinct contexts cs ≡ true → distinct contexts ds ≡ true
  onward_distinct e = pairs_distinct contexts (λ c d s. s.names) o e

module _ (p : Profile) (t m : ℕ) (c : Context) where
  -- what stands in the slot of an active context
  next_stays : (o : Option Context) → c.active ≡ 1 → HeldContext c → NextKeeps p t m c o → Stays p t m c (stood o)
  next_stays None e h k = record { slot = nothing_ok p.sets p.zone t m; held = nothing_held; names = freed refl }
  next_stays (Some d) e h k =
      record {
        slot = slot_active p.sets p.zone t m d (k.active ∙ e) ∙ k.sound;
        held = keeps_held k h;
        names = same (ap (λ (a : ℕ). eqb a 1) k.active) k.name;
      }

module _ (p : Profile) (gs : Settings) (t : ℕ) (u : Due p gs t) (o : HeldProfile p) where
  abbrev m : ℕ
  m = u.accepted + 1

  abbrev K : Handling Settings Name Brought Message (Event × List ℕ) Context Record
  K = handling p

  abbrev SlotOk : Context → Type 0
  SlotOk c = slot_ok p.sets p.zone u.clock u.accepted c ≡ true

  abbrev SlotsOk : List Context → Type 0
  SlotsOk cs = slots_ok p.sets p.zone u.clock u.accepted cs ≡ true

  module _ (c : Context) (k : SlotOk c) (h : HeldContext c) (e : c.active ≡ 1) where
    abbrev apt : SoundContext p gs t c
    apt = record { due = u; sound = sym (slot_active p.sets p.zone u.clock u.accepted c e) ∙ k }

    abbrev InRangeIf : Option Message → Type 0
    InRangeIf None = Unit {0}
    InRangeIf (Some x) = InRange x × ReportFits x

    listens : (x : Option Message) → InRangeIf x → Leaves p t m c (listen K gs c t x)
    listens None f = record { next = same_keeps p gs t c apt h.shape; out = tt }
    listens (Some x) f = leaves p gs t c apt h o x f.0 f.1

    hears_fair : (w : Said Settings Name Brought Message) → AllInRange gs w → InRangeIf (hears K c.name w)
    hears_fair (activates n b) f = tt
    hears_fair (tells n x) f = by (same_name c.name n) (λ i. rw i f) (λ i. rw i tt)
    hears_fair (tells_all x) f = f
    hears_fair nothing f = tt

  module _ (w : Said Settings Name Brought Message) (f : AllInRange gs w) where
    active_leaves : (c : Context) → SlotOk c → HeldContext c → c.active ≡ 1 → Leaves p t m c (slot K gs t w (Some c))
    active_leaves c k h e = listens c k h e (hears K c.name w) (hears_fair c k h e w f)

    slot_stays : (c : Context) → SlotOk c → HeldContext c → Stays p t m c (stood (slot K gs t w (seen c)).next)
    slot_stays c k h =
        by (eqb c.active 1)
        (λ e. let a = eqb-true c.active 1 e in rw e (next_stays p t m c (slot K gs t w (Some c)).next a h (active_leaves c k h a).next))
        (λ e. rw e (record { slot = nothing_ok p.sets p.zone t m; held = nothing_held; names = freed refl }))

    slot_fine : (c : Context) → SlotOk c → HeldContext c → All Fine (slot K gs t w (seen c)).out
    slot_fine c k h = by (eqb c.active 1) (λ e. rw e (active_leaves c k h (eqb-true c.active 1 e)).out) (λ e. rw e tt)

    -- the whole table
    abbrev Ok : Context → Type 0
    Ok c = SlotOk c × HeldContext c

    all_ok : (cs : List Context) → SlotsOk cs → All HeldContext cs → All Ok cs
    all_ok cs k h = all_both SlotOk HeldContext cs (asks_all (slots_ask p.sets p.zone u.clock u.accepted) cs k) h

    pub all_stay : (cs : List Context) → SlotsOk cs → All HeldContext cs → Onward p t m cs (map stood (slots_hear K gs t w (map seen cs)))
    all_stay cs k h = hear_pairs K taken no_context gs t (Stays p t m) Ok w (λ c q. slot_stays c q.0 q.1) cs (all_ok cs k h)

    pub all_fine : (cs : List Context) → SlotsOk cs → All HeldContext cs → All Fine (slots_write K gs t w (map seen cs))
    all_fine cs k h = hear_all K taken no_context gs t Fine Ok w (λ c q. slot_fine c q.0 q.1) cs (all_ok cs k h)
