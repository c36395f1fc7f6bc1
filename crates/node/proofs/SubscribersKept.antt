-- The table of subscribers after an event: each slot as it must be, the names still apart, and what was written.
use mathlib.Core.Path.{◌≡◌, refl, sym, ap, ◌∙◌}
use mathlib.Core.Bool.{true, false}
use Rattle.std.specs.Prelude.{Option, None, Some}
use mathlib.Core.List.{List, map}
use Prim.Native.Nat.{ℕ, ◌+◌}
use native.Mathlib.Omega.{arith}
use lib.Dec.{T, eqb}
use lib.ListN.{length}
use Rattle.format.proofs.Tests.{by, true_T}
use Rattle.ber.specs.Int.{spelt}
use Rattle.ber.specs.Imsi.{imsi_ok}
use Rattle.ber.proofs.Imsis.{imsi_rules}
use Rattle.profile.specs.declared.Profile.{Profile}
use Rattle.event.specs.declared.Event.{Event}
use Rattle.mcdr.specs.declared.MmRecord.{MmRecord}
use Rattle.mcdr.specs.Layout.{rules}
use Rattle.subscriber.specs.declared.Subscriber.{Subscriber}
use Rattle.subscriber.specs.declared.Notice.{Notice}
use Rattle.subscriber.specs.Subscriber.{name_of, taken, no_subscriber}
use Rattle.subscriber.specs.Sound.{slot_ok, slots_ok}
use Rattle.subscriber.specs.Hear.{attached, notice_ok, hear}
use Rattle.subscriber.specs.Held.{HeldSubscriber, notice_held}
use Rattle.subscriber.specs.Tell.{stood}
use Rattle.subscriber.proofs.Scans.{slots_ask}
use Rattle.subscriber.proofs.Sounds.{blank_ok, attached_ok, later_ok}
use Rattle.subscriber.proofs.Kept.{hear_ok}
use Rattle.subscriber.proofs.Helds.{blank_held, attached_held, hear_held, hear_rules}
use Rattle.subscriber.proofs.Named.{hear_named}
use Rattle.history.specs.Lists.{All}
use Rattle.history.specs.Log.{activates, tells, tells_all, nothing}
use Rattle.history.specs.Table.{Handling, slot, slots_after, writes, is_active}
use Rattle.history.specs.Slots.{distinct, seen}
use Rattle.history.proofs.Lists.{all_map, all_both}
use Rattle.history.proofs.Scans.{asks_all, all_ask}
use Rattle.history.proofs.Slots.{Keeps, same, freed, pairs_all, pairs_distinct, pairs_length}
use Rattle.history.proofs.Slots.{stand_all, fill_is, filled_all, filled_length, filled_distinct}
use Rattle.history.proofs.Hearing.{none_bears_lem, hear_pairs, hear_all}
use Rattle.node.specs.declared.Settings.{Settings}
use Rattle.node.specs.Step.{Attached, ToSubscribers, subscribing}
use Rattle.node.specs.Held.{HeldProfile}
use Rattle.node.specs.Private.Premises.{Due}
use Rattle.node.proofs.Attached.{subscribers, exactly, all_vacant}
use Rattle.node.proofs.Brings.{NoticesInRange}

-- what each record that is written must be
abbrev pub MmFine : MmRecord → Type 0
MmFine r = T (rules r)

-- the table ss after an event, where there were so many slots
pub record Enrolled (z t m count : ℕ) (ss : List Subscriber) : Type 0 where
  pub slots : slots_ok z t m ss ≡ true
  pub names : distinct subscribers ss ≡ true
  pub held : All HeldSubscriber ss
  pub size : length ss ≡ count

module _ (p : Profile) (gs : Settings) (t : ℕ) (u : Due p gs t) (o : HeldProfile p) where
  abbrev K : Handling (Unit {0}) ℕ Attached Notice (Event × List ℕ) Subscriber MmRecord
  K = subscribing p

  abbrev m : ℕ
  m = u.accepted + 1

  abbrev SlotOk : Subscriber → Type 0
  SlotOk s = slot_ok p.zone u.clock u.accepted s ≡ true

  -- d stands where s stood
  record Stays (s d : Subscriber) : Type 0 where
    slot : slot_ok p.zone t m d ≡ true
    held : HeldSubscriber d
    names : Keeps subscribers s d

  as_it_was : (s : Subscriber) → SlotOk s → HeldSubscriber s → Stays s s
  as_it_was s k h = record { slot = later_ok p.zone u.clock u.accepted s t m u.since (omega arith) k; held = h; names = same refl refl }

  gone : (s : Subscriber) → Stays s no_subscriber
  gone s = record { slot = blank_ok p.zone t m; held = blank_held; names = freed refl }

  module _ (s : Subscriber) (k : SlotOk s) (h : HeldSubscriber s) (a : taken s ≡ true) (x : Notice) (f : notice_ok x ≡ true) (g : notice_held x ≡ true) where
    next_stays : (q : Option Subscriber) → (hear p s t x).next ≡ q → Stays s (stood q)
    next_stays None e = gone s
    next_stays (Some d) e =
        let w = hear_named p s t x e in
        record {
          slot = rw e at (hear_ok p u.profile u.clock u.accepted t u.since u.until u.few s h.changes x f a k);
          held = rw e at (hear_held p s h t x g);
          names = same (w.1 a ∙ sym a) (ap (λ (l : List ℕ). spelt 0 l) w.0);
        }

    hearing : Stays s (stood (hear p s t x).next) × All MmFine (hear p s t x).out
    hearing = (
      next_stays (hear p s t x).next refl,
      hear_rules p u.profile u.clock u.accepted t u.since u.until u.few s h x f a k o.sgsn o.nodeid g,
    )

  module _ (name : ℕ) (x : Notice) (f : notice_ok x ≡ true) (g : notice_held x ≡ true) where
    slot_hears : (s : Subscriber) → SlotOk s × HeldSubscriber s
        → Stays s (stood (slot K tt t (tells name x) (seen taken s)).next) × All MmFine (slot K tt t (tells name x) (seen taken s)).out
    slot_hears s (k, h) =
        by (taken s)
        (λ a. by (eqb (name_of s) name) (λ e. rw (a, e) (hearing s k h a x f g)) (λ e. rw (a, e) (as_it_was s k h, tt)))
        (λ a. rw a (gone s, tt))

  -- the whole table
  module _ (ss : List Subscriber) (k : slots_ok p.zone u.clock u.accepted ss ≡ true) (d : distinct subscribers ss ≡ true)
      (h : All HeldSubscriber ss) where
    each_ok_lem : All (λ s. SlotOk s × HeldSubscriber s) ss
    each_ok_lem = all_both SlotOk HeldSubscriber ss (asks_all (slots_ask p.zone u.clock u.accepted) ss k) h

    later : slots_ok p.zone t m ss ≡ true
    later =
        all_ask (slots_ask p.zone t m) ss
        (all_map SlotOk (λ s. slot_ok p.zone t m s ≡ true) (λ s e. later_ok p.zone u.clock u.accepted s t m u.since (omega arith) e) ss
        (asks_all (slots_ask p.zone u.clock u.accepted) ss k))

    pub subscribers_kept : (v : ToSubscribers) → NoticesInRange v → is_active K v (map (seen taken) ss) ≡ false
        → Enrolled p.zone t m (length ss) (map stood (slots_after K tt t v (map (seen taken) ss)))
    unfolding is_active
    subscribers_kept (activates name a) f new =
        let x = attached p t (a tt).imsi (a tt).place in
        let g = fill_is taken no_subscriber x ss (all_vacant p.zone u.clock u.accepted ss h k) in
        let n = none_bears_lem K taken name ss new in
        record {
          slots = all_ask (slots_ask p.zone t m) _
              (filled_all taken no_subscriber (λ s. slot_ok p.zone t m s ≡ true) g
              (attached_ok p t m (a tt).imsi (a tt).place f.imsi (omega arith)) (asks_all (slots_ask p.zone t m) ss later));
          names = filled_distinct subscribers exactly no_subscriber g (rw f.name n) d;
          held = filled_all taken no_subscriber HeldSubscriber g
              (attached_held p t (a tt).imsi (a tt).place (imsi_rules (a tt).imsi (true_T (imsi_ok (a tt).imsi) f.imsi)).eight f.place) h;
          size = filled_length taken no_subscriber g;
        }
    subscribers_kept (tells name x) f new =
        let w = hear_pairs K taken no_subscriber tt t Stays (λ s. SlotOk s × HeldSubscriber s) (tells name x)
        (λ s q. (slot_hears name x f.0 f.1 s q).0) ss each_ok_lem in
        record {
          slots = all_ask (slots_ask p.zone t m) _ (pairs_all (λ s. slot_ok p.zone t m s ≡ true) (λ s e r. r.slot) w);
          names = pairs_distinct subscribers (λ s e r. r.names) w d;
          held = pairs_all HeldSubscriber (λ s e r. r.held) w;
          size = pairs_length w;
        }
    subscribers_kept (tells_all x) f new = absurd f
    subscribers_kept nothing f new =
        rw (stand_all taken no_subscriber ss (all_vacant p.zone u.clock u.accepted ss h k))
        (record { slots = later; names = d; held = h; size = refl })

    pub mm_fine : (v : ToSubscribers) → NoticesInRange v → All MmFine (writes K tt t v (map (seen taken) ss))
    mm_fine (activates name a) f = tt
    mm_fine (tells name x) f =
        hear_all K taken no_subscriber tt t MmFine (λ s. SlotOk s × HeldSubscriber s) (tells name x) (λ s q. (slot_hears name x f.0 f.1 s q).1) ss each_ok_lem
    mm_fine (tells_all x) f = absurd f
    mm_fine nothing f = tt
