-- A stored context hears an event as its history says: of every history, and every event.
use mathlib.Core.Path.{◌≡◌, refl, sym, ap, ◌∙◌}
use mathlib.Core.Bool.{Bool, true, false, cond, ◌&&◌}
use Rattle.std.specs.Prelude.{Option, None, Some}
use mathlib.Core.List.{List, [], ◌∷◌, ◌++◌, map}
use Prim.Native.Nat.{ℕ, zero, suc, ◌+◌}
use native.Mathlib.Numerals.{add-one}
use native.Mathlib.Omega.{arith}
use lib.Dec.{eqb}
use lib.ListN.{length, take}
use borrow.Author.Tests.{ne_eqb}
use Rattle.container.specs.declared.Qos.{Qos}
use Rattle.container.specs.declared.Container.{Container}
use Rattle.container.specs.Qos.{same_qos}
use Rattle.container.specs.List.{padded}
use Rattle.container.specs.Open.{volume_of}
use Rattle.container.proofs.Formats.{same_qos_lem}
use Rattle.scdr.specs.declared.Record as scdr
use Rattle.ber.specs.Field.{or_zero}
use Rattle.octets.specs.Filled.{fill_to}
use Rattle.container.proofs.Padded.{take_padded}
use Rattle.limits.specs.declared.Limits.{Limits}
use Rattle.limits.specs.Sets.{limits_of}
use Rattle.profile.specs.declared.Profile.{Profile}
use Rattle.event.specs.declared.Name.{Name}
use Rattle.context.specs.declared.Context.{Context}
use Rattle.history.specs.Lists.{sum_of, is_some, or_else}
use Rattle.history.specs.History.{History, ◌▸◌∶◌, began, total}
use Rattle.history.specs.Records.{Rules, Stretch, whole, number, in_force, cause_for, since_opening, closes, running, stretches, closings, leaves}
use Rattle.history.proofs.Lists.{map_append, none≢some}
use Rattle.history.proofs.Records.{in_force_open, in_force_running, every_open}
use Rattle.history.proofs.Tables.{told, told_closing, told_change, told_plain}
use Rattle.node.specs.declared.Message as node
use Rattle.node.specs.Meaning.{quiet, report, new_qos, tariff_change, tick, close_with, release_with}
use Rattle.node.specs.Hear.{reported, qos_after, change_of, limit_met, closing, going, number_for, record_of, goes_on, closed_by, after_closing, hear_with, hear}
use Rattle.once.specs.Charging.{Force, Heard, up, down, after, change, releases, volume, changes_of, limits_for, rules, time_in, container, first, bit0, bit1, forms}

-- ---- what the node calls what is heard

abbrev pub nodes : Heard → node.Message
nodes (Heard.traffic u d) = report u d
nodes (Heard.qos q) = new_qos q
nodes Heard.tariff = tariff_change
nodes (Heard.release cause) = release_with cause
nodes Heard.tick = tick
nodes Heard.management = close_with 20
nodes (Heard.replaces i x) = quiet

-- one that may close a record, as a replacement never does
abbrev Closing : Heard → Type 0
Closing (Heard.traffic u d) = Unit {0}
Closing (Heard.qos q) = Unit {0}
Closing Heard.tariff = Unit {0}
Closing (Heard.release cause) = Unit {0}
Closing Heard.tick = Unit {0}
Closing Heard.management = Unit {0}
Closing (Heard.replaces i x) = ⊥

-- ---- the volumes of containers, and the number of a record

or_none_lem : (o : Option ℕ) → or_else o None ≡ o
or_none_lem None = refl
or_none_lem (Some k) = refl

volumes : (p : Profile) (xs : List (Stretch Force Heard))
    → volume_of (map (container p) xs) ≡ sum_of (λ x. total up (whole x)) xs + sum_of (λ x. total down (whole x)) xs
unfolding volume_of
volumes p [] = refl
volumes p (x ∷ xs) = omega (arith, volumes p xs)

pub numbers : (k : ℕ) (released : Bool) → cond (released && eqb k 0) 0 (k + 1) ≡ or_zero (number k released)
numbers k false = add-one k
numbers zero true = refl
numbers (suc k) true = rw (ne_eqb (suc k) 0 (λ e. omega arith), add-one)

firsts : (k : ℕ) (released : Bool) → eqb k 0 ≡ first (number k released)
firsts zero false = refl
firsts zero true = refl
firsts (suc k) false = rw (ne_eqb (suc k) 0 (λ e. omega arith), ne_eqb (suc (suc k)) 1 (λ e. omega arith))
firsts (suc k) true = rw (ne_eqb (suc k) 0 (λ e. omega arith), ne_eqb (suc (suc k)) 1 (λ e. omega arith))

-- ---- a context by its parts: what is in force, the limits of its record, its counters, when its record opened, its changes, its containers, what closed
-- before

module _ (p : Profile) (n : Name) (t : ℕ) where
  abbrev context : Force → Limits → ℕ → ℕ → ℕ → ℕ → List Container → ℕ → Context
  context s l u d o k cs j = record {
    active = 1;
    flags = s.brought.flags;
    set = s.brought.set;
    name = n;
    imsi = s.brought.imsi;
    apn = fill_to 63 0 s.brought.apn;
    apnlen = length s.brought.apn;
    pdptype = s.brought.pdptype;
    address = s.brought.address;
    current = record { opening = time_in p o; qos = s.qos; limits = l; uplink = u; downlink = d; changes = k; containers = padded cs; count = length cs };
    closed = j;
  }

  abbrev bill : Force → ℕ → List Container → Option ℕ → ℕ → scdr.Record
  bill s o cs number cause = record {
    network = bit0 s.brought.flags;
    imsi = s.brought.imsi;
    sgsn = p.sgsn;
    charging = n.id;
    ggsn = n.ggsn;
    apn = fill_to 63 0 s.brought.apn;
    apnlen = length s.brought.apn;
    pdptype = s.brought.pdptype;
    address = s.brought.address;
    containers = padded cs;
    count = length cs;
    opening = time_in p o;
    change = bit1 s.brought.flags && first number;
    cause = cause;
    number = or_zero number;
    nodeid = p.nodeid;
    nodelen = p.nodelen;
  }

  -- the limits of a record that opens
  abbrev next_limits : Force → Limits
  next_limits s = limits_of s.brought.set s.settings.sets

  module _ (s : Force) (l : Limits) (u d o k : ℕ) (cs : List Container) (j : ℕ) where
    abbrev c : Context
    c = context s l u d o k cs j

    abbrev ends : Heard → ℕ → List Container
    ends e condition = cs ++ (record { qos = s.qos; uplink = u + up e; downlink = d + down e; condition = condition; time = time_in p t } ∷ [])

    after_closing_lem : (e : Heard) → Closing e
        → after_closing p s.settings c t (nodes e) ≡ cond (is_some (releases e)) None (Some (context (after s e) (next_limits (after s e)) 0 0 t 0 [] (suc j)))
    unfolding after_closing qos_after
    after_closing_lem (Heard.traffic x y) z = rw (add-one j)
    after_closing_lem (Heard.qos q) z = rw (add-one j)
    after_closing_lem Heard.tariff z = rw (add-one j)
    after_closing_lem (Heard.release cause) z = refl
    after_closing_lem Heard.tick z = rw (add-one j)
    after_closing_lem Heard.management z = rw (add-one j)
    after_closing_lem (Heard.replaces i x) z = absurd z

    closed_by_lem : (e : Heard) (cause : ℕ) → closed_by p c t (nodes e) cause ≡ bill s o (ends e 2) (number j (is_some (releases e))) cause
    unfolding closed_by record_of reported number_for
    closed_by_lem (Heard.traffic x y) cause = rw (take_padded cs, numbers j false, firsts j false)
    closed_by_lem (Heard.qos q) cause = rw (take_padded cs, numbers j false, firsts j false)
    closed_by_lem Heard.tariff cause = rw (take_padded cs, numbers j false, firsts j false)
    closed_by_lem (Heard.release x) cause = rw (take_padded cs, numbers j true, firsts j true)
    closed_by_lem Heard.tick cause = rw (take_padded cs, numbers j false, firsts j false)
    closed_by_lem Heard.management cause = rw (take_padded cs, numbers j false, firsts j false)
    closed_by_lem (Heard.replaces i x) cause = rw (take_padded cs, numbers j false, firsts j false)

    change_is : (e : Heard) → change_of c.current (nodes e) ≡ change s e
    unfolding change_of
    change_is (Heard.traffic x y) = refl
    change_is (Heard.qos q) = refl
    change_is Heard.tariff = refl
    change_is (Heard.release x) = refl
    change_is Heard.tick = refl
    change_is Heard.management = refl
    change_is (Heard.replaces i x) = refl

    -- an event that is no change leaves what is in force
    kept : (q : Qos) (b : Bool) → same_qos s.qos q ≡ b → cond {A = Option ℕ} b None (Some 0) ≡ None → s.qos ≡ q
    kept q true e i = same_qos_lem s.qos q e
    kept q false e i = absurd (none≢some (sym i))

    goes_on_lem : (e : Heard) → change s e ≡ None
        → going c (goes_on p c.current t (nodes e) None) j ≡ context (after s e) l (u + up e) (d + down e) o k cs j
    unfolding goes_on reported
    goes_on_lem (Heard.traffic x y) i = refl
    goes_on_lem (Heard.qos q) i = rw (← kept q (same_qos s.qos q) refl i)
    goes_on_lem Heard.tariff i = absurd (none≢some (sym i))
    goes_on_lem (Heard.release x) i = refl
    goes_on_lem Heard.tick i = refl
    goes_on_lem Heard.management i = refl
    goes_on_lem (Heard.replaces x y) i = refl

    goes_changed : (e : Heard) (condition : ℕ) → change s e ≡ Some condition
        → going c (goes_on p c.current t (nodes e) (Some condition)) j ≡ context (after s e) l 0 0 o (suc k) (ends e condition) j
    unfolding goes_on reported qos_after
    goes_changed (Heard.traffic x y) condition i = absurd (none≢some i)
    goes_changed (Heard.qos q) condition i = rw (take_padded cs, add-one k)
    goes_changed Heard.tariff condition i = rw (take_padded cs, add-one k)
    goes_changed (Heard.release x) condition i = absurd (none≢some i)
    goes_changed Heard.tick condition i = absurd (none≢some i)
    goes_changed Heard.management condition i = absurd (none≢some i)
    goes_changed (Heard.replaces x y) condition i = absurd (none≢some i)

    -- a replacement closes nothing
    is_closing : (e : Heard) {cause : ℕ} → closing c.current t (nodes e) ≡ Some cause → Closing e
    unfolding closing limit_met change_of
    is_closing (Heard.traffic x y) i = tt
    is_closing (Heard.qos q) i = tt
    is_closing Heard.tariff i = tt
    is_closing (Heard.release x) i = tt
    is_closing Heard.tick i = tt
    is_closing Heard.management i = tt
    is_closing (Heard.replaces x y) i = none≢some i

    -- hearing, by what closes and what changes
    hear_closing : (e : Heard) (cause : ℕ) → closing c.current t (nodes e) ≡ Some cause → hear p s.settings c t (nodes e) ≡ record {
      next = cond (is_some (releases e)) None (Some (context (after s e) (next_limits (after s e)) 0 0 t 0 [] (suc j)));
      out = bill s o (ends e 2) (number j (is_some (releases e))) cause ∷ [];
    }
    unfolding hear hear_with
    hear_closing e cause i = rw (i, after_closing_lem e (is_closing e i), closed_by_lem e cause)

    hear_change : (e : Heard) (condition : ℕ) → closing c.current t (nodes e) ≡ None → change s e ≡ Some condition
        → hear p s.settings c t (nodes e) ≡ record { next = Some (context (after s e) l 0 0 o (suc k) (ends e condition) j); out = [] }
    unfolding hear hear_with
    hear_change e condition i q = rw (i, change_is e, q, goes_changed e condition q)

    hear_plain : (e : Heard) → closing c.current t (nodes e) ≡ None → change s e ≡ None
        → hear p s.settings c t (nodes e) ≡ record { next = Some (context (after s e) l (u + up e) (d + down e) o k cs j); out = [] }
    unfolding hear hear_with
    hear_plain e i q = rw (i, change_is e, q, goes_on_lem e q)

-- ---- the context that is stored for a history

module _ (p : Profile) (n : Name) (h : History Force Heard) (t : ℕ) where
  abbrev R : Rules Force Heard
  R = rules

  abbrev past : History Force Heard
  past = since_opening R h

  abbrev held : List Container
  held = map (container p) (stretches R past)

  abbrev stands : Force → Context
  stands s = context p n t s (limits_for past) (total up (running R h)) (total down (running R h)) (began past) (changes_of past) held (closings R h)

  -- by what is in force
  is_stored : (forms p).as_stored n (leaves R h) ≡ stands (in_force R h)
  is_stored = ap stands (in_force_running R h)

  counted : (u d : ℕ) → volume_of (take (length held) (padded held)) + (total up (running R h) + u) + (total down (running R h) + d) ≡ volume
      (past ▸ t ∶ Heard.traffic u d)
  counted u d = rw (take_padded held) (omega (arith, volumes p (stretches R past), every_open R up h, every_open R down h))

  -- the closing conditions
  closes_qos : (q : Qos) (b : Bool) → same_qos (in_force R h).qos q ≡ b → closing (stands (in_force R h)).current t (new_qos q)
      ≡ cause_for R past t (Heard.qos q)
  unfolding closing limit_met reported change_of
  closes_qos q true e = rw (in_force_open R h, e)
  closes_qos q false e = rw (in_force_open R h, e, add-one)

  closes_alike : (e : Heard) → closing (stands (in_force R h)).current t (nodes e) ≡ cause_for R past t e
  unfolding closing limit_met reported change_of
  closes_alike (Heard.traffic u d) = rw (counted u d) (or_none_lem _)
  closes_alike (Heard.qos q) = closes_qos q _ refl
  closes_alike Heard.tariff = rw add-one
  closes_alike (Heard.release x) = refl
  closes_alike Heard.tick = or_none_lem _
  closes_alike Heard.management = refl
  closes_alike (Heard.replaces i x) = refl

  -- what the history says, with one name for what is in force
  module _ (e : Heard) where
    abbrev now : Force
    now = in_force R h

    -- a release closes
    not_released : (o q : Option ℕ) → or_else o q ≡ None → is_some o ≡ false
    not_released None q i = refl
    not_released (Some x) q i = absurd (none≢some (sym i))

    told_closed : (cause : ℕ) → closes R h t e ≡ Some cause → told R (forms p) n h t e ≡ record {
      next = cond (is_some (releases e)) None (Some (context p n t (after now e) (next_limits p n t (after now e)) 0 0 t 0 [] (suc (closings R h))));
      out =
          bill p n t now (began past) (ends p n t now (limits_for past) (total up (running R h)) (total down (running R h)) (began past) (changes_of past) held (closings R h) e 2)
          (number (closings R h) (is_some (releases e))) cause ∷ [];
    }
    told_closed cause i = told_closing R (forms p) n h t e cause i ∙ rw (map_append, in_force_open R h, in_force_running R h)

    told_changed : (condition : ℕ) → closes R h t e ≡ None → change now e ≡ Some condition → told R (forms p) n h t e ≡ record {
      next = Some (context p n t (after now e) (limits_for past) 0 0 (began past) (suc (changes_of past))
          (ends p n t now (limits_for past) (total up (running R h)) (total down (running R h)) (began past) (changes_of past) held (closings R h) e condition) (closings R h));
      out = [];
    }
    told_changed condition i q =
        told_change R (forms p) n h t e condition i q
        ∙ rw (not_released (releases e) (R.closing past t e) i, map_append, in_force_open R h, in_force_running R h, q)

    told_plainly : closes R h t e ≡ None → change now e ≡ None → told R (forms p) n h t e ≡ record {
      next = Some (context p n t (after now e) (limits_for past) (total up (running R h) + up e) (total down (running R h) + down e) (began past)
          (changes_of past) held (closings R h));
      out = [];
    }
    told_plainly i q = told_plain R (forms p) n h t e i q ∙ rw (not_released (releases e) (R.closing past t e) i, in_force_open R h, in_force_running R h, q)

    hears_by : (o k : Option ℕ) → cause_for R past t e ≡ o → change now e ≡ k → hear p now.settings (stands now) t (nodes e) ≡ told R (forms p) n h t e
    hears_by (Some cause) k i q = hear_closing p n t now _ _ _ _ _ held (closings R h) e cause (closes_alike e ∙ i) ∙ sym (told_closed cause i)
    hears_by None (Some condition) i q = hear_change p n t now _ _ _ _ _ held (closings R h) e condition (closes_alike e ∙ i) q ∙ sym (told_changed condition i q)
    hears_by None None i q = hear_plain p n t now _ _ _ _ _ held (closings R h) e (closes_alike e ∙ i) q ∙ sym (told_plainly i q)

    pub hears_told : hear p now.settings ((forms p).as_stored n (leaves R h)) t (nodes e) ≡ told R (forms p) n h t e
    hears_told = ap (λ (c : Context). hear p now.settings c t (nodes e)) is_stored ∙ hears_by _ _ refl refl
