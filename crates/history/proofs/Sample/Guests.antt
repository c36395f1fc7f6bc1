-- The sample's guests: hearing does what the history says.
use Prim.Native.Nat.{ℕ, suc}
use mathlib.Core.Path.{◌≡◌, refl, sym, ap, ◌∙◌}
use mathlib.Core.Logic.{◌↔◌}
use mathlib.Core.Bool.{Bool, true, false, cond}
use mathlib.Core.List.{List, [], ◌∷◌, ◌++◌, append-nil}
use Rattle.std.specs.Prelude.{None, Some}
use native.Mathlib.Omega.{arith}
use lib.Dec.{leb, eqb, eqb→eq}
use lib.ListN.{length, length-append}
use Rattle.history.specs.Lists.{each, test}
use Rattle.history.specs.History.{History}
use Rattle.history.specs.Records.{in_force, since_opening, closes, stretches, closings, leaves}
use Rattle.history.specs.Log.{activates, heard}
use Rattle.history.specs.Sample.Events.{Badge, Turn, Event}
use Rattle.history.specs.Sample.Guests.{same, Stay, Heard, after, rules, says, settles, meaning, Visit, Guest, stop, forms}
use Rattle.history.specs.Sample.Guests.{keep, moved, full, hear, takes, handling}
use Rattle.history.proofs.Lists.{both, each_append, none≢some, kept}
use Rattle.history.proofs.Records.{in_force_open, in_force_running, changed}
use Rattle.history.proofs.Tables.{Bears, bears_cond, told, told_closing, told_change, told_plain, Sound}
use Rattle.history.proofs.Sample.Lines.{sole, eqb_exactly}

one_more : {A : Type 0} (l : List A) (a : A) → length (l ++ (a ∷ [])) ≡ suc (length l)
one_more l a = omega (arith, length-append l (a ∷ []))

-- ---- event by event, a guest hears as its history says

module _ (n : Badge) (h : History Stay Heard) (t : ℕ) where
  abbrev past : History Stay Heard
  past = since_opening rules h

  abbrev guest : Guest
  guest = forms.as_stored n (leaves rules h)

  abbrev g : ℕ
  g = (in_force rules h).offset

  module _ (p : ℕ) where
    abbrev e : Heard
    e = Heard.turn (Turn.move p)

    -- the moves since the opening are those that the guest has counted
    closes_move : closes rules h t e ≡ cond (eqb (in_force rules h).place p) None (test (leb 3 (suc (length (stretches rules past)))) 19)
    closes_move = rw (in_force_open rules h, changed rules h)

    hear_same : eqb (in_force rules h).place p ≡ true → hear g guest t e ≡ told rules forms n h t e
    hear_same q =
        rw (told_plain rules forms n h t e (closes_move ∙ rw q) (rw q), in_force_running rules h, q, eqb→eq (in_force rules h).place p (rw q tt))

    hear_move : (b : Bool) → eqb (in_force rules h).place p ≡ false → leb 3 (suc (length (stretches rules past))) ≡ b
        → hear g guest t e ≡ told rules forms n h t e
    hear_move true q l = rw (told_closing rules forms n h t e 19 (closes_move ∙ rw (q, l)), in_force_running rules h, q, l, each_append, in_force_running rules h)
    hear_move false q l =
        rw (told_change rules forms n h t e 0 (closes_move ∙ rw (q, l)) (rw q), in_force_running rules h, q, l, one_more, each_append, in_force_running rules h)

    hear_place : (b : Bool) → eqb (in_force rules h).place p ≡ b → hear g guest t e ≡ told rules forms n h t e
    hear_place true q = hear_same q
    hear_place false q = hear_move _ q refl

  hear_leave : (k : ℕ) → hear g guest t (Heard.turn (Turn.leave k)) ≡ told rules forms n h t (Heard.turn (Turn.leave k))
  hear_leave k =
      rw (
        told_closing rules forms n h t (Heard.turn (Turn.leave k)) k refl,
        each_append,
        append-nil (each stop (stretches rules past)),
        sole
            (closings rules h),
      )

  hear_offset : (o : ℕ) → hear g guest t (Heard.offset o) ≡ told rules forms n h t (Heard.offset o)
  hear_offset o = rw (told_plain rules forms n h t (Heard.offset o) refl refl)

  hears_told : (e : Heard) → hear g guest t e ≡ told rules forms n h t e
  hears_told (Heard.turn (Turn.move p)) = hear_place p _ refl
  hears_told (Heard.turn (Turn.leave k)) = hear_leave k
  hears_told (Heard.offset o) = hear_offset o

-- ---- the kind is sound

abbrev name_of : Visit → Badge
name_of r = r.name

bears : (g : ℕ) (c : Guest) (t : ℕ) (e : Heard) → Bears handling name_of c.name (hear g c t e)
bears g c t (Heard.turn (Turn.move p)) =
    bears_cond handling name_of c.name (eqb c.place p) (keep c) (cond (leb 3 (suc c.count)) (full g c t p) (moved g c t p))
    (record { next = refl; out = tt })
    (bears_cond handling name_of c.name (leb 3 (suc c.count)) (full g c t p) (moved g c t p)
    (record { next = refl; out = (refl, tt) }) (record { next = refl; out = tt }))
bears g c t (Heard.turn (Turn.leave k)) = record { next = tt; out = (refl, tt) }
bears g c t (Heard.offset o) = record { next = refl; out = tt }

same_exactly : (m n : Badge) → (same m n ≡ true) ↔ (m ≡ n)
same_exactly m n = (
  (λ e.
      let w = both (eqb m.country n.country) (eqb m.number n.number) e in
      let x = (eqb_exactly m.country n.country).0 w.0 in
      let y = (eqb_exactly m.number n.number).0 w.1 in
      λ i. record { country = x i; number = y i }),
  (λ e. rw (e, (eqb_exactly n.country n.country).1 refl, (eqb_exactly n.number n.number).1 refl)),
)

says_meant : (v : Event) → takes v ≡ says v
says_meant (Event.activate n q) = refl
says_meant (Event.arrive b p) = refl
says_meant (Event.order n x) = refl
says_meant (Event.turn b x) = refl
says_meant Event.tariff = refl
says_meant (Event.limit l) = refl
says_meant (Event.offset o) = refl

settings_activated : (g : ℕ) (v : Event) (m : Badge) (s : ℕ → Stay) → says v ≡ activates m s → (s g).offset ≡ settles g v
settings_activated g (Event.activate n q) m s p = absurd (let z : ◌≡◌ {A = ℕ} 0 1 = cc in omega arith)
settings_activated g (Event.arrive b q) m s p =
    let e : (λ (g : ℕ). record { place = q; offset = g }) ≡ s = cc in
    ap (λ (f : ℕ → Stay). (f g).offset) (sym e)
settings_activated g (Event.order n x) m s p = absurd (let z : ◌≡◌ {A = ℕ} 0 1 = cc in omega arith)
settings_activated g (Event.turn b x) m s p = absurd (let z : ◌≡◌ {A = ℕ} 0 1 = cc in omega arith)
settings_activated g Event.tariff m s p = absurd (let z : ◌≡◌ {A = ℕ} 0 1 = cc in omega arith)
settings_activated g (Event.limit l) m s p = absurd (let z : ◌≡◌ {A = ℕ} 0 1 = cc in omega arith)
settings_activated g (Event.offset o) m s p = absurd (let z : ◌≡◌ {A = ℕ} 0 1 = cc in omega arith)

-- what names one guest does not change the offset
module _ (s : Stay) where
  turned : (x : Turn) → (after s (Heard.turn x)).offset ≡ s.offset
  turned (Turn.move p) = refl
  turned (Turn.leave k) = refl

  settings_heard : (n : Badge) (v : Event) (e : Heard) → heard rules meaning n (says v) ≡ Some e → (after s e).offset ≡ settles s.offset v
  settings_heard n (Event.activate m q) e p = absurd (none≢some p)
  settings_heard n (Event.arrive b q) e p = absurd (none≢some p)
  settings_heard n (Event.order m x) e p = absurd (none≢some p)
  settings_heard n (Event.turn b x) e p = kept (λ e. (after s e).offset ≡ s.offset) (same n b) (Heard.turn x) e p (turned x)
  settings_heard n Event.tariff e p = absurd (none≢some p)
  settings_heard n (Event.limit l) e p = absurd (none≢some p)
  settings_heard n (Event.offset o) e p = let i : Heard.offset o ≡ e = cc in rw (← i)

settings_unheard : (n : Badge) (g : ℕ) (v : Event) → heard rules meaning n (says v) ≡ None → settles g v ≡ g
settings_unheard n g (Event.activate m q) p = refl
settings_unheard n g (Event.arrive b q) p = refl
settings_unheard n g (Event.order m x) p = refl
settings_unheard n g (Event.turn b x) p = refl
settings_unheard n g Event.tariff p = refl
settings_unheard n g (Event.limit l) p = refl
settings_unheard n g (Event.offset o) p = absurd (none≢some (sym p))

pub sound : Sound rules meaning forms handling name_of (λ s. s.offset)
sound = record {
  same_exactly = same_exactly;
  same_meant = λ m n. refl;
  says_meant = says_meant;
  settles_meant = λ g v. refl;
  stored_name = λ n o. refl;
  bears = bears;
  opens = λ n t s. refl;
  hears_told = λ n h t e. hears_told n h t e;
  settings_activated = settings_activated;
  settings_heard = λ n s v e p. settings_heard s n v e p;
  settings_unheard = settings_unheard;
}
