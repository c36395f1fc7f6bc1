-- The sample's lines: hearing does what the history says.
use Prim.Native.Nat.{ℕ, zero, suc, ◌+◌}
use mathlib.Core.Path.{◌≡◌, refl, sym, ap}
use mathlib.Core.Logic.{◌↔◌}
use mathlib.Core.Bool.{Bool, true, false}
use mathlib.Core.List.{List, [], ◌∷◌, map}
use Rattle.std.specs.Prelude.{None, Some}
use native.Mathlib.Nat.{add-zero}
use native.Mathlib.Omega.{arith}
use lib.Dec.{leb, eqb, T, eqb→eq, eqb_refl}
use Rattle.history.specs.Lists.{sum_of, test}
use Rattle.history.specs.History.{History, began_with, total}
use Rattle.history.specs.Records.{Stretch, whole, number, in_force, since_opening, running, stretches, closings, leaves}
use Rattle.history.specs.Log.{activates, tells_all, heard}
use Rattle.history.specs.Sample.Events.{Order, Event, Settings, settles, sole_or}
use Rattle.history.specs.Sample.Lines.{Force, Heard, after, octets, rules, says, meaning, Bill, Line, part, forms}
use Rattle.history.specs.Sample.Lines.{keep, counted, turned, full, hear, takes, handling}
use Rattle.history.proofs.Lists.{map_append, none≢some, kept}
use Rattle.history.proofs.Records.{in_force_running, every_open}
use Rattle.history.proofs.Tables.{Bears, bears_cond, told, told_closing, told_change, told_plain, Sound}

T_true : (b : Bool) → T b → b ≡ true
T_true true p = refl
T_true false p = absurd p

pub sole : (k : ℕ) → sole_or k ≡ number k true
sole zero = refl
sole (suc k) = refl

pub eqb_exactly : (m n : ℕ) → (eqb m n ≡ true) ↔ (m ≡ n)
eqb_exactly m n = ((λ p. eqb→eq m n (rw p tt)), (λ p. rw p (T_true (eqb n n) (eqb_refl n))))

parts_sum : (xs : List (Stretch Force Heard)) → sum_of (λ p. p.octets) (map part xs) ≡ sum_of (λ x. total octets (whole x)) xs
parts_sum [] = refl
parts_sum (x ∷ xs) = rw (parts_sum xs)

-- ---- event by event, a line hears as its history says

module _ (n : ℕ) (h : History Force Heard) (t : ℕ) where
  abbrev past : History Force Heard
  past = since_opening rules h

  abbrev line : Line
  line = forms.as_stored n (leaves rules h)

  abbrev g : Settings
  g = (in_force rules h).set

  volume : (k : ℕ)
      → sum_of (λ p. p.octets) (map part (stretches rules past)) + (total octets (running rules h) + k) ≡ total octets past + k
  volume k = omega (arith, parts_sum (stretches rules past), every_open rules octets h)

  hear_report : (k : ℕ) (b : Bool) → leb (began_with past).set.limit (total octets past + k) ≡ b
      → hear g line t (Heard.order (Order.report k)) ≡ told rules forms n h t (Heard.order (Order.report k))
  hear_report k true p =
      rw (told_closing rules forms n h t (Heard.order (Order.report k)) 16 (ap (λ (b : Bool). test b 16) p), volume k, p, map_append, in_force_running rules h)
  hear_report k false p = rw (told_plain rules forms n h t (Heard.order (Order.report k)) (ap (λ (b : Bool). test b 16) p) refl, volume k, p)

  hear_grade : (q : ℕ) (b : Bool) → eqb (in_force rules h).grade q ≡ b
      → hear g line t (Heard.order (Order.grade q)) ≡ told rules forms n h t (Heard.order (Order.grade q))
  hear_grade q true p =
      rw (
        told_plain rules forms n h t (Heard.order (Order.grade q)) refl (rw p),
        in_force_running rules h,
        p,
        add-zero,
        eqb→eq (in_force rules h).grade q (rw p tt),
      )
  hear_grade q false p =
      rw (told_change rules forms n h t (Heard.order (Order.grade q)) 0 refl (rw p), in_force_running rules h, p, map_append, in_force_running rules h)

  hear_tariff : hear g line t Heard.tariff ≡ told rules forms n h t Heard.tariff
  hear_tariff = rw (told_change rules forms n h t Heard.tariff 1 refl refl, map_append, in_force_running rules h)

  hear_limit : (l : ℕ) → hear g line t (Heard.limit l) ≡ told rules forms n h t (Heard.limit l)
  hear_limit l = rw (told_plain rules forms n h t (Heard.limit l) refl refl, add-zero)

  hear_offset : (o : ℕ) → hear g line t (Heard.offset o) ≡ told rules forms n h t (Heard.offset o)
  hear_offset o = rw (told_plain rules forms n h t (Heard.offset o) refl refl, add-zero)

  hear_release : (k : ℕ) → hear g line t (Heard.order (Order.release k)) ≡ told rules forms n h t (Heard.order (Order.release k))
  hear_release k = rw (told_closing rules forms n h t (Heard.order (Order.release k)) k refl, map_append, in_force_running rules h, sole (closings rules h))

  hears_told : (e : Heard) → hear g line t e ≡ told rules forms n h t e
  hears_told (Heard.order (Order.report k)) = hear_report k _ refl
  hears_told (Heard.order (Order.grade q)) = hear_grade q _ refl
  hears_told (Heard.order (Order.release k)) = hear_release k
  hears_told Heard.tariff = hear_tariff
  hears_told (Heard.limit l) = hear_limit l
  hears_told (Heard.offset o) = hear_offset o

-- ---- the kind is sound

abbrev name_of : Bill → ℕ
name_of r = r.name

bears : (g : Settings) (c : Line) (t : ℕ) (e : Heard) → Bears handling name_of c.name (hear g c t e)
bears g c t (Heard.order (Order.report k)) =
    bears_cond handling name_of c.name (leb c.limit (sum_of (λ p. p.octets) c.parts + (c.octets + k))) (full g c t k) (keep (counted c k))
    (record { next = refl; out = (refl, tt) }) (record { next = refl; out = tt })
bears g c t (Heard.order (Order.grade q)) =
    bears_cond handling name_of c.name (eqb c.grade q) (keep c) (keep (turned g c 0 t q))
    (record { next = refl; out = tt }) (record { next = refl; out = tt })
bears g c t (Heard.order (Order.release k)) = record { next = tt; out = (refl, tt) }
bears g c t Heard.tariff = record { next = refl; out = tt }
bears g c t (Heard.limit l) = record { next = refl; out = tt }
bears g c t (Heard.offset o) = record { next = refl; out = tt }

says_meant : (v : Event) → takes v ≡ says v
says_meant (Event.activate n q) = refl
says_meant (Event.arrive b p) = refl
says_meant (Event.order n x) = refl
says_meant (Event.turn b x) = refl
says_meant Event.tariff = refl
says_meant (Event.limit l) = refl
says_meant (Event.offset o) = refl

-- An activation changes no setting, and takes those that are set.
settings_activated : (g : Settings) (v : Event) (m : ℕ) (s : Settings → Force) → says v ≡ activates m s → (s g).set ≡ settles g v
settings_activated g (Event.activate n q) m s p =
    let e : (λ (g : Settings). record { grade = q; set = g }) ≡ s = cc in
    ap (λ (f : Settings → Force). (f g).set) (sym e)
settings_activated g (Event.arrive b p) m s e = absurd (let z : ◌≡◌ {A = ℕ} 0 1 = cc in omega arith)
settings_activated g (Event.order n x) m s p = absurd (let z : ◌≡◌ {A = ℕ} 0 1 = cc in omega arith)
settings_activated g (Event.turn b x) m s p = absurd (let z : ◌≡◌ {A = ℕ} 0 1 = cc in omega arith)
settings_activated g Event.tariff m s p = absurd (let z : ◌≡◌ {A = ℕ} 0 1 = cc in omega arith)
settings_activated g (Event.limit l) m s p = absurd (let z : ◌≡◌ {A = ℕ} 0 1 = cc in omega arith)
settings_activated g (Event.offset o) m s p = absurd (let z : ◌≡◌ {A = ℕ} 0 1 = cc in omega arith)

-- what names one line changes no setting
module _ (s : Force) where
  ordered : (x : Order) → (after s (Heard.order x)).set ≡ s.set
  ordered (Order.report k) = refl
  ordered (Order.grade q) = refl
  ordered (Order.release k) = refl

  settings_heard : (n : ℕ) (v : Event) (e : Heard) → heard rules meaning n (says v) ≡ Some e → (after s e).set ≡ settles s.set v
  settings_heard n (Event.activate m q) e p = absurd (none≢some p)
  settings_heard n (Event.arrive b q) e p = absurd (none≢some p)
  settings_heard n (Event.order m x) e p = kept (λ e. (after s e).set ≡ s.set) (eqb n m) (Heard.order x) e p (ordered x)
  settings_heard n (Event.turn b x) e p = absurd (none≢some p)
  settings_heard n Event.tariff e p = let i : Heard.tariff ≡ e = cc in rw (← i)
  settings_heard n (Event.limit l) e p = let i : Heard.limit l ≡ e = cc in rw (← i)
  settings_heard n (Event.offset o) e p = let i : Heard.offset o ≡ e = cc in rw (← i)

settings_unheard : (n : ℕ) (g : Settings) (v : Event) → heard rules meaning n (says v) ≡ None → settles g v ≡ g
settings_unheard n g (Event.activate m q) p = refl
settings_unheard n g (Event.arrive b q) p = refl
settings_unheard n g (Event.order m x) p = refl
settings_unheard n g (Event.turn b x) p = refl
settings_unheard n g Event.tariff p = refl
settings_unheard n g (Event.limit l) p = absurd (none≢some (sym p))
settings_unheard n g (Event.offset o) p = absurd (none≢some (sym p))

pub sound : Sound rules meaning forms handling name_of (λ s. s.set)
sound = record {
  same_exactly = eqb_exactly;
  same_meant = λ m n. refl;
  says_meant = says_meant;
  settles_meant = λ g v. refl;
  stored_name = λ n o. refl;
  bears = bears;
  opens = λ n t s. refl;
  hears_told = λ n h t e. hears_told n h t e;
  settings_activated = settings_activated;
  settings_heard = λ n s v e p. settings_heard s n v e p;
  settings_unheard = settings_unheard;
}

-- no octets are reported to all
pub uncounted : (v : Event) (e : Heard) → says v ≡ tells_all e → octets e ≡ 0
uncounted (Event.activate n q) e p = absurd (let z : ◌≡◌ {A = ℕ} 0 1 = cc in omega arith)
uncounted (Event.arrive b q) e p = absurd (let z : ◌≡◌ {A = ℕ} 0 1 = cc in omega arith)
uncounted (Event.order n x) e p = absurd (let z : ◌≡◌ {A = ℕ} 0 1 = cc in omega arith)
uncounted (Event.turn b x) e p = absurd (let z : ◌≡◌ {A = ℕ} 0 1 = cc in omega arith)
uncounted Event.tariff e p = let i : Heard.tariff ≡ e = cc in rw (← i)
uncounted (Event.limit l) e p = let i : Heard.limit l ≡ e = cc in rw (← i)
uncounted (Event.offset o) e p = let i : Heard.offset o ≡ e = cc in rw (← i)
