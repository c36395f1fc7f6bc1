-- How the node handles subscribers, in the words of the histories; and that this is sound: names are kept, an attach stores and hearing does
-- what the history says.
use mathlib.Core.Path.{◌≡◌, refl, sym, ap, ◌∙◌}
use mathlib.Core.Bool.{true, false}
use Rattle.std.specs.Prelude.{Option, None, Some}
use mathlib.Core.List.{List, [], ◌∷◌, map}
use Prim.Native.Nat.{ℕ, ◌^◌, ◌<◌}
use native.Mathlib.Omega.{arith}
use lib.Dec.{T, ltb, eqb}
use lib.ListN.{length}
use borrow.Author.Tests.{eqb-true, ltb-true, lt-ltb}
use Rattle.format.proofs.Tests.{by, true_T}
use Rattle.ber.specs.Int.{spelt, lowest, all_octets}
use Rattle.ber.specs.Imsi.{imsi_ok}
use Rattle.ber.proofs.Fixeds.{spelt_lowest, spelt_back}
use Rattle.ber.proofs.Imsis.{imsi_rules}
use Rattle.profile.specs.declared.Profile.{Profile}
use Rattle.event.specs.declared.Event.{Event}
use Rattle.event.specs.declared.Event.TheVariants as E
use Rattle.std.specs.Prelude.{Ok}
use Rattle.event.specs.Fields.{kind_of, subscriber_imsi, subscriber_of, lac_of, rac_of}
use Rattle.event.specs.Kinds.{kinds, kind_in}
use Rattle.event.specs.Event.{event_of, decoded}
use Rattle.event.proofs.Theorems.{attached as attach-in}
use Rattle.mcdr.specs.declared.Place.{Place}
use Rattle.mcdr.specs.declared.MmRecord.{MmRecord}
use Rattle.subscriber.specs.declared.Subscriber.{Subscriber}
use Rattle.subscriber.specs.declared.Notice.{Notice}
use Rattle.subscriber.specs.Subscriber.{name_of, taken, no_subscriber}
use Rattle.subscriber.specs.Hear.{attached, hear}
use Rattle.subscriber.specs.Tell.{stood}
use Rattle.subscriber.proofs.Named.{hear_named, hear_names}
use Rattle.history.specs.Lists.{All}
use Rattle.history.specs.Log.{Said, activates, tells, tells_all, nothing}
use Rattle.history.specs.Slots as S
use Rattle.history.specs.Table as table
use Rattle.history.proofs.Tables.{Bears, NextIs, OutIs, Sound, admits}
use Rattle.node.specs.Step as step
use Rattle.node.proofs.Attached.{exactly}
use Rattle.once.specs.Attaching.{Noted, says, meaning, rules, imsi_of, forms}
use Rattle.once.specs.Once.{mm_sight}
use Rattle.once.proofs.Notes.{notice, hears_told}
use Rattle.once.proofs.Alike as alike
use Rattle.once.proofs.Digits.{imsi_octets}

-- ---- a name and its IMSI

pub name_back : (n : ℕ) → spelt 0 (imsi_of n) ≡ n
unfolding spelt
name_back n =
    by (ltb n (256 ^ 8)) (λ e. rw e (spelt_lowest 8 n (ltb-true n (256 ^ 8) e))) (λ e. rw e (omega arith))

-- eight octets are those of the name that they spell
pub imsi_back : (x : List ℕ) → length x ≡ 8 → T (all_octets x) → x ≡ imsi_of (spelt 0 x)
imsi_back x k o =
    let w = spelt_back x o in
    let b : spelt 0 x < 256 ^ 8 = rw k at w.1 in
    let e : lowest 8 (spelt 0 x) ≡ x = rw k at w.0 in
    rw (lt-ltb (spelt 0 x) (256 ^ 8) b) (sym e)

abbrev pub enrolling : Profile → table.Handling (Unit {0}) ℕ Place Noted (List ℕ) Subscriber MmRecord
enrolling p = record {
  same = eqb;
  name = λ s. name_of s;
  says = says;
  settles = λ g s. g;
  opening = λ t n q. attached p t (imsi_of n) q;
  hear = λ g s t e. hear p s t (notice e);
}

module _ (p : Profile) where
  abbrev K : table.Handling (Unit {0}) ℕ Place Noted (List ℕ) Subscriber MmRecord
  K = enrolling p

  abbrev K' : table.Handling (Unit {0}) ℕ step.Attached Notice (Event × List ℕ) Subscriber MmRecord
  K' = step.subscribing p

  -- what an attach brings, with these octets of an IMSI
  module _ (imsi : List ℕ) where
    abbrev brings : Place → step.Attached
    brings q = record { imsi = imsi; place = q }

    abbrev pub noted : Said (Unit {0}) ℕ Place Noted → step.ToSubscribers
    noted w = alike.said K K' notice (λ e. Some (notice e)) (λ m c. refl) (λ c m. refl) (λ g c t e. refl) (λ g c t e. refl) brings w

    -- the octets are those of the name
    abbrev pub Right : Said (Unit {0}) ℕ Place Noted → Type 0
    Right (activates m q) = imsi ≡ imsi_of m
    Right (tells m e) = Unit {0}
    Right (tells_all e) = Unit {0}
    Right nothing = Unit {0}

    pub after_alike : (t : ℕ) (w : Said (Unit {0}) ℕ Place Noted) (os : List (Option Subscriber)) → Right w
        → table.slots_after K' tt t (noted w) os ≡ table.slots_after K tt t w os
    after_alike t w os r = alike.after_alike K K' notice (λ e. Some (notice e)) (λ m c. refl) (λ c m. refl) (λ g c t e. refl) (λ g c t e. refl) brings tt t w os (opens w r)
      where
        opens : (w : Said (Unit {0}) ℕ Place Noted) → Right w → alike.Opens K K' notice (λ e. Some (notice e)) (λ m c. refl) (λ c m. refl) (λ g c t e. refl) (λ g c t e. refl) brings tt t w
        opens (activates m q) r = ap (λ (l : List ℕ). attached p t l (q tt)) r
        opens (tells m e) r = tt
        opens (tells_all e) r = tt
        opens nothing r = tt

    pub writes_alike : (t : ℕ) (w : Said (Unit {0}) ℕ Place Noted) (os : List (Option Subscriber))
        → table.writes K' tt t (noted w) os ≡ table.writes K tt t w os
    writes_alike = alike.writes_alike K K' notice (λ e. Some (notice e)) (λ m c. refl) (λ c m. refl) (λ g c t e. refl) (λ g c t e. refl) brings tt

    pub admitted : (w : Said (Unit {0}) ℕ Place Noted) (os : List (Option Subscriber)) → table.not_active K' (noted w) os ≡ false
        → table.is_active K' (noted w) os ≡ false → table.all_taken K' (noted w) os ≡ false → admits K w os ≡ true
    admitted = alike.admitted K K' notice (λ e. Some (notice e)) (λ m c. refl) (λ c m. refl) (λ g c t e. refl) (λ g c t e. refl) brings

  -- ---- what hearing keeps

  module _ (s : Subscriber) (t : ℕ) (e : Noted) where
    next_is : (o : Option Subscriber) → (hear p s t (notice e)).next ≡ o → NextIs K mm_sight.name_of (name_of s) o
    next_is None i = tt
    next_is (Some d) i = ap (λ (l : List ℕ). spelt 0 l) (hear_named p s t (notice e) i).0

    out_is : (rs : List MmRecord) → All (λ r. r.imsi ≡ s.imsi) rs → OutIs K mm_sight.name_of (name_of s) rs
    out_is [] a = tt
    out_is (r ∷ rs) a = (ap (λ (l : List ℕ). spelt 0 l) a.0, out_is rs a.1)

    pub bears : Bears K mm_sight.name_of (name_of s) (K.hear tt s t e)
    bears = record {
      next = next_is (hear p s t (notice e)).next refl;
      out = out_is (hear p s t (notice e)).out (hear_names p s t (notice e));
    }

  stay : (s : Subscriber) (t : ℕ) (e : Noted) → taken s ≡ true → alike.Taken K taken (K.hear tt s t e).next
  stay s t e a = go (hear p s t (notice e)).next refl
    where
      go : (o : Option Subscriber) → (hear p s t (notice e)).next ≡ o → alike.Taken K taken o
      go None i = tt
      go (Some d) i = (hear_named p s t (notice e) i).1 a

  pub seen_after : (t : ℕ) (w : Said (Unit {0}) ℕ Place Noted) (ss : List Subscriber)
      → map (S.seen taken) (map stood (table.slots_after K tt t w (map (S.seen taken) ss))) ≡ table.slots_after K tt t w (map (S.seen taken) ss)
  seen_after t w ss =
      alike.seen_stood K taken no_subscriber refl (table.slots_after K tt t w (map (S.seen taken) ss))
      (alike.after_taken K taken tt stay t (λ m s. refl) w (map (S.seen taken) ss) (alike.slots_taken K taken ss))

  -- ---- the kind is sound

  pub sound : Sound rules meaning (forms p) K mm_sight.name_of (λ s. tt)
  sound = record {
    same_exactly = exactly;
    same_meant = λ m n. refl;
    says_meant = λ v. refl;
    settles_meant = λ g v. refl;
    stored_name = λ n o. name_back n;
    bears = λ g s t e. bears s t e;
    opens = λ n t q. refl;
    hears_told = λ n h t e. hears_told p n h t e;
    settings_activated = λ g v m s e. refl;
    settings_heard = λ n s v e i. refl;
    settings_unheard = λ n g v i. refl;
  }

-- ---- an event that is accepted: its octets are those of the name that it attaches

-- an attach is what octets of its kind say
attach_says : (s : List ℕ) → kind_of s ≡ 8 → event_of s ≡ E.Attach (subscriber_of s) (lac_of s) (rac_of s)
unfolding event_of kinds kind_in
attach_says s e = rw (event_of, e)

pub imsi_right : (p : Profile) (s : List ℕ) {t : ℕ} → decoded s ≡ Ok (t, event_of s) → Right p (subscriber_imsi s) (says s)
unfolding says
imsi_right p s {t} d =
    by (eqb (kind_of s) 8)
    (λ a.
    let x = attach-in s (d ∙ ap (λ (v : Event). Ok (t, v)) (attach_says s (eqb-true (kind_of s) 8 a))) in
    let o = imsi_octets (subscriber_imsi s) x.imsi in
    rw a (imsi_back (subscriber_imsi s) (imsi_rules (subscriber_imsi s) (true_T (imsi_ok (subscriber_imsi s)) x.imsi)).eight o ∙ ap imsi_of x.name))
    (λ a. by (eqb (kind_of s) 9) (λ b. rw (a, b) tt)
    (λ b. by (eqb (kind_of s) 10) (λ c. rw (a, b, c) tt)
    (λ c. by (eqb (kind_of s) 11) (λ e. rw (a, b, c, e) tt) (λ e. rw (a, b, c, e) tt))))
