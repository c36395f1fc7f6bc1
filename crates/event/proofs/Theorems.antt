-- What is said is in range: octets that no row refuses have the mark, a kind, the kind's length, and fields in range.
use mathlib.Core.Path.{◌≡◌, refl, sym, ◌∙◌}
use mathlib.Core.Bool.{Bool, true, not, ◌&&◌}
use mathlib.Core.List.{List, [], ◌∷◌}
use Prim.Native.Nat.{ℕ, ◌+◌, ◌≤◌}
use native.Mathlib.Omega.{arith}
use lib.Dec.{T, leb, ltb}
use lib.ListN.{length, length-drop}
use borrow.Author.Tests.{ltb-false, leb-true, eqb-true, not-false}
use Rattle.format.proofs.Tests.{T_true, true_T, and_l, and_r}
use Rattle.ber.specs.Imsi.{imsi_ok}
use Rattle.ber.specs.Int.{spelt, number_in, all_octets, lowest}
use Rattle.ber.proofs.Fixeds.{spelt_back}
use Rattle.container.specs.declared.Qos.{Qos}
use Rattle.container.specs.Qos.{qos_ok}
use Rattle.octets.specs.Names.{is_apn}
use Rattle.limits.specs.Limits.{limits_ok}
use Rattle.octets.proofs.Lowered.{lowered_length}
use Rattle.event.specs.Fields.{kind_of, time_of, qos_at, flags_of, imsi_of, count_of, spelling_of, cause_of, activation_of, activate_ok, release}
use Rattle.event.specs.Fields.{subscriber_imsi, subscriber_of, lac_of, rac_of, subscriber_ok, detach}
use Rattle.event.specs.Kinds.{Kind, kinds, whole_of}
use Rattle.event.specs.Rows.{row, first_fit, rows, marked, known, measured, fields_ok}
use Rattle.event.specs.Event.{event_of, decoded}
use Rattle.std.specs.Prelude.{Ok}
use Rattle.event.specs.Private.Activated.{Activated}
use Rattle.event.specs.declared.Activation.{Activation}
use Rattle.event.specs.declared.Name.{Name}
use Rattle.event.specs.declared.Replacement.{Replacement}
use Rattle.event.specs.declared.Event.{Event}
use Rattle.event.specs.declared.Event.TheVariants as E
use Rattle.event.specs.declared.Event.TheVariants.{Activate, Traffic, Tariff, Release, Tick, Management}
use Rattle.event.specs.declared.Event.TheVariants.{Attach, Location, ManageSubscriber, Detach, Replace}
use Rattle.event.proofs.Firsts.{passed}
use Rattle.event.proofs.Numbers.{number_part}
use Rattle.event.proofs.Saying.{none_fits, says_so}
use Rattle.event.proofs.Table.{known_is, Every, row_has}

-- ---- both of two tests

and_left : (a b : Bool) → (a && b) ≡ true → a ≡ true
and_left a b h = T_true a (and_l a b (true_T (a && b) h))

and_right : (a b : Bool) → (a && b) ≡ true → b ≡ true
and_right a b h = T_true b (and_r a b (true_T (a && b) h))

-- ---- every event

-- The time t and the event e are what the octets s say: those have the mark, a kind, the kind's length, and fields in range.
pub record Heard (s : List ℕ) (t : ℕ) (e : Event) : Type 0 where
  pub time : t ≡ time_of s
  pub event : e ≡ event_of s
  pub head : 7 ≤ length s
  pub mark : marked s ≡ true
  pub kind : known s ≡ true
  pub least : 1 ≤ kind_of s
  pub most : kind_of s ≤ 12
  pub long : length s ≡ whole_of s
  pub fields : fields_ok s ≡ true

-- none of the five rows fits
record Clear (s : List ℕ) : Type 0 where
  head : 7 ≤ length s
  mark : marked s ≡ true
  kind : known s ≡ true
  long : measured s ≡ true
  fields : fields_ok s ≡ true

clear : (s : List ℕ) → first_fit (rows s) ≡ 0 → Clear s
unfolding rows
clear s h =
    let r5 = row 5 (not (fields_ok s)) ∷ [] in
    let r4 = row 4 (not (measured s)) ∷ r5 in
    let r3 = row 3 (not (known s)) ∷ r4 in
    let r2 = row 2 (not (marked s)) ∷ r3 in
    let p1 = passed 1 (ltb (length s) 7) r2 (omega arith) h in
    let p2 = passed 2 (not (marked s)) r3 (omega arith) p1.rest in
    let p3 = passed 3 (not (known s)) r4 (omega arith) p2.rest in
    let p4 = passed 4 (not (measured s)) r5 (omega arith) p3.rest in
    let p5 = passed 5 (not (fields_ok s)) [] (omega arith) p4.rest in
    record {
      head = ltb-false (length s) 7 p1.fails;
      mark = not-false (marked s) p2.fails;
      kind = not-false (known s) p3.fails;
      long = not-false (measured s) p4.fails;
      fields = not-false (fields_ok s) p5.fails;
    }

pub heard : (s : List ℕ) {t : ℕ} {e : Event} → decoded s ≡ Ok (t, e) → Heard s t e
unfolding decoded measured
heard s {t} {e} h =
    let w = says_so s h in
    let c = clear s (none_fits s h) in
    let k = kind_of s in
    let n = sym (known_is s) ∙ c.kind in
    record {
      time = w.0;
      event = w.1;
      head = c.head;
      mark = c.mark;
      kind = c.kind;
      least = leb-true 1 k (and_left (leb 1 k) (leb k 12) n);
      most = leb-true k 12 (and_right (leb 1 k) (leb k 12) n);
      long = eqb-true (length s) (whole_of s) c.long;
      fields = c.fields;
    }

-- ---- an activate

activation_in : (s : List ℕ) → length s ≡ 37 + count_of s → activate_ok s ≡ true → Activated s (activation_of s)
unfolding activate_ok
activation_in s l h =
    let a = leb (flags_of s) 3 in
    let b = imsi_ok (imsi_of s) in
    let c = qos_ok (qos_at 30 s) in
    let d = is_apn (spelling_of s) in
    let h3 = and_left (a && b && c) d h in
    let h2 = and_left (a && b) c h3 in
    let size : length (spelling_of s) ≡ count_of s = omega (arith, length-drop 37 s) in
    record {
      is = refl;
      long = l;
      flags = leb-true (flags_of s) 3 (and_left a b h2);
      imsi = and_right a b h2;
      qos = and_right (a && b) c h3;
      name = and_right (a && b && c) d h;
      size = lowered_length (spelling_of s) ∙ size;
    }

-- ---- an attach

-- what is known of it, of a subscriber k at l and r: an IMSI, which is the one that its number spells, and a place
pub record Attached (s : List ℕ) (k l r : ℕ) : Type 0 where
  pub long : length s ≡ 18
  pub imsi : imsi_ok (subscriber_imsi s) ≡ true
  pub name : spelt 0 (subscriber_imsi s) ≡ subscriber_of s
  pub key : k ≡ subscriber_of s
  pub lac : l ≡ lac_of s
  pub rac : r ≡ rac_of s

attached_in : (s : List ℕ) → length s ≡ 18 → subscriber_ok s ≡ true → Attached s (subscriber_of s) (lac_of s) (rac_of s)
unfolding subscriber_ok
attached_in s l h = record { long = l; imsi = h; name = number_part 8 7 s (omega arith); key = refl; lac = refl; rac = refl }

-- ---- of each kind

-- what is known of what an event says
abbrev Fine : List ℕ → Event → Type 0
Fine s (Activate a) = Activated s a
Fine s (Traffic n u d) = (u ≡ number_in 4 15 s) × (d ≡ number_in 4 19 s)
Fine s (E.Qos n q) = qos_ok q ≡ true
Fine s Tariff = Unit {0}
Fine s (Release n c) = release c ≡ true
Fine s Tick = Unit {0}
Fine s (Management n) = Unit {0}
Fine s (Attach m l r) = Attached s m l r
Fine s (Location m l r) = (l ≡ lac_of s) × (r ≡ rac_of s)
Fine s (ManageSubscriber m) = Unit {0}
Fine s (Detach m c) = detach c ≡ true
Fine s (Replace r) = limits_ok r.limits ≡ true

-- of the row k
abbrev FineBy : List ℕ → Kind → Type 0
FineBy s k = length s ≡ k.whole s → k.in_range s ≡ true → Fine s (k.says s)

fine : (s : List ℕ) {t : ℕ} {e : Event} → decoded s ≡ Ok (t, e) → Fine s e
unfolding event_of whole_of fields_ok Every kinds
fine s h =
    let x = heard s h in
    rw x.event
    (row_has (FineBy s) s (
      activation_in s,
      (
        (λ l i. (refl, refl)),
        (
          (λ l i. i),
          (
            (λ l i. tt),
            (
              (λ l i. i),
              (
                (λ l i. tt),
                (
                  (λ l i. tt),
                  ((λ l i. attached_in s l i), ((λ l i. (refl, refl)), ((λ l i. tt), ((λ l i. and_right (subscriber_ok s) (detach (cause_of s)) i), ((λ l i. i), tt))))),
                ),
              ),
            ),
          ),
        ),
      ),
    )
    x.kind x.long x.fields)

pub activated : (s : List ℕ) {t : ℕ} {a : Activation} → decoded s ≡ Ok (t, Activate a) → Activated s a
activated s h = fine s h

-- a traffic's octets up and down are those that stand there
pub reported : (s : List ℕ) {t : ℕ} {n : Name} {u d : ℕ} → decoded s ≡ Ok (t, Traffic n u d) → (u ≡ number_in 4 15 s) × (d ≡ number_in 4 19 s)
reported s h = fine s h

-- a QoS has a profile in range
pub qos_changed : (s : List ℕ) {t : ℕ} {n : Name} {q : Qos} → decoded s ≡ Ok (t, E.Qos n q) → qos_ok q ≡ true
qos_changed s h = fine s h

-- a release has cause 0, 4 or 18
pub released : (s : List ℕ) {t : ℕ} {n : Name} {c : ℕ} → decoded s ≡ Ok (t, Release n c) → release c ≡ true
released s h = fine s h

-- an attach has an IMSI
pub attached : (s : List ℕ) {t m l r : ℕ} → decoded s ≡ Ok (t, Attach m l r) → Attached s m l r
attached s h = fine s h

-- a location change says the place that stands there
pub located : (s : List ℕ) {t m l r : ℕ} → decoded s ≡ Ok (t, Location m l r) → (l ≡ lac_of s) × (r ≡ rac_of s)
located s h = fine s h

-- a detach has cause 0 or 4
pub detached : (s : List ℕ) {t m c : ℕ} → decoded s ≡ Ok (t, Detach m c) → detach c ≡ true
detached s h = fine s h

-- a replacement has limits in range
pub replaced : (s : List ℕ) {t : ℕ} {r : Replacement} → decoded s ≡ Ok (t, Replace r) → limits_ok r.limits ≡ true
replaced s h = fine s h

-- ---- the name of a subscriber

-- eight octets spell a number that no other eight spell
pub one_imsi : (a b : List ℕ) → length a ≡ 8 → length b ≡ 8 → T (all_octets a) → T (all_octets b) → spelt 0 a ≡ spelt 0 b → a ≡ b
one_imsi a b k l s t e =
    sym (spelt_back a s).0 ∙ (λ i. lowest ((k ∙ sym l) i) (e i)) ∙ (spelt_back b t).0
