-- The record that closes is within the rules.
use mathlib.Core.Path.{◌≡◌, refl, sym, ◌∙◌}
use mathlib.Core.Bool.{Bool, true, false, not, cond, ◌&&◌, ◌||◌}
use Rattle.std.specs.Prelude.{Some}
use mathlib.Core.List.{[], ◌∷◌}
use Prim.Native.Nat.{ℕ, ◌+◌, ◌%◌, ◌/◌, ◌^◌, ◌≤◌, ◌<◌}
use native.Mathlib.Omega.{arith}
use lib.Dec.{leb, eqb}
use lib.ListN.{length, length-append}
use borrow.Author.Tests.{le-leb, eqb-true, eqb-false, ne_eqb}
use Rattle.format.proofs.Tests.{by}
use Rattle.container.specs.declared.OpenRecord.{OpenRecord}
use Rattle.container.specs.Container.{container_ok}
use Rattle.container.specs.Open as O
use Rattle.container.specs.Open.{used, running, ended_all}
use Rattle.container.proofs.Padded.{padded_rest}
use Rattle.container.proofs.OpenRules.{closed_list, opening_ok, running_ok, used_length}
use Rattle.container.proofs.Padded.{take_padded}
use Rattle.event.specs.Fields.{release as releases}
use Rattle.scdr.specs.Rules.{release, cause_ok, number_ok, change_ok, list_rule, within}
use Rattle.limits.proofs.Ranges.{limits_hold}
use Rattle.profile.specs.declared.Profile.{Profile}
use Rattle.profile.proofs.Ranges.{parts}
use Rattle.context.specs.declared.Context.{Context}
use Rattle.history.specs.Lists.{is_some, or_else, test}
use Rattle.node.specs.declared.Message.{Message}
use Rattle.node.specs.declared.Settings.{Settings}
use Rattle.node.specs.Hear.{reported, change_of, limit_met, closing, time_at, number_for, record_of, closed_by}
use Rattle.node.specs.Sound.{most_accepted}
use Rattle.node.specs.Private.Premises.{InRange, ReportFits, SoundContext}
use Rattle.node.proofs.Fits.{apt_good, apt_grows, apt_few}
use Rattle.node.proofs.FirstOf.{test_is}
use Rattle.node.proofs.Causes.{closing_once, closing_limit}

-- ---- the number and the SGSN change

module _ (closed : ℕ) (few : closed < most_accepted) where
  released_number : (cause : ℕ) → release cause ≡ true → number_ok cause (number_for closed true) ≡ true
  unfolding number_ok number_for
  released_number cause r =
      by (eqb closed 0) (λ e. rw (e, r))
      (λ e. rw (e, r, le-leb (closed + 1) (10 ^ 15) (omega arith), ne_eqb (closed + 1) 1 (λ z. eqb-false closed 0 e (omega arith))))

  closing_number : (cause : ℕ) → release cause ≡ false → number_ok cause (number_for closed false) ≡ true
  unfolding number_ok number_for
  closing_number cause r = rw (r, le-leb (closed + 1) (10 ^ 15) (omega arith), le-leb 1 (closed + 1) (omega arith))

first_alone : (closed : ℕ) (flag released : Bool) → change_ok (flag && eqb closed 0) (number_for closed released) ≡ true
unfolding change_ok number_for
first_alone closed flag released =
    by (eqb closed 0)
    (λ e. rw e (first flag released (eqb-true closed 0 e)))
    (λ e. rw e (later flag (leb (cond (released && false) 0 (closed + 1)) 1)))
  where
    later : (f b : Bool) → (not (f && false) || b) ≡ true
    later true b = refl
    later false b = refl

    first : (f r : Bool) → closed ≡ 0 → (not (f && true) || leb (cond (r && true) 0 (closed + 1)) 1) ≡ true
    first true true e = refl
    first true false e = rw e
    first false r e = refl

-- ---- the cause

-- what an event may release with is what a record may lack a number with
release_same : (cause : ℕ) → releases cause ≡ release cause
unfolding releases release
release_same cause = refl

release_cause : (cause : ℕ) → release cause ≡ true → cause_ok cause ≡ true
unfolding cause_ok
release_cause cause r = rw r

-- what closes a record, unless it is a release, has a cause of its own
record Cause (cause : ℕ) : Type 0 where
  known : cause_ok cause ≡ true
  other : release cause ≡ false

cause_of_lem : (n : ℕ) {k : ℕ} → k ≡ n → cause_ok n ≡ true → release n ≡ false → Cause k
cause_of_lem n e a b = record { known = rw e a; other = rw e b }

-- the first of the three limits that is met
limit_cause : (a b d : Bool) {k : ℕ} → or_else (test a 16) (or_else (test b 17) (test d 19)) ≡ Some k → Cause k
unfolding cause_ok release
limit_cause true b d e = cause_of_lem 16 (test_is true 16 e) refl refl
limit_cause false true d e = cause_of_lem 17 (test_is true 17 e) refl refl
limit_cause false false d e = cause_of_lem 19 (test_is d 19 e) refl refl

-- with which number it goes
record Closes (m : Message) (closed cause : ℕ) : Type 0 where
  known : cause_ok cause ≡ true
  number : number_ok cause (number_for closed m.releases) ≡ true

closes : (o : OpenRecord) (t : ℕ) (m : Message) {cause : ℕ} (closed : ℕ) → closed < most_accepted → InRange m → closing o t m ≡ Some cause
    → Closes m closed cause
unfolding cause_ok release limit_met
closes o t m {cause} closed few f e = by m.closes at_once by_limit
  where
    other : m.releases ≡ false → Cause cause → Closes m closed cause
    other r w = record { known = w.known; number = rw r (closing_number closed few cause w.other) }

    by_limit : m.closes ≡ false → Closes m closed cause
    by_limit n =
        by m.releases
        (λ r. absurd (let z : ◌≡◌ {A = Bool} true false = sym (f.released r).0 ∙ n in let y : ◌≡◌ {A = ℕ} 0 1 = cc in omega arith))
        (λ r. other r (limit_cause (m.counts && O.volume_met (reported o m)) (m.ticks && O.time_met t o)
        (is_some (change_of o m) && O.changes_met o)
        (sym (closing_limit o t m n) ∙ e)))

    at_once : m.closes ≡ true → Closes m closed cause
    at_once y =
        let i : Some m.cause ≡ Some cause = sym (closing_once o t m y) ∙ e in
        let z : m.cause ≡ cause = cc in
        by m.releases
        (λ r.
        let w : release cause ≡ true = sym (release_same cause) ∙ (rw z at (f.released r).1) in
        record { known = release_cause cause w; number = rw r (released_number closed few cause w) })
        (λ r. other r (cause_of_lem 20 (sym z ∙ f.managed y r) refl refl))

-- ---- the record that closes

module _ (p : Profile) (gs : Settings) (t : ℕ) (c : Context) (a : SoundContext p gs t c) (size : length c.current.containers ≡ 15) (m : Message) (f : InRange m)
    (u : ReportFits m) where
  few : length (used c.current) ≤ 14
  few = omega (arith, used_length c.current (omega (arith, apt_few p gs t c a)) size, apt_few p gs t c a)

  last_ok : container_ok (running (reported c.current m) 2 (time_at p t)) ≡ true
  unfolding reported
  last_ok =
      let g = (apt_good p gs t c a).current in
      let l = limits_hold c.current.limits g.limits in
      let k = parts p a.due.profile in
      running_ok (reported c.current m) 2 t p.zone (omega arith) g.qos (omega (arith, g.volume, l.few_octets, u.up))
      (omega (arith, g.volume, l.few_octets, u.down)) a.due.until k.zone

  list_ok_lem : (cause number : ℕ) → list_rule (record_of p c (O.ended (reported c.current m) 2 (time_at p t)) cause number) ≡ true
  unfolding list_rule record_of reported
  list_ok_lem cause number =
      let o = c.current in
      let cs = ended_all (reported o m) 2 (time_at p t) in
      let n : length cs ≤ 15 = omega (arith, length-append (used o) (running (reported o m) 2 (time_at p t) ∷ []), few) in
      rw (
        le-leb (length cs) 15 n,
        take_padded cs,
        closed_list p.zone a.due.clock o (apt_good p gs t c a).current t a.due.since few m.up m.down
            last_ok,
        padded_rest cs,
      )

  pub closed_within : (cause : ℕ) → closing c.current t m ≡ Some cause → within (closed_by p c t m cause) ≡ true
  unfolding within closed_by record_of reported
  closed_within cause e =
      let g = apt_good p gs t c a in
      let k = parts p a.due.profile in
      let w = closes c.current t m c.closed (apt_grows p gs t c a).closed f e in
      let o =
      opening_ok p.zone a.due.clock c.current g.current t a.due.since a.due.until k.zone in
      rw (
        list_ok_lem cause (number_for c.closed m.releases),
        g.imsi,
        g.apn,
        o,
        w.known,
        w.number,
        first_alone c.closed (eqb (c.flags / 2 % 2) 1) m.releases,
        k.node,
      )
