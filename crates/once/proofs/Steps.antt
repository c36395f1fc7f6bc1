-- What a call of one event does, by its answer: accepted, the table does what the histories say of its event; refused, nothing.
use mathlib.Core.Path.{◌≡◌, refl, sym, ap, ◌∙◌}
use mathlib.Core.Bool.{true, false, cond}
use Rattle.std.specs.Prelude.{None, Some}
use mathlib.Core.List.{List, [], ◌∷◌, ◌++◌, map}
use Prim.Native.Nat.{ℕ, zero, suc}
use lib.Dec.{eqb}
use lib.ListN.{length, take, drop, get_or}
use lib.Seq.{take_at}
use borrow.Author.Tests.{eqb-true, eqb-false}
use Rattle.format.proofs.Tests.{by}
use Rattle.scdr.specs.declared.Record as scdr
use Rattle.profile.specs.declared.Profile.{Profile}
use Rattle.event.specs.Fields.{kind_of, time_of, set_of, subscriber_imsi, replacement_of}
use Rattle.event.specs.Rows.{known}
use Rattle.event.specs.Kinds.{kinds}
use Rattle.event.specs.Event.{event_of}
use Rattle.event.proofs.Table.{Every, row_has, row_number}
use Rattle.mcdr.specs.declared.MmRecord.{MmRecord}
use Rattle.cdrs.specs.Cdr.{Cdr, pdp, mm, cdr_enc}
use Rattle.subscriber.specs.Tell.{octets_of as mmOctetsOf, marked_octets as mmMarked}
use Rattle.history.specs.Run.{if_zero}
use Rattle.history.proofs.Lists.{each_append, each_of_map}
use Rattle.node.specs.declared.Node.{Node}
use Rattle.node.specs.Step as step
use Rattle.node.proofs.Demands.{answered, accepted}
use Rattle.node.proofs.NodeKept.{Accepts, accepts}
use Rattle.node.proofs.Singles.{One, got, octets_one, step_refused}
use Rattle.once.specs.Charging.{says}
use Rattle.once.specs.Attaching as attaching
use Rattle.once.specs.Once.{marked}
use Rattle.once.proofs.Handles.{said}
use Rattle.once.proofs.Enrolls.{noted}

-- ---- what an event says

-- The octets of a known kind say to the node what they mean: to contexts, and to subscribers.
abbrev pub meant : Profile → List ℕ → step.Words
meant p s = record {
  contexts = said p (says s);
  subscribers = noted p (subscriber_imsi s) (attaching.says s);
  set = cond (eqb (kind_of s) 1) (Some (set_of s)) (cond (eqb (kind_of s) 12) (Some (get_or s 7 0)) None);
  replaces = cond (eqb (kind_of s) 12) (Some (replacement_of s)) None;
}

pub says_alike : (p : Profile) (s : List ℕ) → known s ≡ true → step.said_of s ≡ meant p s
unfolding says attaching.says event_of kinds Every
says_alike p s z = row_has (λ k. k.number ≡ kind_of s → step.takes (k.says s) s ≡ meant p s) s alike z (row_number s z)
  where
    alike : Every (λ k. k.number ≡ kind_of s → step.takes (k.says s) s ≡ meant p s) kinds
    alike = (
      (λ e. rw (← e)),
      (
        (λ e. rw (← e)),
        (
          (λ e. rw (← e)),
          (
            (λ e. rw (← e)),
            (
              (λ e. rw (← e)),
              (
                (λ e. rw (← e)),
                (
                  (λ e. rw (← e)),
                  ((λ e. rw (← e)), ((λ e. rw (← e)), ((λ e. rw (← e)), ((λ e. rw (← e)), ((λ e. rw (← e)), tt))))),
                ),
              ),
            ),
          ),
        ),
      ),
    )

-- ---- a call of one event

-- a number that is not 0 applies nothing
pub no_zero : {A : Type 0} (k : ℕ) (xs : List A) → eqb k 0 ≡ false → take (if_zero k) xs ≡ []
no_zero zero xs e = absurd (eqb-false 0 0 e refl)
no_zero (suc k) xs e = refl

-- the records that it writes
abbrev pub cdrs_of : Node → ℕ → step.Words → List Cdr
cdrs_of n t w = map pdp (step.records_of n t w) ++ map mm (step.mm_records_of n t w)

abbrev pub wrote_one : Node → One → List Cdr
wrote_one n c = cond (eqb (got n c).0 0) (cdrs_of n (time_of c.event) (step.said_of c.event)) []

module _ (n : Node) (c : One) where
  abbrev s : List ℕ
  s = c.event

  abbrev t : ℕ
  t = time_of s

  -- accepted: the node, the octets
  pub record Takes : Type 0 where
    pub answers : (got n c).0 ≡ 0
    pub fits : Accepts n s c.buffer
    pub node : (got n c).1.0 ≡ step.node_after n t (step.said_of s)
    pub octets : octets_one n c ≡ step.output n t (step.said_of s)

  -- refused: nothing
  pub record Leaves : Type 0 where
    pub answers : eqb (got n c).0 0 ≡ false
    pub node : (got n c).1.0 ≡ n
    pub octets : octets_one n c ≡ []

  abbrev Out : Type 0
  Out = ℕ × (Node × (ℕ × List ℕ))

  takes : eqb (got n c).0 0 ≡ true → Takes
  takes e =
      let z = eqb-true (got n c).0 0 e in
      let k = sym (answered n s c.buffer) ∙ z in
      let q = accepted n s c.buffer k in
      let x = step.output n t (step.said_of s) in
      record {
        answers = z;
        fits = accepts n s c.buffer k;
        node = ap (λ (r : Out). r.1.0) q;
        octets = ap (λ (r : Out). take r.1.1.0 r.1.1.1) q ∙ take_at x (drop (length x) c.buffer) (length x) refl;
      }

  leaves : eqb (got n c).0 0 ≡ false → Leaves
  leaves e =
      let q = step_refused n s c.buffer e in
      record { answers = e; node = ap (λ (r : Out). r.1.0) q; octets = ap (λ (r : Out). take r.1.1.0 r.1.1.1) q }

  pub called : {X : Type 0} → (Takes → X) → (Leaves → X) → X
  called f g = by (eqb (got n c).0 0) (λ e. f (takes e)) (λ e. g (leaves e))

  pub wrote_some : Takes → wrote_one n c ≡ cdrs_of n t (step.said_of s)
  wrote_some z = rw z.answers

  pub wrote_none : Leaves → wrote_one n c ≡ []
  wrote_none z = rw z.answers

  -- its octets are its records

  marked_pdp : (rs : List scdr.Record) → step.octets_of rs ≡ marked (map pdp rs)
  unfolding step.octets_of step.marked_octets
  marked_pdp rs = sym (each_of_map (λ r. 0xC3 ∷ 0x5A ∷ cdr_enc r) pdp rs)

  marked_mm : (rs : List MmRecord) → mmOctetsOf rs ≡ marked (map mm rs)
  unfolding mmOctetsOf mmMarked
  marked_mm rs = sym (each_of_map (λ r. 0xC3 ∷ 0x5A ∷ cdr_enc r) mm rs)

  marked_is : (w : step.Words) → step.output n t w ≡ marked (cdrs_of n t w)
  unfolding step.output
  marked_is w =
      rw (marked_pdp (step.records_of n t w), marked_mm (step.mm_records_of n t w))
      (sym (each_append (λ r. 0xC3 ∷ 0x5A ∷ cdr_enc r) (map pdp (step.records_of n t w)) (map mm (step.mm_records_of n t w))))

  pub octets_one_lem : octets_one n c ≡ marked (wrote_one n c)
  octets_one_lem =
      called
      (λ z. z.octets ∙ marked_is (step.said_of s) ∙ ap marked (sym (wrote_some z)))
      (λ z. z.octets ∙ ap marked (sym (wrote_none z)))

  -- it changes no profile
  pub profile_kept : (got n c).1.0.profile ≡ n.profile
  unfolding step.node_after
  profile_kept = called (λ z. ap (λ (m : Node). m.profile) z.node) (λ z. ap (λ (m : Node). m.profile) z.node)
