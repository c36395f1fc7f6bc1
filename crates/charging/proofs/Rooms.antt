-- The room is enough: no event of a file is refused with 11, and a node that was sound stays so.
use mathlib.Core.Path.{◌≡◌, refl, sym, ap, ◌∙◌}
use mathlib.Core.Bool.{Bool, true, false, not, ◌&&◌}
use Rattle.std.specs.Prelude.{Option, None, Some}
use mathlib.Core.List.{List, [], ◌∷◌, ◌++◌}
use Prim.Native.Nat.{ℕ, zero, suc, ◌+◌, ◌*◌, ◌≤◌}
use native.Mathlib.Omega.{arith}
use lib.Dec.{leb, ltb, eqb}
use lib.ListN.{length, take, drop, length-append, length-map}
use borrow.Author.Tests.{eqb-true, eqb-false, le-ltb, not-true}
use Rattle.format.proofs.Tests.{by, both}
use Rattle.scdr.specs.declared.Record.{Record}
use Rattle.mcdr.specs.declared.MmRecord.{MmRecord}
use Rattle.mcdr.specs.Change.{same_place}
use Rattle.mcdr.proofs.Theorems.{at_most_400}
use Rattle.profile.specs.declared.Profile.{Profile}
use Rattle.event.specs.Fields.{time_of}
use Rattle.event.specs.Rows.{Row, row, first_fit}
use Rattle.event.specs.Event.{event_of}
use Rattle.event.specs.Framing.{next_length}
use Rattle.context.specs.declared.Context.{Context}
use Rattle.history.specs.Lists.{All}
use Rattle.history.specs.Slots as S
use Rattle.history.specs.Log.{Said, tells, tells_all}
use Rattle.history.specs.Table.{Handling, slot, slots_write, hears}
use Rattle.subscriber.specs.declared.Subscriber.{Subscriber}
use Rattle.subscriber.specs.declared.Notice.{Notice}
use Rattle.subscriber.specs.declared.Notice.TheVariants.{Moved, Managed, Detached}
use Rattle.subscriber.specs.Subscriber.{place_of, taken as isAttached}
use Rattle.subscriber.specs.Hear.{fifteenth, closes_with, hear as notices}
use Rattle.subscriber.specs.Tell.{marked_octets as mmMarkedOctets, octets_of as mmOctetsOf}
use Rattle.node.specs.declared.Node.{Node}
use Rattle.node.specs.declared.Settings.{Settings}
use Rattle.node.specs.declared.Message.{Message}
use Rattle.node.specs.declared.meaning.Meaning.{Meaning}
use Rattle.node.specs.declared.meaning.Meaning.TheVariants.{Opens, Tells, TellsAll, Attaches, Notifies, Replaces}
use Rattle.node.specs.Meaning.{meaning_of}
use Rattle.node.specs.Hear.{closing, hear_with, hear}
use Rattle.node.specs.Step.{
  saying,
  handling,
  subscribing,
  seen,
  slots,
  places,
  marked_octets,
  octets_of,
  records_of,
  mm_records_of,
  output,
  said_of,
  refusals,
  step_of,
}
use Rattle.node.specs.Held.{Octets, Held, Whole}
use Rattle.node.proofs.ContextKept.{Fine}
use Rattle.node.proofs.Demands.{answered}
use Rattle.node.proofs.SubscribersKept.{MmFine}
use Rattle.node.proofs.NodeKept.{records_good, mm_records_good}
use Rattle.node.proofs.StepKept.{step_kept}
use Rattle.charging.specs.Done.{Done, and_then}
use Rattle.charging.specs.File.{next_event, roomy, taken, first_of, charged_in, charged}
use Rattle.charging.proofs.Steps.{room_size}
use Rattle.charging.proofs.Cuts.{drop_octets}

-- ---- what an event writes at most: a record a slot, in one of the two tables

with_few : (p : Profile) (g : Settings) (c : Context) (t : ℕ) (h : Message) (o : Option ℕ) → length (hear_with p g c t h o).out ≤ 1
unfolding hear_with
with_few p g c t h None = omega arith
with_few p g c t h (Some cause) = omega arith

hear_few : (p : Profile) (g : Settings) (c : Context) (t : ℕ) (h : Message) → length (hear p g c t h).out ≤ 1
unfolding hear
hear_few p g c t h = with_few p g c t h (closing c.current t h)

notice_few : (p : Profile) (s : Subscriber) (t : ℕ) (m : Notice) → length (notices p s t m).out ≤ 1
unfolding notices closes_with
notice_few p s t (Moved q) =
    by (same_place (place_of s) q) (λ e. rw e (omega arith))
    (λ e. rw e (by (fifteenth s) (λ f. rw f (omega arith)) (λ f. rw f (omega arith))))
notice_few p s t Managed = omega arith
notice_few p s t (Detached cause) = omega arith

-- of either table
module _ {G N S E W C B : Type 0} (K : Handling G N S E W C B) (g : G) (few : (c : C) (t : ℕ) (h : E) → length (K.hear g c t h).out ≤ 1) (t : ℕ) where
  listen_few : (w : Said G N S E) (c : C) (o : Option E) → hears K (K.name c) w ≡ o → length (slot K g t w (Some c)).out ≤ 1
  listen_few w c None e = rw e (omega arith)
  listen_few w c (Some h) e = rw e (few c t h)

  slot_few : (w : Said G N S E) (o : Option C) → length (slot K g t w o).out ≤ 1
  slot_few w None = omega arith
  slot_few w (Some c) = listen_few w c (hears K (K.name c) w) refl

  slots_few : (w : Said G N S E) (os : List (Option C)) → length (slots_write K g t w os) ≤ length os
  slots_few w [] = omega arith
  slots_few w (o ∷ os) = omega (arith, length-append (slot K g t w o).out (slots_write K g t w os), slot_few w o, slots_few w os)

-- an event speaks to one of the two tables, which have 16 slots each
records_few : (n : Node) (t : ℕ) (m : Meaning) (s : List ℕ) → Held n → length (records_of n t (saying m s)) + length (mm_records_of n t (saying m s)) ≤ 16
unfolding records_of mm_records_of
records_few n t (Opens a) s h = omega arith
records_few n t (Tells m x) s h =
    let p = n.profile in
    let g = n.settings in
    omega (arith, slots_few (handling p) g (hear_few p g) t (tells m x) (slots n), length-map n.contexts seen, h.size)
records_few n t (TellsAll x) s h =
    let p = n.profile in
    let g = n.settings in
    omega (arith, slots_few (handling p) g (hear_few p g) t (tells_all x) (slots n), length-map n.contexts seen, h.size)
records_few n t (Attaches k q) s h = omega arith
records_few n t (Notifies k m) s h =
    let p = n.profile in
    omega (arith, slots_few (subscribing p) tt (notice_few p) t (tells k m) (places n), length-map n.subscribers (S.seen isAttached), h.places)
records_few n t (Replaces r) s h = omega arith

octets_few : (rs : List Record) → All Fine rs → length (octets_of rs) ≤ 1026 * length rs
unfolding octets_of marked_octets
octets_few [] a = omega arith
octets_few (r ∷ rs) a = omega (arith, length-append (marked_octets r) (octets_of rs), a.0.short, octets_few rs a.1)

mm_octets_few : (rs : List MmRecord) → All MmFine rs → length (mmOctetsOf rs) ≤ 1026 * length rs
unfolding mmOctetsOf mmMarkedOctets
mm_octets_few [] a = omega arith
mm_octets_few (r ∷ rs) a =
    omega (arith, length-append (mmMarkedOctets r) (mmOctetsOf rs), at_most_400 r a.0, mm_octets_few rs a.1)

-- ---- 11 is the last row

-- no row has this number
abbrev lacks : ℕ → List Row → Bool
lacks k [] = true
lacks k (row j t ∷ rs) = not (eqb j k) && lacks k rs

-- where the last row was found, and does not fit with more room, none does
last_row : (k : ℕ) (rs : List Row) (t : Bool) → (k ≡ 0 → ⊥) → lacks k rs ≡ true → first_fit (rs ++ (row k t ∷ [])) ≡ k
    → first_fit (rs ++ (row k false ∷ [])) ≡ 0
unfolding first_fit
last_row k [] t z o e = refl
last_row k (row j true ∷ rs) t z o e = absurd (eqb-false j k (not-true (eqb j k) (both (not (eqb j k)) (lacks k rs) o).0) e)
last_row k (row j false ∷ rs) t z o e = last_row k rs t z (both (not (eqb j k)) (lacks k rs) o).1 e

module _ (n : Node) (s : List ℕ) where
  -- the rows before the last, which alone asks for the room
  early : List Row
  early = take 16 (refusals n s [])

  abbrev x : List ℕ
  x = output n (time_of s) (said_of s)

  all_rows : (b : List ℕ) → refusals n s b ≡ early ++ (row 11 (ltb (length b) (length x)) ∷ [])
  unfolding refusals early
  all_rows b = refl

  others : lacks 11 early ≡ true
  unfolding refusals early
  others = refl

  -- with room for what it writes
  fits_then : (b c : List ℕ) → first_fit (refusals n s b) ≡ 11 → length x ≤ length c → first_fit (refusals n s c) ≡ 0
  fits_then b c e l =
      rw (all_rows c, le-ltb (length c) (length x) l)
      (last_row 11 early (ltb (length b) (length x)) (λ z. omega arith) others (ap first_fit (sym (all_rows b)) ∙ e))

  enough : Held n → Octets s → first_fit (refusals n s roomy) ≡ 11 → ⊥
  unfolding output
  enough h o e =
      let rs = records_of n (time_of s) (said_of s) in
      let ms = mm_records_of n (time_of s) (said_of s) in
      let f = fits_then roomy x e (omega arith) in
      let g = records_good n s x h o f in
      let d = mm_records_good n s x h o f in
      let l : length x ≤ 16416 =
      omega (arith, length-append (octets_of rs) (mmOctetsOf ms), octets_few rs g, mm_octets_few ms d, records_few n (time_of s) (meaning_of (event_of s)) s h) in
      let z = fits_then roomy roomy e (omega (arith, room_size)) in
      omega arith

-- ---- the next event of a file

take_octets : (k : ℕ) (s : List ℕ) → Octets s → Octets (take k s)
take_octets zero s o = tt
take_octets (suc k) [] o = tt
take_octets (suc k) (x ∷ s) o = (o.0, take_octets k s o.1)

taken_answer : (n : Node) (m : ℕ) (r : ℕ × (Node × (ℕ × List ℕ))) → (taken n m r).answer ≡ r.0
taken_answer n m r = by (eqb r.0 0) (λ e. rw e (sym (eqb-true r.0 0 e))) (λ e. rw e)

module _ (n : Node) (s : List ℕ) (o : Octets s) where
  -- 16,416 octets are room enough for what an event writes
  pub room_enough : Held n → (first_of n s).answer ≡ 11 → ⊥
  unfolding first_of
  room_enough h e =
      let v = next_event s in
      enough n v h (take_octets (next_length s) s o) (sym (answered n v roomy) ∙ sym (taken_answer n (next_length s) (step_of n v roomy)) ∙ e)

  first_whole : Whole n → Whole (first_of n s).node
  unfolding first_of
  first_whole w =
      let v = next_event s in
      by (eqb (step_of n v roomy).0 0) (λ e. rw e (step_kept n v roomy w (take_octets (next_length s) s o))) (λ e. rw e w)

-- ---- a whole file, from a node that is sound and as the types have it

then_node : (a b : Done) → Whole a.node → Whole b.node → Whole (and_then a b).node
unfolding and_then
then_node a b u v = by (eqb a.answer 0) (λ e. rw e v) (λ e. rw e u)

then_answer : (k : ℕ) (a b : Done) → (a.answer ≡ k → ⊥) → (b.answer ≡ k → ⊥) → (and_then a b).answer ≡ k → ⊥
unfolding and_then
then_answer k a b u v = by (eqb a.answer 0) (λ e. rw e v) (λ e. rw e u)

in_kept : (k : ℕ) (n : Node) (s : List ℕ) → Octets s → Whole n → Whole (charged_in k n s).node
unfolding charged_in
in_kept zero n s o w = w
in_kept (suc k) n s o w =
    let d = first_of n s in
    let v = first_whole n s o w in
    by (leb 1 (length s))
    (λ e. rw e (then_node d (charged_in k d.node (drop d.came s)) v (in_kept k d.node (drop d.came s) (drop_octets d.came s o) v)))
    (λ e. rw e w)

in_room : (k : ℕ) (n : Node) (s : List ℕ) → Octets s → Whole n → (charged_in k n s).answer ≡ 11 → ⊥
unfolding charged_in
in_room zero n s o w = λ e. omega arith
in_room (suc k) n s o w =
    let d = first_of n s in
    by (leb 1 (length s))
    (λ e.
    rw e
    (then_answer 11 d (charged_in k d.node (drop d.came s)) (room_enough n s o w.held)
    (in_room k d.node (drop d.came s) (drop_octets d.came s o) (first_whole n s o w))))
    (λ e. rw e (λ z. omega arith))

-- after a file of octets the node is sound
pub charged_kept : (n : Node) (s : List ℕ) → Octets s → Whole n → Whole (charged n s).node
unfolding charged
charged_kept n s o w = in_kept (length s) n s o w

-- and 11 is no answer of it
pub charged_not_11 : (n : Node) (s : List ℕ) → Octets s → Whole n → (charged n s).answer ≡ 11 → ⊥
unfolding charged
charged_not_11 n s o w = in_room (length s) n s o w
