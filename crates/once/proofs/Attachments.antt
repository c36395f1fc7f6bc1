-- Demand 3, attachment by attachment, over the octets: the theorem.
use mathlib.Core.Path.{◌≡◌, refl, sym, ap, ◌∙◌}
use mathlib.Core.Bool.{Bool, true, false, cond}
use Rattle.std.specs.Prelude.{None, Some}
use mathlib.Core.List.{List, [], ◌∷◌, ◌++◌, map, append-nil}
use Prim.Native.Nat.{ℕ, suc}
use native.Mathlib.Omega.{arith}
use lib.Dec.{leb}
use Rattle.format.proofs.Tests.{by}
use Rattle.ber.specs.Field.{or_zero}
use Rattle.mcdr.specs.declared.Place.{Place}
use Rattle.mcdr.specs.Change.{same_place}
use Rattle.mcdr.specs.Changes.{place_now}
use Rattle.mcdr.specs.Rules.{used}
use Rattle.mcdr.proofs.Order.{place_more}
use Rattle.mcdr.proofs.Padded.{take_padded}
use Rattle.profile.specs.declared.Profile.{Profile}
use Rattle.profile.specs.Profile.{profile_ok}
use Rattle.subscriber.specs.Subscriber as subscriber
use Rattle.history.specs.Lists.{each, All, NotFalling}
use Rattle.history.specs.History.{History, start, ◌▸◌∶◌, began, began_with}
use Rattle.history.specs.Records.{Rules, Record, Open, entire, in_force, stretches_at, since_opening}
use Rattle.history.specs.Records.{running, stretches, closes, records, ended, leaves}
use Rattle.history.specs.Run.{all_written}
use Rattle.history.specs.Demand.{OnceEach, InTime}
use Rattle.history.proofs.Lists.{each_append, map_map, map_id, each_of_map, all_of_map, all_both, not_falling_whole, none≢some}
use Rattle.history.proofs.Records.{in_force_open, stretches_at_open}
use Rattle.history.proofs.Whole.{all_records}
use Rattle.history.proofs.Everything.{read_one}
use Rattle.node.specs.Sound.{fresh_node}
use Rattle.node.specs.Run.{Call, Given}
use Rattle.node.specs.Held.{HeldProfile}
use Rattle.once.specs.Charging.{time_in}
use Rattle.once.specs.Attaching.{Noted, moved, managed, detached, after, changes_of, rules, location, locations, record_from, subscriber_from, forms}
use Rattle.once.specs.Once.{machine, subscribers, activations}
use Rattle.once.specs.Attachments.{change_at, moves, Attachment, changes_read, closed_at, closed_in, AttachedOnce, PerAttachment}
use Rattle.once.proofs.EachCall.{run_same, log_same}
use Rattle.once.proofs.Notes.{fine}
use Rattle.once.proofs.Once.{every_octet_once}

abbrev R : Rules Place Noted
R = rules

-- ---- the changes of a history are what its stretches list

module _ (p : Profile) where
  cut_is : (h : History Place Noted) (t : ℕ) (e : Noted) → locations p (stretches_at R h t e) ≡ change_at p h t e
  cut_is h t managed = refl
  cut_is h t (detached cause) = refl
  cut_is h t (moved q) =
      let o = in_force_open R h in
      by (same_place (in_force R h) q) (λ e. rw (o, e))
      (λ e. by (leb 15 (suc (changes_of (since_opening R h)))) (λ k. rw (o, e, k)) (λ k. rw (o, e, k)))

  pub moves_are : (h : History Place Noted) → locations p (stretches R h) ≡ moves p h
  moves_are (start t q) = refl
  moves_are (h ▸ t ∶ e) = each_append (location p) (stretches R h) (stretches_at R h t e) ∙ rw (moves_are h, cut_is h t e)

-- ---- one attachment

module _ (p : Profile) (name : ℕ) where
  abbrev attachment : History Place Noted → Attachment
  attachment h = record {
    history = h;
    closed = map (record_from p name) (records R h);
    still_open = cond (ended R h) [] (subscriber_from p name (leaves R h) ∷ []);
  }

  carried : (r : Record Place Noted) → used (record_from p name r) ≡ each (location p) r.stretches
  carried r = take_padded (locations p r.stretches)

  carries : (o : Open Place Noted) → subscriber.used (subscriber_from p name o) ≡ each (location p) o.stretches
  carries o = take_padded (locations p o.stretches)

  read : (h : History Place Noted) → changes_read (attachment h) ≡ locations p (stretches R h)
  read h = read_one R (forms p) name (location p) used subscriber.used carried carries h (ended R h) refl

  -- a record closes where its history then is
  abbrev Ends : Record Place Noted → Type 0
  Ends r = closed_in (record_from p name r) ≡ in_force R (entire r)

  abbrev Reaches : History Place Noted → ℕ → Noted → Type 0
  Reaches h t e =
      place_now (began_with (since_opening R h)) (locations p (stretches R (since_opening R h) ++ stretches_at R h t e)) ≡ after (in_force R (since_opening R h)) e

  reaches_moved : (h : History Place Noted) (t : ℕ) (x : Place) (c : ℕ) → closes R h t (moved x) ≡ Some c → (b : Bool) → same_place (in_force R h) x ≡ b
      → Reaches h t (moved x)
  reaches_moved h t x c q true e = let j : closes R h t (moved x) ≡ None = rw (in_force_open R h, e) in absurd (none≢some (sym j ∙ q))
  reaches_moved h t x c q false e =
      let one : stretches_at R h t (moved x) ≡ record { ran = running R h; time = t; event = moved x; condition = 0 } ∷ [] = rw (q, e) in
      rw (one, each_append) (place_more (record { place = x; time = time_in p t }) (began_with (since_opening R h)) (locations p (stretches R (since_opening R h))))

  reaches : (h : History Place Noted) (t : ℕ) (e : Noted) (c : ℕ) → closes R h t e ≡ Some c → Reaches h t e
  reaches h t managed c q = rw (each_append, append-nil) (fine p h).placed
  reaches h t (detached cause) c q = rw (each_append, append-nil) (fine p h).placed
  reaches h t (moved x) c q = reaches_moved h t x c q _ refl

  ends : (h : History Place Noted) → All Ends (records R h)
  ends = all_records R Ends (λ h t e c q.
      rw (take_padded (locations p (stretches R (since_opening R h) ++ stretches_at R (since_opening R h) t e)), stretches_at_open R h) (reaches h t e c q))

  -- and when it was closed
  abbrev Timed : Record Place Noted → Type 0
  Timed r = NotFalling (began r.past) (map (λ x. x.time) r.stretches) r.time

  lasts : (r : Record Place Noted) → Timed r → closed_at (record_from p name r) ≡ r.time
  lasts r z = let h = not_falling_whole (began r.past) r.time (map (λ x. x.time) r.stretches) z in omega arith

  same_map : {A : Type 0} (P : Record Place Noted → Type 0) (f g : Record Place Noted → A) → ((r : Record Place Noted) → P r → f r ≡ g r)
      → (rs : List (Record Place Noted)) → All P rs → map f rs ≡ map g rs
  same_map P f g k [] a = refl
  same_map P f g k (r ∷ rs) a = rw (k r a.0, same_map P f g k rs a.1)

  charged_once : (h : History Place Noted) → OnceEach R h × InTime R h → AttachedOnce p name (attachment h)
  charged_once h (o, z) = record {
    made = refl;
    left = refl;
    changes = read h ∙ moves_are p h;
    numbered = map_map (λ r. r.number) (record_from p name) (records R h) ∙ sym (map_map or_zero (λ r. r.number) (records R h)) ∙ ap (map or_zero) o.numbered;
    when =
        rw (map_map (λ r. r.opening.seconds) (record_from p name) (records R h), map_map closed_at (record_from p name) (records R h))
        (o.opened
        ∙ ap (λ (l : List ℕ). began h ∷ l) (sym (same_map Timed (λ r. closed_at (record_from p name r)) (λ r. r.time) lasts (records R h) z.in_records)));
    where_to =
        rw (map_map (λ r. r.place) (record_from p name) (records R h), map_map closed_in (record_from p name) (records R h))
        (o.opened_with ∙ ap (λ (l : List Place). began_with h ∷ l)
        (sym (same_map Ends (λ r. closed_in (record_from p name r)) (λ r. in_force R (entire r)) (λ r e. e) (records R h) (ends h))));
  }

-- ---- all of a name's

-- For every profile in range that the code can hold, all calls, of one event with octets for it and of lists of reports, and every name.
pub each_attachment_once : (p : Profile) → profile_ok p ≡ true → HeldProfile p → (calls : List Call) → All Given calls
    → (name : ℕ) → PerAttachment p calls name
each_attachment_once p ok h calls octets name =
    let o = every_octet_once p ok in
    let d = o.mobility.demand calls name in
    let hs = activations (subscribers p) p calls name in
    let same_log = log_same o.records_by calls (fresh_node p) in
    record {
      output = all_written (machine o.records_by) (fresh_node p) calls;
      read = o.reads h calls octets;
      one_each = map (attachment p name) hs;
      histories = map_map (λ a. a.history) (attachment p name) hs ∙ map_id hs;
      closed_under = rw same_log at d.closed ∙ sym (each_of_map (λ a. a.closed) (attachment p name) hs);
      open_under =
          rw (run_same o.records_by calls (fresh_node p), same_log) at d.open_now
          ∙ sym (each_of_map (λ a. a.still_open) (attachment p name) hs);
      charged = all_of_map (λ a. OnceEach R a × InTime R a) (AttachedOnce p name) (attachment p name) (charged_once p name) hs
          (all_both (OnceEach R) (InTime R) hs (rw same_log at d.once) (rw same_log at d.in_time));
    }
