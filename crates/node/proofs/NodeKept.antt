-- Every accepted call keeps the node sound and as the types have it, and each record that it writes is within the rules and reads back.
use mathlib.Core.Path.{◌≡◌, refl, sym, ◌∙◌}
use mathlib.Core.Bool.{true, false, not, ◌||◌}
use mathlib.Core.List.{List, [], ◌∷◌, ◌++◌, map}
use Prim.Native.Nat.{ℕ, ◌+◌, ◌≤◌, ◌<◌}
use native.Mathlib.Omega.{arith}
use lib.Dec.{leb, ltb, eqb}
use lib.ListN.{length}
use borrow.Author.Tests.{le-leb, leb-false, ltb-false, eqb-true, not-false as not-false-true}
use Rattle.limits.specs.Limits.{limits_ok}
use Rattle.limits.specs.Sets.{has_set, set_ok, sets_ok, set_at, is_next}
use Rattle.limits.proofs.Numbers.{limits_in_range, replaced_in_range}
use Rattle.std.specs.Prelude.{Ok}
use Rattle.event.specs.Fields.{time_of}
use Rattle.event.specs.Rows.{row, first_fit, known, rows}
use Rattle.event.specs.Event.{event_of, said_by, decoded}
use Rattle.event.proofs.Firsts.{passed}
use Rattle.context.specs.declared.Context.{Context}
use Rattle.context.specs.Sound.{slots_ok}
use Rattle.context.specs.Context.{no_context}
use Rattle.context.proofs.Sounds.{slot_active}
use Rattle.history.specs.Lists.{All}
use Rattle.history.specs.Slots.{distinct}
use Rattle.history.specs.Table.{slots_after, writes, not_active, is_active, all_taken}
use Rattle.subscriber.specs.Tell.{stood as stayed}
use Rattle.history.proofs.Slots.{neither, stand_all, fill_is, filled_all, filled_length, filled_distinct, pairs_length}
use Rattle.history.proofs.Hearing.{none_bears_lem}
use Rattle.history.specs.Log.{activates, tells, tells_all, nothing}
use Rattle.node.specs.declared.Node.{Node}
use Rattle.node.specs.Sound.{sound, latest, most_accepted}
use Rattle.node.specs.declared.meaning.Meaning.{Meaning}
use Rattle.node.specs.declared.meaning.Meaning.TheVariants as W
use Rattle.node.specs.Meaning.{meaning_of}
use Rattle.node.specs.Step.{Brought, ToContexts, Words, saying, settled_by, handling, subscribing, taken, stood, slots, places, activated}
use Rattle.node.specs.Step.{node_after, records_of, mm_records_of, output, said_of, unknown_set, other_edition, refusals}
use Rattle.node.specs.Private.Premises.{Due}
use Rattle.node.specs.Held.{Octets, HeldContext, Held, Whole}
use Rattle.node.proofs.Rules.{rules}
use Rattle.node.proofs.RefusalRows.{table_rows, later_rows, parted, numbered_rows, none_fits}
use Rattle.node.proofs.Found.{contexts, apart}
use Rattle.node.proofs.Hearing.{same_exactly, all_settled}
use Rattle.node.proofs.ContextKept.{Fine}
use Rattle.node.proofs.Attached as attached
use Rattle.node.proofs.SubscribersKept.{MmFine, subscribers_kept, mm_fine}
use Rattle.node.proofs.Brings.{AllInRange, NoticesInRange, ReplacesInRange, Fair, fair_said, activated_sound, activated_held}
use Rattle.node.proofs.TableKept.{shapes, Onward, onward_slots, onward_held, onward_distinct, all_stay, all_fine}
use Rattle.node.proofs.Filled.{slots_later, filled_slots}

-- ---- a call that no row of the table refuses

-- what is known of it
pub record Accepts (n : Node) (s b : List ℕ) : Type 0 where
  pub sound : sound n ≡ true
  pub kind : known s ≡ true
  pub said : decoded s ≡ Ok (time_of s, event_of s)
  pub since : n.clock ≤ time_of s
  pub until : time_of s ≤ latest
  pub few : n.accepted < most_accepted
  pub set : unknown_set n.profile.sets (said_of s).set ≡ false
  pub edition : other_edition n.settings (said_of s).replaces ≡ false
  pub known : not_active (handling n.profile) (said_of s).contexts (slots n) ≡ false
  pub new : is_active (handling n.profile) (said_of s).contexts (slots n) ≡ false
  pub room : all_taken (handling n.profile) (said_of s).contexts (slots n) ≡ false
  pub attached : not_active (subscribing n.profile) (said_of s).subscribers (places n) ≡ false
  pub detached : is_active (subscribing n.profile) (said_of s).subscribers (places n) ≡ false
  pub vacant : all_taken (subscribing n.profile) (said_of s).subscribers (places n) ≡ false
  pub fits : length (output n (time_of s) (said_of s)) ≤ length b

is_known : (s : List ℕ) → first_fit (rows s) ≡ 0 → known s ≡ true
unfolding rows
is_known s e =
    let p₁ = passed _ _ _ (omega arith) e in
    let p₂ = passed _ _ _ (omega arith) p₁.rest in
    not-false-true (known s) (passed _ _ _ (omega arith) p₂.rest).fails

said_what : (s : List ℕ) → first_fit (rows s) ≡ 0 → decoded s ≡ Ok (time_of s, event_of s)
unfolding decoded said_by
said_what s z = rw z

module _ (n : Node) (s b : List ℕ) where
  pub accepts : first_fit (refusals n s b) ≡ 0 → Accepts n s b
  unfolding later_rows table_rows
  accepts e =
      let t = time_of s in
      let w = said_of s in
      let r₁₁ = row 11 (ltb (length b) (length (output n t w))) ∷ [] in
      let r₁₇ = row 17 (all_taken (subscribing n.profile) w.subscribers (places n)) ∷ r₁₁ in
      let r₁₅ = row 15 (is_active (subscribing n.profile) w.subscribers (places n)) ∷ r₁₇ in
      let r₁₆ = row 16 (not_active (subscribing n.profile) w.subscribers (places n)) ∷ r₁₅ in
      let r₁₀ = row 10 (all_taken (handling n.profile) w.contexts (slots n)) ∷ r₁₆ in
      let r₉ = row 9 (is_active (handling n.profile) w.contexts (slots n)) ∷ r₁₀ in
      let r₈ = row 8 (not_active (handling n.profile) w.contexts (slots n)) ∷ r₉ in
      let r₁₉ = row 19 (other_edition n.settings w.replaces) ∷ r₈ in
      let r₁₈ = row 18 (unknown_set n.profile.sets w.set) ∷ r₁₉ in
      let r₇ = row 7 (leb most_accepted n.accepted) ∷ r₁₈ in
      let r₆ = row 6 (ltb latest t || ltb t n.clock) ∷ r₇ in
      let p₁₃ = passed 13 (not (sound n)) (rows s ++ r₆) (omega arith) (rw (parted n s b) at e) in
      let q = none_fits (rows s) r₆ (numbered_rows s) p₁₃.rest in
      let p₆ = passed 6 (ltb latest t || ltb t n.clock) r₇ (omega arith) q.1 in
      let p₇ = passed 7 (leb most_accepted n.accepted) r₁₈ (omega arith) p₆.rest in
      let p₁₈ = passed 18 (unknown_set n.profile.sets w.set) r₁₉ (omega arith) p₇.rest in
      let p₁₉ = passed 19 (other_edition n.settings w.replaces) r₈ (omega arith) p₁₈.rest in
      let p₈ = passed 8 (not_active (handling n.profile) w.contexts (slots n)) r₉ (omega arith) p₁₉.rest in
      let p₉ = passed 9 (is_active (handling n.profile) w.contexts (slots n)) r₁₀ (omega arith) p₈.rest in
      let p₁₀ = passed 10 (all_taken (handling n.profile) w.contexts (slots n)) r₁₆ (omega arith) p₉.rest in
      let p₁₆ = passed 16 (not_active (subscribing n.profile) w.subscribers (places n)) r₁₅ (omega arith) p₁₀.rest in
      let p₁₅ = passed 15 (is_active (subscribing n.profile) w.subscribers (places n)) r₁₇ (omega arith) p₁₆.rest in
      let p₁₇ = passed 17 (all_taken (subscribing n.profile) w.subscribers (places n)) r₁₁ (omega arith) p₁₅.rest in
      let p₁₁ = passed 11 (ltb (length b) (length (output n t w))) [] (omega arith) p₁₇.rest in
      let v = neither (ltb latest t) (ltb t n.clock) p₆.fails in
      record {
        sound = not-false-true (sound n) p₁₃.fails;
        kind = is_known s q.0;
        said = said_what s q.0;
        since = ltb-false t n.clock v.1;
        until = ltb-false latest t v.0;
        few = leb-false most_accepted n.accepted p₇.fails;
        set = p₁₈.fails;
        edition = p₁₉.fails;
        known = p₈.fails;
        new = p₉.fails;
        room = p₁₀.fails;
        attached = p₁₆.fails;
        detached = p₁₅.fails;
        vacant = p₁₇.fails;
        fits = ltb-false (length b) (length (output n t w)) p₁₁.fails;
      }

-- ---- the sets of limits

-- an activation of a set that the node has brings limits in range
record OpensWell (n : Node) (b : Brought) : Type 0 where
  set : has_set n.profile.sets b.set ≡ true
  limits : limits_ok b.limits ≡ true

abbrev Opens : Node → ToContexts → Type 0
Opens n (activates m b) = OpensWell n (b n.settings)
Opens n (tells m x) = Unit {0}
Opens n (tells_all x) = Unit {0}
Opens n nothing = Unit {0}

module _ (n : Node) (s : List ℕ) (ok : sound n ≡ true) where
  opens_well : (w : Meaning) → unknown_set n.profile.sets (saying w s).set ≡ false → Opens n (saying w s).contexts
  unfolding unknown_set
  opens_well (W.Opens a) u =
      let have = not-false-true (has_set n.profile.sets a.set) u in
      record { set = have; limits = limits_in_range n.profile.sets n.settings.sets a.set (rules n ok).sets have }
  opens_well (W.Tells m x) u = tt
  opens_well (W.TellsAll x) u = tt
  opens_well (W.Attaches k q) u = tt
  opens_well (W.Notifies k x) u = tt
  opens_well (W.Replaces r) u = tt

  -- a set that the node has, replaced by its next edition with limits in range
  sets_after : (w : Meaning) → ReplacesInRange (saying w s).replaces → unknown_set n.profile.sets (saying w s).set ≡ false
      → other_edition n.settings (saying w s).replaces ≡ false
      → sets_ok n.profile.sets (settled_by (saying w s).replaces n.settings).sets ≡ true
  unfolding settled_by unknown_set other_edition set_ok is_next
  sets_after (W.Opens a) f u e = (rules n ok).sets
  sets_after (W.Tells m x) f u e = (rules n ok).sets
  sets_after (W.TellsAll x) f u e = (rules n ok).sets
  sets_after (W.Attaches k q) f u e = (rules n ok).sets
  sets_after (W.Notifies k x) f u e = (rules n ok).sets
  sets_after (W.Replaces r) f u e =
      let edition = (set_at r.set n.settings.sets).edition in
      let z : r.edition ≡ edition + 1 = eqb-true r.edition (edition + 1) (not-false-true (eqb r.edition (edition + 1)) e) in
      replaced_in_range n.profile.sets n.settings.sets r.set (record { edition = r.edition; limits = r.limits }) (rules n ok).sets
      (not-false-true (has_set n.profile.sets r.set) u) (rw (le-leb 1 r.edition (omega arith), f))

-- ---- what it does

module _ (n : Node) (t : ℕ) (ok : sound n ≡ true) (h : Held n) (since : n.clock ≤ t) (until : t ≤ latest) (few : n.accepted < most_accepted) where
  abbrev due : Due n.profile n.settings t
  due = record { clock = n.clock; accepted = n.accepted; profile = (rules n ok).profile; sets = (rules n ok).sets; since = since; until = until; few = few }

  -- the table cs of contexts after it
  record Kept (cs : List Context) : Type 0 where
    slots : slots_ok n.profile.sets n.profile.zone t (n.accepted + 1) cs ≡ true
    names : distinct contexts cs ≡ true
    held : All HeldContext cs
    size : length cs ≡ length n.contexts

  onward_kept : (cs : List Context) → Onward n.profile t (n.accepted + 1) n.contexts cs → Kept cs
  onward_kept cs o = record {
    slots = onward_slots o;
    names = onward_distinct o (sym (apart n.contexts) ∙ (rules n ok).names);
    held = onward_held o;
    size = pairs_length o;
  }

  contexts_kept : (v : ToContexts) → AllInRange n.settings v → Opens n v → is_active (handling n.profile) v (slots n) ≡ false
      → Kept (map stood (slots_after (handling n.profile) n.settings t v (slots n)))
  unfolding is_active activated
  contexts_kept (activates m b) f k new =
      let p = n.profile in
      let r = rules n ok in
      let x = activated p t m (b n.settings) in
      let s = all_settled p.sets p.zone n.clock n.accepted n.contexts (shapes n.contexts h.contexts) r.slots in
      let g = fill_is taken no_context x n.contexts s in
      let a = activated_sound p t m (b n.settings) f k.set k.limits n.accepted in
      record {
        slots = filled_slots p.sets p.zone t (n.accepted + 1) g (slot_active p.sets p.zone t (n.accepted + 1) x refl ∙ a)
            (slots_later p.sets p.zone n.clock n.accepted t (n.accepted + 1) since (omega arith) n.contexts r.slots);
        names = filled_distinct contexts same_exactly no_context g (none_bears_lem (handling p) taken m n.contexts new) (sym (apart n.contexts) ∙ r.names);
        held = filled_all taken no_context HeldContext g (activated_held p t m (b n.settings) f) h.contexts;
        size = filled_length taken no_context g;
      }
  contexts_kept (tells m x) f k new = onward_kept _ (all_stay n.profile n.settings t due h.profile (tells m x) f n.contexts (rules n ok).slots h.contexts)
  contexts_kept (tells_all x) f k new = onward_kept _ (all_stay n.profile n.settings t due h.profile (tells_all x) f n.contexts (rules n ok).slots h.contexts)
  contexts_kept nothing f k new =
      let p = n.profile in
      let r = rules n ok in
      rw (stand_all taken no_context n.contexts
      (all_settled p.sets p.zone n.clock n.accepted n.contexts (shapes n.contexts h.contexts) r.slots))
      (record {
        slots = slots_later p.sets p.zone n.clock n.accepted t (n.accepted + 1) since (omega arith) n.contexts r.slots;
        names = sym (apart n.contexts) ∙ r.names;
        held = h.contexts;
        size = refl;
      })

  node_kept : (w : Words) → Fair n.settings w → Opens n w.contexts
      → sets_ok n.profile.sets (settled_by w.replaces n.settings).sets ≡ true → is_active (handling n.profile) w.contexts (slots n) ≡ false
      → is_active (subscribing n.profile) w.subscribers (places n) ≡ false → Whole (node_after n t w)
  unfolding node_after sound
  node_kept w f op sets new come =
      let r = rules n ok in
      let c = contexts_kept w.contexts f.contexts op new in
      let s = subscribers_kept n.profile n.settings t due h.profile n.subscribers r.places (sym (attached.apart n.subscribers) ∙ r.imsis) h.subscribers
      w.subscribers f.subscribers come in
      record {
        sound = rw (
          r.profile,
          sets,
          le-leb t latest until,
          le-leb (n.accepted + 1) most_accepted (omega arith),
          apart (map stood (slots_after (handling n.profile) n.settings t w.contexts (slots n))) ∙ c.names,
          c.slots,
          attached.apart (map stayed (slots_after (subscribing n.profile) tt t w.subscribers (places n))) ∙ s.names,
          s.slots,
        );
        held = record {
          profile = h.profile;
          size = c.size ∙ h.size;
          contexts = c.held;
          places = s.size ∙ h.places;
          subscribers = s.held;
        };
      }

  records_fine : (w : Words) → AllInRange n.settings w.contexts → All Fine (records_of n t w)
  unfolding records_of
  records_fine w f = go w.contexts f
    where
      go : (v : ToContexts) → AllInRange n.settings v → All Fine (writes (handling n.profile) n.settings t v (slots n))
      go (activates m b) f = tt
      go (tells m x) f = all_fine n.profile n.settings t due h.profile (tells m x) f n.contexts (rules n ok).slots h.contexts
      go (tells_all x) f = all_fine n.profile n.settings t due h.profile (tells_all x) f n.contexts (rules n ok).slots h.contexts
      go nothing f = tt

  mm_records_fine : (w : Words) → NoticesInRange w.subscribers → All MmFine (mm_records_of n t w)
  unfolding mm_records_of
  mm_records_fine w f =
      let r = rules n ok in
      mm_fine n.profile n.settings t due h.profile n.subscribers r.places (sym (attached.apart n.subscribers) ∙ r.imsis)
      h.subscribers w.subscribers f

-- ---- the theorems

-- An accepted call: no row fits, so the node was sound (13).
module _ (n : Node) (s b : List ℕ) (h : Held n) (o : Octets s) (e : first_fit (refusals n s b) ≡ 0) where
  -- the node stays sound, and as the types have it
  pub sound_kept : Whole (node_after n (time_of s) (said_of s))
  sound_kept =
      let a = accepts n s b e in
      node_kept n (time_of s) a.sound h a.since a.until a.few (said_of s) (fair_said n.settings s (event_of s) o a.said)
      (opens_well n s a.sound (meaning_of (event_of s)) a.set)
      (sets_after n s a.sound (meaning_of (event_of s)) (fair_said n.settings s (event_of s) o a.said).replaces a.set a.edition) a.new a.detached

  -- every record that it writes is within the rules and as the types have it, reads back, and does not pass 1,024 octets
  pub records_good : All Fine (records_of n (time_of s) (said_of s))
  records_good =
      let a = accepts n s b e in
      records_fine n (time_of s) a.sound h a.since a.until a.few (said_of s) (fair_said n.settings s (event_of s) o a.said).contexts

  pub mm_records_good : All MmFine (mm_records_of n (time_of s) (said_of s))
  mm_records_good =
      let a = accepts n s b e in
      mm_records_fine n (time_of s) a.sound h a.since a.until a.few (said_of s) (fair_said n.settings s (event_of s) o a.said).subscribers
