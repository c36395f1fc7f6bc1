-- The node's calls serve both tables, of contexts and of subscribers: what each does to the slots and writes is what the handling says of the events that it
-- applied. The profile stands apart, since no call changes it.
use mathlib.Core.Path.{◌≡◌, refl, ap, ◌∙◌}
use mathlib.Core.Bool.{true}
use mathlib.Core.List.{List, [], ◌∷◌, map, append-nil}
use Rattle.std.specs.Prelude.{Option}
use Prim.Native.Nat.{ℕ}
use native.Mathlib.Omega.{arith}
use lib.Dec.{eqb}
use Rattle.format.proofs.Tests.{by}
use Rattle.scdr.specs.declared.Record as scdr
use Rattle.profile.specs.declared.Profile.{Profile}
use Rattle.event.specs.declared.Name.{Name}
use Rattle.event.specs.Fields.{kind_of, time_of, subscriber_imsi}
use Rattle.mcdr.specs.declared.Place.{Place}
use Rattle.mcdr.specs.declared.MmRecord.{MmRecord}
use Rattle.cdrs.specs.Cdr.{Cdr, pdp, mm}
use Rattle.subscriber.specs.declared.Subscriber.{Subscriber}
use Rattle.subscriber.specs.Subscriber.{taken as isAttached}
use Rattle.subscriber.specs.Tell.{stood as stayed}
use Rattle.context.specs.declared.Context.{Context}
use Rattle.history.specs.Lists.{each}
use Rattle.history.specs.Log.{Said}
use Rattle.history.specs.Slots as S
use Rattle.history.specs.Table as table
use Rattle.history.specs.Run.{Machine, run, all_written, log}
use Rattle.history.specs.Demand.{Sight}
use Rattle.history.proofs.Lists.{each_append, each_picks, each_passes}
use Rattle.history.proofs.Tables.{admits}
use Rattle.history.proofs.Runs.{Outcome, did, refused, Serves, serves, OneByOne, serves_too}
use Rattle.node.specs.declared.Node.{Node}
use Rattle.node.specs.declared.Settings.{Settings}
use Rattle.node.specs.Step as step
use Rattle.node.specs.Run.{Call}
use Rattle.node.proofs.Singles.{One, got}
use Rattle.once.specs.Charging.{says, settles}
use Rattle.once.specs.Attaching as attaching
use Rattle.once.specs.Attaching.{Noted}
use Rattle.once.specs.Once.{node_now, machine, sessions, sight, mobility, mm_sight}
use Rattle.once.proofs.Handles.{handling, after_alike, writes_alike, admitted, seen_after}
use Rattle.once.proofs.Enrolls as enrolls
use Rattle.once.proofs.Enrolls.{enrolling, imsi_right}
use Rattle.once.proofs.Steps.{meant, says_alike, wrote_one, Takes, called, no_zero, wrote_some, wrote_none, profile_kept}
use Rattle.once.proofs.Calls.{single, ones, wrote, node_is, events_are, wrote_is}

-- ---- an accepted call, of any node

module _ (n : Node) (c : One) (z : Takes n c) where
  abbrev s : List ℕ
  s = c.event

  abbrev p : Profile
  p = n.profile

  is_said : step.said_of s ≡ meant p s
  is_said = says_alike p s z.fits.kind

  pub clock_is : (got n c).1.0.clock ≡ time_of s
  unfolding step.node_after
  clock_is = ap (λ (m : Node). m.clock) z.node

  -- what the node is set to
  pub settings_are : (got n c).1.0.settings ≡ settles n.settings s
  unfolding step.node_after step.settled_by settles
  settings_are =
      ap (λ (m : Node). m.settings) z.node ∙ ap (λ (v : step.Words). step.settled_by v.replaces n.settings) is_said
      ∙ by (eqb (kind_of s) 12) (λ e. rw e) (λ e. rw e)

  -- contexts

  pub admits_it : admits (handling p) (says s) (step.slots n) ≡ true
  admits_it = admitted p (says s) (step.slots n) (rw is_said at z.fits.known) (rw is_said at z.fits.new) (rw is_said at z.fits.room)

  contexts_after : (got n c).1.0.contexts ≡ map step.stood (table.slots_after (handling p) n.settings (time_of s) (says s) (step.slots n))
  unfolding step.node_after
  contexts_after =
      ap (λ (m : Node). m.contexts) z.node
      ∙ ap (λ (v : step.Words). map step.stood (table.slots_after (step.handling p) n.settings (time_of s) v.contexts (step.slots n))) is_said
      ∙ ap (λ (os : List (Option Context)). map step.stood os) (after_alike p n.settings (time_of s) (says s) (step.slots n))

  pub slots_are : step.slots (got n c).1.0 ≡ table.slots_after (handling p) n.settings (time_of s) (says s) (step.slots n)
  slots_are = ap (λ (cs : List Context). map step.seen cs) contexts_after ∙ seen_after p n.settings (time_of s) (says s) n.contexts

  sessions_are : each sessions (wrote_one n c) ≡ step.records_of n (time_of s) (step.said_of s)
  sessions_are =
      rw (wrote_some n c z)
      (each_append sessions (map pdp (step.records_of n (time_of s) (step.said_of s))) (map mm (step.mm_records_of n (time_of s) (step.said_of s)))
      ∙ rw (
        each_picks sessions pdp (λ r. refl) (step.records_of n (time_of s) (step.said_of s)),
        each_passes sessions mm (λ r. refl) (step.mm_records_of n (time_of s) (step.said_of s)),
      ) (append-nil (step.records_of n (time_of s) (step.said_of s))))

  pub wrote_so : each sessions (wrote_one n c) ≡ table.writes (handling p) n.settings (time_of s) (says s) (step.slots n)
  unfolding step.records_of
  wrote_so =
      sessions_are
      ∙ ap (λ (v : step.Words). table.writes (step.handling p) n.settings (time_of s) v.contexts (step.slots n)) is_said
      ∙ writes_alike p n.settings (time_of s) (says s) (step.slots n)

  -- subscribers

  abbrev w : Said (Unit {0}) ℕ Place Noted
  w = attaching.says s

  pub mm_admits_it : admits (enrolling p) w (step.places n) ≡ true
  mm_admits_it =
      enrolls.admitted p (subscriber_imsi s) w (step.places n) (rw is_said at z.fits.attached) (rw is_said at z.fits.detached)
      (rw is_said at z.fits.vacant)

  subscribers_after : (got n c).1.0.subscribers ≡ map stayed (table.slots_after (enrolling p) tt (time_of s) w (step.places n))
  unfolding step.node_after
  subscribers_after =
      ap (λ (m : Node). m.subscribers) z.node
      ∙ ap (λ (v : step.Words). map stayed (table.slots_after (step.subscribing p) tt (time_of s) v.subscribers (step.places n))) is_said
      ∙ ap (λ (os : List (Option Subscriber)). map stayed os)
      (enrolls.after_alike p (subscriber_imsi s) (time_of s) w (step.places n) (imsi_right p s z.fits.said))

  pub places_are : step.places (got n c).1.0 ≡ table.slots_after (enrolling p) tt (time_of s) w (step.places n)
  places_are = ap (λ (ss : List Subscriber). map (S.seen isAttached) ss) subscribers_after ∙ enrolls.seen_after p (time_of s) w n.subscribers

  mobility_is : each mobility (wrote_one n c) ≡ step.mm_records_of n (time_of s) (step.said_of s)
  mobility_is =
      rw (wrote_some n c z)
      (each_append mobility (map pdp (step.records_of n (time_of s) (step.said_of s))) (map mm (step.mm_records_of n (time_of s) (step.said_of s)))
      ∙ rw (
        each_passes mobility pdp (λ r. refl) (step.records_of n (time_of s) (step.said_of s)),
        each_picks mobility mm (λ r. refl) (step.mm_records_of n (time_of s) (step.said_of s)),
      ))

  pub mm_wrote_so : each mobility (wrote_one n c) ≡ table.writes (enrolling p) tt (time_of s) w (step.places n)
  unfolding step.mm_records_of
  mm_wrote_so =
      mobility_is
      ∙ ap (λ (v : step.Words). table.writes (step.subscribing p) tt (time_of s) v.subscribers (step.places n)) is_said
      ∙ enrolls.writes_alike p (subscriber_imsi s) (time_of s) w (step.places n)

-- ---- a node without its profile

pub record State : Type 0 where
  pub settings : Settings
  pub clock : ℕ
  pub accepted : ℕ
  pub contexts : List Context
  pub subscribers : List Subscriber

abbrev pub state : Node → State
state n = record { settings = n.settings; clock = n.clock; accepted = n.accepted; contexts = n.contexts; subscribers = n.subscribers }

module _ (p : Profile) where
  abbrev pub node : State → Node
  node a = record { profile = p; settings = a.settings; clock = a.clock; accepted = a.accepted; contexts = a.contexts; subscribers = a.subscribers }

  -- a machine of nodes with this profile
  module _ {I : Type 0} (X : Machine Node I (List ℕ) Cdr) where
    abbrev pub apart : Machine State I (List ℕ) Cdr
    apart = record {
      holds = X.holds;
      applies = λ a i. X.applies (node a) i;
      after = λ a i. state (X.after (node a) i);
      writes = λ a i. X.writes (node a) i;
    }

    -- does the same where no call changes it
    module _ (kept : (n : Node) (i : I) → (X.after n i).profile ≡ n.profile) where
      node_after_lem : (a : State) (i : I) → X.after (node a) i ≡ node (apart.after a i)
      node_after_lem a i =
          let q = kept (node a) i in
          let n = X.after (node a) i in
          λ j. record { profile = q j; settings = n.settings; clock = n.clock; accepted = n.accepted; contexts = n.contexts; subscribers = n.subscribers }

      pub run_is : (is : List I) (a : State) → run X (node a) is ≡ node (run apart a is)
      run_is [] a = refl
      run_is (i ∷ is) a = rw (node_after_lem a i) (run_is is (apart.after a i))

      pub written_is : (is : List I) (a : State) → all_written X (node a) is ≡ all_written apart a is
      written_is [] a = refl
      written_is (i ∷ is) a = rw (node_after_lem a i, written_is is (apart.after a i))

      pub log_is : (is : List I) (a : State) → log X (node a) is ≡ log apart a is
      log_is [] a = refl
      log_is (i ∷ is) a = rw (node_after_lem a i, log_is is (apart.after a i))

  abbrev pub view : Sight Name Context scdr.Record State Cdr
  view = record { slots = λ a. step.slots (node a); name = sight.name; kindred = sight.kindred; name_of = sight.name_of }

  abbrev pub mm_view : Sight ℕ Subscriber MmRecord State Cdr
  mm_view = record { slots = λ a. step.places (node a); name = mm_sight.name; kindred = mm_sight.kindred; name_of = mm_sight.name_of }

  -- ---- calls of one event

  outcome : (a : State) (c : One) → Outcome (handling p) view (apart single) (λ b. b.settings) (λ b. b.clock) a c
  outcome a c = called (node a) c
      (λ z. did (record { time = time_of c.event; event = c.event }) (record {
        events = rw z.answers;
        admitted = admits_it (node a) c z;
        since = z.fits.since;
        clock_after = omega (arith, clock_is (node a) c z);
        slots_after_lem = slots_are (node a) c z;
        settings_after_lem = settings_are (node a) c z;
        wrote = wrote_so (node a) c z;
      }))
      (λ z. refused (record {
        events = no_zero (got (node a) c).0 _ z.answers;
        kept = ap state z.node;
        silent = wrote_none (node a) c z;
      }))

  mm_outcome : (a : State) (c : One) → Outcome (enrolling p) mm_view (apart single) (λ b. tt) (λ b. b.clock) a c
  mm_outcome a c = called (node a) c
      (λ z. did (record { time = time_of c.event; event = c.event }) (record {
        events = rw z.answers;
        admitted = mm_admits_it (node a) c z;
        since = z.fits.since;
        clock_after = omega (arith, clock_is (node a) c z);
        slots_after_lem = places_are (node a) c z;
        settings_after_lem = refl;
        wrote = mm_wrote_so (node a) c z;
      }))
      (λ z. refused (record {
        events = no_zero (got (node a) c).0 _ z.answers;
        kept = ap state z.node;
        silent = wrote_none (node a) c z;
      }))

  -- ---- all calls

  abbrev pub calls : Machine State Call (List ℕ) Cdr
  calls = apart (machine wrote)

  -- of either kind
  module _ {G N S E C B : Type 0} (K : table.Handling G N S E (List ℕ) C B) (L : Sight N C B State Cdr) (settings : State → G)
      (named : (c : C) → K.name c ≡ L.name c) (out : (a : State) (c : One) → Outcome K L (apart single) settings (λ b. b.clock) a c) where
    one_by_one_lem : (a : State) (c : Call) → OneByOne K L settings (λ b. b.clock) calls (apart single) a c
    one_by_one_lem a c =
        let n = node a in
        record {
          calls = ones n c;
          events = events_are n c ∙ log_is single profile_kept (ones n c) a;
          node = ap state (node_is n c ∙ run_is single profile_kept (ones n c) a);
          wrote = wrote_is n c ∙ written_is single profile_kept (ones n c) a;
        }

    serve : Serves K L calls settings (λ b. b.clock)
    serve = serves_too K L settings (λ b. b.clock) calls (apart single)
        (serves K L (apart single) settings (λ b. b.clock) named out) one_by_one_lem

  pub served : Serves (handling p) view calls (λ b. b.settings) (λ b. b.clock)
  served = serve (handling p) view (λ b. b.settings) (λ c. refl) outcome

  pub mm_served : Serves (enrolling p) mm_view calls (λ b. tt) (λ b. b.clock)
  mm_served = serve (enrolling p) mm_view (λ b. tt) (λ c. refl) mm_outcome

-- no call changes the profile
pub all_kept : (n : Node) (c : Call) → (node_now n c).profile ≡ n.profile
all_kept n c = ap (λ (m : Node). m.profile) (node_is n c ∙ run_is n.profile single profile_kept (ones n c) (state n))
