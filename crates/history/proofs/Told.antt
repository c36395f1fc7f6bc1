-- Over any accepted events, a table of a sound kind holds under a name what the histories of that name leave, and has written
-- what they make.
use Prim.Native.Nat.{ℕ, ◌+◌}
use mathlib.Core.Path.{◌≡◌, refl, sym, ◌∙◌}
use mathlib.Core.Bool.{Bool, true, false, not, cond, false≢true}
use mathlib.Core.List.{List, [], ◌∷◌, ◌++◌, map, append_assoc, append-nil, cons≢nil}
use Rattle.std.specs.Prelude.{Option, None, Some}
use native.Mathlib.Nat.{zero-add}
use native.Mathlib.Omega.{arith}
use Rattle.history.specs.Lists.{each, sum_of, All, Earlier}
use Rattle.history.specs.History.{History, start, ◌▸◌∶◌, total}
use Rattle.history.specs.Records.{Rules, in_force, records, ended, leaves}
use Rattle.history.specs.Log.{Accepted, Said, activates, tells, tells_all, nothing, Meaning, heard, grow, follow, starts_by, histories, reports, reported}
use Rattle.history.specs.Table.{Handling, fill, free, active, hears, listen, slots_hear, slots_write, slots_after, writes, table, output}
use Rattle.history.specs.Demand.{Forms}
use Rattle.history.proofs.Lists.{each_append, map_append, map_map, map_id, sum_of_append, cond_same, both, not-true}
use Rattle.history.proofs.Tables.{
  content,
  content_cond,
  under_append,
  named,
  of_name,
  named_hear,
  of_name_hear,
  unheard_slots,
  unheard_out,
  inactive,
  named_active,
  named_fill_other,
  named_fill,
  admits,
  Sound,
}

-- Each event of these is admitted where it comes.
abbrev pub Admitted : {G N S E W C B : Type 0} → Handling G N S E W C B → G → List (Option C) → List (Accepted W) → Type 0
Admitted K g os [] = Unit {0}
Admitted K g os (c ∷ cs) = (admits K (K.says c.event) os ≡ true)
    × Admitted K (K.settles g c.event) (slots_after K g c.time (K.says c.event) os) cs

module _ {G N S E W C B : Type 0} (R : Rules S E) (D : Meaning G N S E W) (F : Forms N S E C B) (K : Handling G N S E W C B)
    (name_of : B → N) (known : S → G) (X : Sound R D F K name_of known) (n : N) where
  abbrev H : Type 0
  H = History S E

  abbrev grow' : Accepted W → H → H
  grow' c h = grow R D n c h

  abbrev starts_by' : G → ℕ → Said G N S E → List H
  starts_by' g t w = starts_by R D n g t w

  abbrev follow' : List (Accepted W) → H → H
  follow' cs h = follow R D n cs h

  abbrev named' : List (Option C) → List C
  named' os = named K name_of n os

  -- what a history makes and leaves
  abbrev pub made : H → List B
  made h = map (F.as_written n) (records R h)

  abbrev pub left : H → List C
  left h = cond (ended R h) [] (F.as_stored n (leaves R h) ∷ [])

  -- what the node hears is what is in the history
  hears_heard : (w : Said G N S E) → hears K n w ≡ heard R D n w
  hears_heard (activates m s) = refl
  hears_heard (tells m e) = rw (X.same_meant n m)
  hears_heard (tells_all e) = refl
  hears_heard nothing = refl

  -- ---- the histories, gathered event by event

  abbrev gathered : G → List H → List (Accepted W) → List H
  gathered g hs [] = hs
  gathered g hs (c ∷ cs) = gathered (K.settles g c.event) (map (grow' c) hs ++ starts_by' g c.time (K.says c.event)) cs

  gathered_all : (cs : List (Accepted W)) (g : G) (hs : List H) → gathered g hs cs ≡ map (follow' cs) hs ++ histories R D n g cs
  gathered_all [] g hs = sym (append-nil _ ∙ map_id hs)
  gathered_all (c ∷ cs) g hs =
      gathered_all cs (K.settles g c.event) (map (grow' c) hs ++ starts_by' g c.time (K.says c.event))
      ∙ rw (map_append, map_map, append_assoc, X.settles_meant g c.event, X.says_meant c.event)

  -- ---- histories that have ended stay as they are

  abbrev Ended : H → Type 0
  Ended h = ended R h ≡ true

  ended_append : (a b : List H) → All Ended a → All Ended b → All Ended (a ++ b)
  ended_append [] b p q = q
  ended_append (h ∷ hs) b p q = (p.0, ended_append hs b p.1 q)

  grow_ended : (c : Accepted W) (hs : List H) → All Ended hs → map (grow' c) hs ≡ hs
  grow_ended c [] p = refl
  grow_ended c (h ∷ hs) p = rw (p.0, grow_ended c hs p.1)

  left_ended : (hs : List H) → All Ended hs → each left hs ≡ []
  left_ended [] p = refl
  left_ended (h ∷ hs) p = rw p.0 (left_ended hs p.1)

  -- ---- the last history

  abbrev opt : Option H → List H
  opt None = []
  opt (Some h) = h ∷ []

  abbrev grew : Accepted W → Option H → Option H
  grew c None = None
  grew c (Some h) = Some (grow' c h)

  map_opt : (c : Accepted W) (o : Option H) → map (grow' c) (opt o) ≡ opt (grew c o)
  map_opt c None = refl
  map_opt c (Some h) = refl

  abbrev left_of : Option H → List C
  left_of o = each left (opt o)

  -- it knows the settings
  abbrev Knows : G → Option H → Type 0
  Knows g None = Unit {0}
  Knows g (Some h) = ended R h ≡ false → known (in_force R h) ≡ g

  record Grows (g : G) (c : Accepted W) (w : Said G N S E) (o : Option H) (os : List (Option C)) : Type 0 where
    now : named' (slots_hear K g c.time w os) ≡ left_of (grew c o)
    wrote : each made (opt (grew c o)) ≡ each made (opt o) ++ of_name K name_of n (slots_write K g c.time w os)
    knows : Knows (K.settles g c.event) (grew c o)

  module _ (g : G) (c : Accepted W) (w : Said G N S E) (meant : D.says c.event ≡ w) (os : List (Option C)) where
    abbrev hear_slots : named' (slots_hear K g c.time w os) ≡ each (λ x. content (listen K g x c.time (hears K (K.name x) w)).next) (named' os)
    hear_slots = named_hear K name_of X.bears g c.time w n os

    abbrev hear_out : of_name K name_of n (slots_write K g c.time w os) ≡ each (λ x. (listen K g x c.time (hears K (K.name x) w)).out) (named' os)
    hear_out = of_name_hear K name_of X.bears g c.time w n os

    grows_hearing : (h : H) (o : Option E) → ended R h ≡ false → heard R D n w ≡ o → known (in_force R h) ≡ g
        → named' os ≡ F.as_stored n (leaves R h) ∷ [] → Grows g c w (Some h) os
    grows_hearing h None f i s p = record {
      now = hear_slots ∙ rw (p, X.stored_name n (leaves R h), hears_heard w, f, meant, i, f);
      wrote = rw (hear_out, p, X.stored_name n (leaves R h), hears_heard w, f, meant, i) (simp append-nil);
      knows = rw (f, meant, i) (λ k. s ∙ sym (X.settles_meant g c.event ∙ X.settings_unheard n g c.event (rw (meant, i))));
    }
    grows_hearing h (Some e) f i s p = record {
      now = hear_slots ∙ rw (p, X.stored_name n (leaves R h), hears_heard w, f, meant, i, ← s, X.hears_told n h c.time e, content_cond);
      wrote = rw (hear_out, p, X.stored_name n (leaves R h), hears_heard w, f, meant, i, ← s, X.hears_told n h c.time e, map_append) (simp append-nil);
      knows = rw (f, meant, i) (λ k. X.settings_heard n (in_force R h) c.event e (rw (meant, i)) ∙ rw (s, X.settles_meant g c.event));
    }

    grows_last : (h : H) (b : Bool) → ended R h ≡ b → Knows g (Some h) → named' os ≡ left_of (Some h) → Grows g c w (Some h) os
    grows_last h true f s p =
        let e : named' os ≡ [] = p ∙ rw f in
        record {
          now = hear_slots ∙ rw (e, f, f);
          wrote = rw (hear_out, e, f) (simp append-nil);
          knows = rw f (λ k. absurd (false≢true (sym k ∙ f)));
        }
    grows_last h false f s p = grows_hearing h (heard R D n w) f refl (s f) (p ∙ rw f)

    grows : (o : Option H) → Knows g o → named' os ≡ left_of o → Grows g c w o os
    grows None s p = record { now = hear_slots ∙ rw p; wrote = rw (hear_out, p); knows = tt }
    grows (Some h) s p = grows_last h (ended R h) refl s p

  -- ---- one accepted event

  -- hs are the histories so far: all but the last have ended, and the table holds under n what the last leaves.
  record Tracks (g : G) (os : List (Option C)) (hs : List H) : Type 0 where
    olds : List H
    cur : Option H
    split : hs ≡ olds ++ opt cur
    done : All Ended olds
    knows : Knows g cur
    now : named' os ≡ left_of cur

  record Next (g g' : G) (os os' : List (Option C)) (hs hs' : List H) (rs : List B) : Type 0 where
    tracks : Tracks g' os' hs'
    wrote : each made hs' ≡ each made hs ++ of_name K name_of n rs

  -- no activation: the last history grows
  next_heard : (g : G) (c : Accepted W) (w : Said G N S E) (os : List (Option C)) (hs : List H) → D.says c.event ≡ w
      → Tracks g os hs
      → Next g (K.settles g c.event) os (slots_hear K g c.time w os) hs (map (grow' c) hs ++ []) (slots_write K g c.time w os)
  next_heard g c w os hs m k =
      let i = grows g c w m os k.cur k.knows k.now in
      let e : map (grow' c) hs ++ [] ≡ k.olds ++ opt (grew c k.cur)
      = rw (append-nil, k.split, map_append, grow_ended c k.olds k.done, map_opt) in
      record {
        tracks = record { olds = k.olds; cur = grew c k.cur; split = e; done = k.done; knows = i.knows; now = i.now };
        wrote = rw (e, k.split) (each_append made k.olds (opt (grew c k.cur)) ∙ rw (i.wrote, ← append_assoc, each_append));
      }

  -- an activation is heard by none
  unheard : (c : Accepted W) → heard R D n (D.says c.event) ≡ None → (hs : List H) → map (grow' c) hs ≡ hs
  unheard c i [] = refl
  unheard c i (h ∷ hs) = rw (i, cond_same, unheard c i hs)

  last_ended : (b : Bool) (h : H) → ended R h ≡ b → left_of (Some h) ≡ [] → ended R h ≡ true
  last_ended true h f p = f
  last_ended false h f p = absurd (cons≢nil (rw f at p))

  cur_ended : (o : Option H) → left_of o ≡ [] → All Ended (opt o)
  cur_ended None p = tt
  cur_ended (Some h) p = (last_ended (ended R h) h refl p, tt)

  next_activation : (g : G) (c : Accepted W) (m : N) (s : G → S) (os : List (Option C)) (hs : List H) (x : Bool) → D.same n m ≡ x
      → D.says c.event ≡ activates m s
      → admits K (activates m s) os ≡ true → Tracks g os hs
      → Next g (K.settles g c.event) os (fill (K.opening c.time m (s g)) os) hs (map (grow' c) hs ++ cond x (start c.time (s g) ∷ []) []) []
  next_activation g c m s os hs false i z a k =
      let u : heard R D n (D.says c.event) ≡ None = rw z in
      let e : map (grow' c) hs ++ [] ≡ hs = rw (unheard c u hs, append-nil) in
      record {
        tracks = record {
          olds = k.olds;
          cur = k.cur;
          split = e ∙ k.split;
          done = k.done;
          knows = rw (X.settles_meant g c.event ∙ X.settings_unheard n g c.event u) k.knows;
          now = named_fill_other K name_of n (K.opening c.time m (s g)) os (rw (X.opens, X.stored_name, X.same_meant) i) ∙ k.now;
        };
        wrote = rw (e, append-nil);
      }
  next_activation g c m s os hs true i z a k =
      let ad = both (not (active K m os)) (free os) a in
      let nm : n ≡ m = (X.same_exactly n m).0 i in
      let none_open : named' os ≡ [] = inactive K name_of n os (rw nm (not-true (active K m os) ad.0)) in
      let all : All Ended hs = rw k.split (ended_append k.olds (opt k.cur) k.done (cur_ended k.cur (sym k.now ∙ none_open))) in
      let e : map (grow' c) hs ++ (start c.time (s g) ∷ []) ≡ hs ++ (start c.time (s g) ∷ []) = rw (grow_ended c hs all) in
      record {
        tracks = record {
          olds = hs;
          cur = Some (start c.time (s g));
          split = e;
          done = all;
          knows = λ f. X.settings_activated g c.event m s z ∙ sym (X.settles_meant g c.event);
          now = named_fill K name_of n (K.opening c.time m (s g)) os (rw (X.opens, X.stored_name, X.same_meant) i) ad.1 none_open
              ∙ rw (← nm, X.opens);
        };
        wrote = rw (e, each_append);
      }

  next : (g : G) (c : Accepted W) (w : Said G N S E) (os : List (Option C)) (hs : List H) → D.says c.event ≡ w
      → admits K w os ≡ true → Tracks g os hs
      → Next g (K.settles g c.event) os (slots_after K g c.time w os) hs (map (grow' c) hs ++ starts_by' g c.time w) (writes K g c.time w os)
  next g c (activates m s) os hs z a k = next_activation g c m s os hs (D.same n m) refl z a k
  next g c (tells m e) os hs z a k = next_heard g c (tells m e) os hs z k
  next g c (tells_all e) os hs z a k = next_heard g c (tells_all e) os hs z k
  next g c nothing os hs z a k = rw (unheard_slots K name_of g c.time os, unheard_out K name_of g c.time os) at (next_heard g c nothing os hs z k)

  -- ---- what is reported by name

  module _ (counts : E → ℕ) (uncounted : (v : W) (e : E) → D.says v ≡ tells_all e → counts e ≡ 0) where
    abbrev sum : List H → ℕ
    sum hs = sum_of (λ h. total counts h) hs

    -- an event that nobody of the name hears
    sum_unheard : (c : Accepted W) (hs : List H) → heard R D n (D.says c.event) ≡ None → sum (map (grow' c) hs) ≡ sum hs
    sum_unheard c hs u = rw (unheard c u hs)

    -- an event that all hear
    grown_uncounted : (h : H) (t : ℕ) (e : E) (b : Bool) → counts e ≡ 0 → total counts (cond b h (h ▸ t ∶ e)) ≡ total counts h
    grown_uncounted h t e true z = refl
    grown_uncounted h t e false z = omega arith

    sum_all : (c : Accepted W) (e : E) (hs : List H) → D.says c.event ≡ tells_all e → sum (map (grow' c) hs) ≡ sum hs
    sum_all c e [] z = refl
    sum_all c e (h ∷ hs) z =
        let a : total counts (grow' c h) ≡ total counts h = rw z (grown_uncounted h c.time e (ended R h) (uncounted c.event e z)) in
        omega (arith, a, sum_all c e hs z)

    -- an event that names n: the last history is there to hear it
    sum_last : (c : Accepted W) (e : E) (h : H) (b : Bool) → ended R h ≡ b → heard R D n (D.says c.event) ≡ Some e
        → (left_of (Some h) ≡ [] → ⊥)
        → total counts (grow' c h) ≡ total counts h + counts e
    sum_last c e h true f u p = absurd (p (rw f))
    sum_last c e h false f u p = rw (f, u)

    sum_cur : (c : Accepted W) (e : E) (o : Option H) → heard R D n (D.says c.event) ≡ Some e → (left_of o ≡ [] → ⊥)
        → sum (opt (grew c o)) ≡ sum (opt o) + counts e
    sum_cur c e None u p = absurd (p refl)
    sum_cur c e (Some h) u p = omega (arith, sum_last c e h (ended R h) refl u p)

    sum_named : (g : G) (c : Accepted W) (e : E) (os : List (Option C)) (hs : List H) → heard R D n (D.says c.event) ≡ Some e
        → active K n os ≡ true → Tracks g os hs
        → sum (map (grow' c) hs) ≡ sum hs + counts e
    sum_named g c e os hs u a k =
        let i : sum (opt (grew c k.cur)) ≡ sum (opt k.cur) + counts e = sum_cur c e k.cur u (λ z. named_active K name_of n os a (k.now ∙ z)) in
        let m : map (grow' c) hs ≡ k.olds ++ opt (grew c k.cur) = rw (k.split, map_append, grow_ended c k.olds k.done, map_opt) in
        rw (m, k.split) (omega (
          arith,
          i,
          sum_of_append (λ h. total counts h) k.olds (opt (grew c k.cur)),
          sum_of_append (λ h. total counts h) k.olds (opt k.cur),
        ))

    sum_tells : (g : G) (c : Accepted W) (m : N) (e : E) (os : List (Option C)) (hs : List H) (b : Bool) → D.same n m ≡ b
        → D.says c.event ≡ tells m e → active K m os ≡ true → Tracks g os hs
        → sum (map (grow' c) hs) ≡ sum hs + cond b (counts e) 0
    sum_tells g c m e os hs true s z a k = sum_named g c e os hs (rw (z, s)) (rw ((X.same_exactly n m).0 s) a) k
    sum_tells g c m e os hs false s z a k = omega (arith, sum_unheard c hs (rw (z, s)))

    sum_activation : (c : Accepted W) (t : ℕ) (s : S) (hs : List H) (b : Bool) → heard R D n (D.says c.event) ≡ None
        → sum (map (grow' c) hs ++ cond b (start t s ∷ []) []) ≡ sum hs + 0
    sum_activation c t s hs true u = omega (arith, sum_unheard c hs u, sum_of_append (λ h. total counts h) (map (grow' c) hs) (start t s ∷ []))
    sum_activation c t s hs false u = omega (arith, sum_unheard c hs u, sum_of_append (λ h. total counts h) (map (grow' c) hs) [])

    sum_next : (g : G) (c : Accepted W) (w : Said G N S E) (os : List (Option C)) (hs : List H) → D.says c.event ≡ w
        → admits K w os ≡ true → Tracks g os hs
        → sum (map (grow' c) hs ++ starts_by' g c.time w) ≡ sum hs + reports R D n counts w
    sum_next g c (activates m s) os hs z a k = sum_activation c c.time (s g) hs (D.same n m) (rw z)
    sum_next g c (tells m e) os hs z a k = rw append-nil (sum_tells g c m e os hs (D.same n m) refl z a k)
    sum_next g c (tells_all e) os hs z a k = rw append-nil (omega (arith, sum_all c e hs z))
    sum_next g c nothing os hs z a k = rw append-nil (omega (arith, sum_unheard c hs (rw z)))

    sum_gathered : (cs : List (Accepted W)) (g : G) (os : List (Option C)) (hs : List H) → Admitted K g os cs → Tracks g os hs
        → sum (gathered g hs cs) ≡ sum hs + reported R D n counts cs
    sum_gathered [] g os hs a k = omega arith
    sum_gathered (c ∷ cs) g os hs a k =
        let x = next g c (K.says c.event) os hs (sym (X.says_meant c.event)) a.0 k in
        let y : sum (map (grow' c) hs ++ starts_by' g c.time (K.says c.event)) ≡ sum hs + reports R D n counts (K.says c.event)
        = sum_next g c (K.says c.event) os hs (sym (X.says_meant c.event)) a.0 k in
        let z : reports R D n counts (K.says c.event) ≡ reports R D n counts (D.says c.event) = rw (X.says_meant c.event) in
        omega (arith, y, z, sum_gathered cs (K.settles g c.event) _ _ a.1 x.tracks)

  -- ---- any accepted events

  record Agrees (g : G) (os : List (Option C)) (hs : List H) (cs : List (Accepted W)) : Type 0 where
    closed : each made (gathered g hs cs) ≡ each made hs ++ of_name K name_of n (output K g os cs)
    end : G
    tracks : Tracks end (table K g os cs) (gathered g hs cs)

  agrees : (cs : List (Accepted W)) (g : G) (os : List (Option C)) (hs : List H) → Admitted K g os cs → Tracks g os hs
      → Agrees g os hs cs
  agrees [] g os hs a k = record { closed = sym (append-nil _); end = g; tracks = k }
  agrees (c ∷ cs) g os hs a k =
      let x = next g c (K.says c.event) os hs (sym (X.says_meant c.event)) a.0 k in
      let i = agrees cs (K.settles g c.event) _ _ a.1 x.tracks in
      record {
        closed = i.closed ∙ rw (under_append, x.wrote, append_assoc);
        end = i.end;
        tracks = i.tracks;
      }

  earlier_cons : (h : H) (hs : List H) → Ended h → Earlier Ended hs → Earlier Ended (h ∷ hs)
  earlier_cons h [] p q = tt
  earlier_cons h (x ∷ xs) p q = (p, q)

  earlier : (olds : List H) (o : Option H) → All Ended olds → Earlier Ended (olds ++ opt o)
  earlier [] None p = tt
  earlier [] (Some h) p = tt
  earlier (h ∷ hs) o p = earlier_cons h (hs ++ opt o) p.0 (earlier hs o p.1)

  -- From a table with no n in it: what was written under n, what is stored under n, and that each history but the last has ended.
  pub record Charged (g : G) (os : List (Option C)) (cs : List (Accepted W)) : Type 0 where
    pub closed : of_name K name_of n (output K g os cs) ≡ each made (histories R D n g cs)
    pub open_now : named K name_of n (table K g os cs) ≡ each left (histories R D n g cs)
    pub released : Earlier (λ h. ended R h ≡ true) (histories R D n g cs)
    pub all_reported : (counts : E → ℕ) → ((v : W) (e : E) → D.says v ≡ tells_all e → counts e ≡ 0)
        → sum_of (λ h. total counts h) (histories R D n g cs) ≡ reported R D n counts cs

  pub charged : (g : G) (os : List (Option C)) (cs : List (Accepted W)) → named K name_of n os ≡ [] → Admitted K g os cs
      → Charged g os cs
  charged g os cs e a =
      let none_yet : Tracks g os [] = record { olds = []; cur = None; split = refl; done = tt; knows = tt; now = e } in
      let i = agrees cs g os [] a none_yet in
      let f = gathered_all cs g [] in
      let k = i.tracks in
      let s : histories R D n g cs ≡ k.olds ++ opt k.cur = sym f ∙ k.split in
      record {
        closed = sym i.closed ∙ rw f;
        open_now = k.now ∙ rw (s, each_append, left_ended k.olds k.done);
        released = rw s (earlier k.olds k.cur k.done);
        all_reported = λ counts z. rw f at (sum_gathered counts z cs g os [] a none_yet) ∙ zero-add (reported R D n counts cs);
      }
