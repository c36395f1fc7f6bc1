-- The loop over a window's events: what was done so far, and what is left for it to do.
use mathlib.Core.Path.{◌≡◌, refl, sym, ap, ◌∙◌}
use mathlib.Core.Bool.{Bool, true, false}
use mathlib.Core.List.{List, [], ◌++◌, append_assoc, append-nil}
use Prim.Native.Nat.{ℕ, zero, suc, ◌+◌, ◌-◌, ◌≤◌}
use native.Mathlib.Omega.{arith}
use lib.ListN.{length, take, drop, length-append, length-take, length-drop, take-append-drop}
use lib.Seq.{take_all, take_at, drop_at, drop-drop, drop-append-le}
use borrow.Rule.Slice.PartMut.{put_mid}
use Rattle.event.specs.Framing.{next_length}
use Rattle.event.proofs.Framed.{next_within, next_some}
use Rattle.node.specs.declared.Node.{Node}
use Rattle.node.specs.Step.{Steps}
use Rattle.charging.specs.Done.{Done, joined, and_then}
use Rattle.charging.specs.File.{next_event, first_of}
use Rattle.charging.specs.Window.{ready, here_in, here, told, Charges}
use Rattle.charging.proofs.Joins.{made, same_done, later_no, and_ok, and_no, nothing_then, then_nothing, and_assoc}
use Rattle.charging.proofs.Windows.{here_not, here_one, is_ready}
use Rattle.charging.proofs.Steps.{Refuses, Accepts, took_refused, took_accepted}

-- What was done so far stands at the front of the buffer; and what is left does the rest of the whole.
pub record Going (n₀ : Node) (s : List ℕ) (ended : Bool) (b₀ b : List ℕ) (n : Node) (came events last written : ℕ) : Type 0 where
  pub fuel : ℕ
  pub out : List ℕ
  pub is : here ended n₀ s (length b₀) ≡ and_then (made 0 n out came events last) (here_in fuel ended n (drop came s) (length b₀ - written))
  pub enough : length s ≤ came + fuel
  pub within : came ≤ length s
  pub few : events ≤ came
  pub size : written ≡ length out
  pub room : written ≤ length b₀
  pub buffer : b ≡ out ++ drop (length out) b₀

pub going_none : (n : Node) (s : List ℕ) (ended : Bool) (b : List ℕ) → Going n s ended b b n 0 0 0 0
unfolding here
going_none n s ended b =
    let z : length b - 0 ≡ length b = omega arith in
    record {
      fuel = length s;
      out = [];
      is = rw z (sym (nothing_then n (here_in (length s) ended n s (length b))));
      enough = omega arith;
      within = omega arith;
      few = omega arith;
      size = refl;
      room = omega arith;
      buffer = refl;
    }

-- x written at the front of the next m octets of r
patch : (x r : List ℕ) (m : ℕ) → length x ≤ m → m ≤ length r → (x ++ drop (length x) (take m r)) ++ drop m r ≡ x ++ drop (length x) r
patch x r m h l =
    append_assoc x (drop (length x) (take m r)) (drop m r)
    ∙ ap (λ (y : List ℕ). x ++ y)
    (sym (drop-append-le (length x) (take m r) (drop m r) (omega (arith, length-take m r))) ∙ ap (drop (length x)) (take-append-drop m r))

-- what was done, as it is answered
charges_by : (n : Node) (s : List ℕ) (ended : Bool) (b b' : List ℕ) (d : Done) (w : ℕ) → here ended n s (length b) ≡ d → w ≡ length d.out
    → b' ≡ d.out ++ drop (length d.out) b
    → Charges n s ended b b' (record { answer = d.answer; node = d.node; came = d.came; events = d.events; last = d.last; written = w })
unfolding told
charges_by n s ended b b' d w h p q = record { is = rw (h, p, q) }

-- one event more of the whole
record Next (n₀ : Node) (s : List ℕ) (ended : Bool) (room₀ : ℕ) (acc : Done) (came room : ℕ) : Type 0 where
  fuel : ℕ
  enough : length s ≤ came + suc fuel
  is : here ended n₀ s room₀
      ≡ and_then acc
      (and_then (first_of acc.node (drop came s))
      (here_in fuel ended (first_of acc.node (drop came s)).node (drop (first_of acc.node (drop came s)).came (drop came s))
      (room - length (first_of acc.node (drop came s)).out)))

next_by : (n₀ : Node) (s : List ℕ) (ended : Bool) (room₀ : ℕ) (acc : Done) (came room f : ℕ) → ready ended (length (drop came s)) room ≡ true
    → length s ≤ came + f → here ended n₀ s room₀ ≡ and_then acc (here_in f ended acc.node (drop came s) room) → Next n₀ s ended room₀ acc came room
next_by n₀ s ended room₀ acc came room zero r l e = absurd (omega (arith, (is_ready ended (length (drop came s)) room r).some, length-drop came s))
next_by n₀ s ended room₀ acc came room (suc f) r l e = record {
  fuel = f;
  enough = l;
  is = e ∙ ap (and_then acc) (here_one f ended acc.node (drop came s) room r);
}

module _ {n₀ : Node} {s : List ℕ} {ended : Bool} {b₀ b : List ℕ} {n : Node} {came events last written : ℕ}
    (g : Going n₀ s ended b₀ b n came events last written) where
  abbrev acc : Done
  acc = made 0 n g.out came events last

  pub going_length : length b ≡ length b₀
  going_length = ap length g.buffer ∙ length-append g.out (drop (length g.out) b₀) ∙ omega (arith, length-drop (length g.out) b₀, g.size, g.room)

  left : (t : Bool) → ready ended (length s - came) (length b - written) ≡ t → ready ended (length (drop came s)) (length b₀ - written) ≡ t
  left t e = rw (length-drop came s, sym going_length) e

  front : take written b ≡ g.out
  front = rw g.buffer (take_at g.out (drop (length g.out) b₀) written (sym g.size))

  back : drop written b ≡ drop (length g.out) b₀
  back = rw g.buffer (drop_at g.out (drop (length g.out) b₀) written (sym g.size))

  pub going_end : ready ended (length s - came) (length b - written) ≡ false
      → Charges n₀ s ended b₀ b (record { answer = 0; node = n; came = came; events = events; last = last; written = written })
  going_end e =
      charges_by n₀ s ended b₀ b acc written
      (g.is ∙ ap (and_then acc) (here_not g.fuel ended n (drop came s) (length b₀ - written) (left false e)) ∙ then_nothing acc n refl refl)
      g.size g.buffer

  module _ (e : ready ended (length s - came) (length b - written) ≡ true) where
    going_next : Next n₀ s ended (length b₀) acc came (length b₀ - written)
    going_next = next_by n₀ s ended (length b₀) acc came (length b₀ - written) g.fuel (left true e) g.enough g.is

    pub going_some : 1 ≤ length (drop came s)
    going_some = (is_ready ended (length (drop came s)) (length b₀ - written) (left true e)).some

    pub going_wide : 16416 ≤ length b - written
    going_wide = (is_ready ended (length s - came) (length b - written) e).wide

    -- the next event lies in what is left, and is something
    pub going_event : (1 ≤ next_length (drop came s)) × (came + next_length (drop came s) ≤ length s)
    going_event = (next_some (drop came s) going_some, omega (arith, next_within (drop came s), length-drop came s, going_some))

    -- a refusal: all is as it was
    pub going_refused : (k : ℕ) {b' : List ℕ} {a : ℕ} → Refuses n (drop came s) (take k (drop written b)) b' a → (a ≡ 0 → ⊥)
        → Charges n₀ s ended b₀ (take written b ++ (b' ++ drop k (drop written b)))
        (record { answer = a; node = n; came = came; events = events; last = last; written = written })
    going_refused k {b'} {a} r z =
        let x = going_next in
        let d = made a n [] 0 0 0 in
        let same : joined acc d ≡ made a n g.out came events last =
        same_done (joined acc d) (made a n g.out came events last) refl refl (append-nil g.out) (omega arith) (omega arith) refl in
        let whole : take written b ++ (b' ++ drop k (drop written b)) ≡ b =
        rw (r.buffer, take-append-drop k (drop written b), take-append-drop written b) in
        charges_by n₀ s ended b₀ (take written b ++ (b' ++ drop k (drop written b))) (made a n g.out came events last) written
        (x.is ∙ ap (and_then acc) (rw r.first (and_no d _ z)) ∙ and_ok acc d refl ∙ same)
        g.size (whole ∙ g.buffer)

    -- one event more
    pub going_more : (k : ℕ) → k ≡ 16416 → {b' : List ℕ} {n' : Node} {w : ℕ} → Accepts n (drop came s) (take k (drop written b)) b' n' w
        → Going n₀ s ended b₀ (take written b ++ (b' ++ drop k (drop written b))) n' (came + next_length (drop came s)) (events + 1)
        (next_length (drop came s)) (written + w)
    going_more k ke {b'} {n'} {w} r =
        let x = going_next in
        let m = next_length (drop came s) in
        let d = made 0 n' r.out m 1 m in
        let o = g.out in
        let q = going_event in
        let same : joined acc d ≡ made 0 n' (o ++ r.out) (came + m) (events + 1) m =
        same_done (joined acc d) (made 0 n' (o ++ r.out) (came + m) (events + 1) m) refl refl refl refl refl (later_no last m (λ z. omega arith)) in
        let room : length b₀ - written - length r.out ≡ length b₀ - (written + w) = omega (arith, r.size) in
        let rest = here_in x.fuel ended n' (drop (came + m) s) (length b₀ - (written + w)) in
        let wide = going_wide in
        let lb = going_length in
        let put = patch r.out (drop (length o) b₀) k (omega (arith, r.fits)) (omega (arith, length-drop (length o) b₀, g.size)) in
        let lo : length (o ++ r.out) ≡ length o + length r.out = length-append o r.out in
        record {
          fuel = x.fuel;
          out = o ++ r.out;
          is =
              x.is
              ∙ ap (and_then acc) (rw (r.first, drop-drop m came s, room))
              ∙ sym (and_assoc acc d rest)
              ∙ ap (λ (y : Done). and_then y rest) (and_ok acc d refl ∙ same);
          enough = omega (arith, x.enough, q.0);
          within = q.1;
          few = omega (arith, g.few, q.0);
          size = omega (arith, g.size, r.size, lo);
          room = omega (arith, r.size, r.fits);
          buffer =
              rw (r.buffer, front, back, put, drop-drop (length r.out) (length o) b₀, lo)
              (sym (append_assoc o r.out (drop (length o + length r.out) b₀)));
        }

-- ---- what the code finds: the next event's length, and the node's answer in the next part of the buffer

module _ {n₀ : Node} {s : List ℕ} {ended : Bool} {b₀ b : List ℕ} {n : Node} {came events last written : ℕ}
    (g : Going n₀ s ended b₀ b n came events last written) (e : ready ended (length s - came) (length b - written) ≡ true)
    {m : ℕ} (l : m ≡ next_length (take (length s - came) (drop came s))) where
  pub next_is : m ≡ next_length (drop came s)
  next_is = l ∙ ap next_length (take_all (length s - came) (drop came s) (omega (arith, length-drop came s)))

  -- it lies in what is left, and is something
  pub next_lies : (1 ≤ m) × (came + m ≤ length s)
  next_lies = rw next_is (going_event g e)

  abbrev k : ℕ
  k = written + 16416 - written

  part_size : length (take k (drop written b)) ≡ 16416
  part_size = omega (arith, length-take k (drop written b), length-drop written b, going_wide g e)

  event_is : take (came + m - came) (drop came s) ≡ next_event (drop came s)
  event_is = let z : came + m - came ≡ m = omega arith in rw (z, next_is)

  module _ {b' : List ℕ} {a w : ℕ} {n' : Node} (p : Steps n (take (came + m - came) (drop came s)) (take k (drop written b)) b' a n' w) where
    answer_is : Steps n (next_event (drop came s)) (take k (drop written b)) b' a n' w
    answer_is = rw event_is at p

    pub goes_refused : (a ≡ 0 → ⊥)
        → Charges n₀ s ended b₀ (put_mid written k b b') (record { answer = a; node = n; came = came; events = events; last = last; written = written })
    goes_refused z = going_refused g e k (took_refused n (drop came s) (take k (drop written b)) part_size answer_is z) z

    takes : a ≡ 0 → Accepts n (drop came s) (take k (drop written b)) b' n' w
    takes z = took_accepted n (drop came s) (take k (drop written b)) part_size answer_is z

    -- what it wrote stays in that part
    pub goes_written : a ≡ 0 → written + w ≤ length b
    goes_written z = let t = takes z in omega (arith, t.size, t.fits, going_wide g e)

    pub goes_more : a ≡ 0 → Going n₀ s ended b₀ (put_mid written k b b') n' (came + m) (events + 1) m (written + w)
    goes_more z = rw next_is (going_more g e k (omega arith) (takes z))
