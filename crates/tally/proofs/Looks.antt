-- One step of a count: by what the stepper and the record say; and how far it goes.
use Rattle.std.proofs.Common.{◌≡◌, ℕ, ◌+◌, ◌-◌, ◌<◌, ◌≤◌, Bool, true, false, cond, not, eqb, ltb, leb, List, [], length, get_or, sym, refl, ap, ◌∙◌, arith, le-ltb, lt-ltb, leb-false}
use Rattle.std.specs.Prelude.{Option, None, Some, Result, Ok, Err}
use Rattle.format.proofs.Tests.{by}
use Rattle.ber.specs.Field.{starts}
use Rattle.ber.specs.Tlv.{tlv_dec}
use Rattle.ber.specs.Read.{len_at, read_at}
use Rattle.ber.proofs.Readers.{read_missing, part_here, part_length}
use Rattle.scdr.specs.Table as s-table
use Rattle.mcdr.specs.Table as m-table
use Rattle.entries.specs.declared.Entry.{Entry}
use Rattle.entries.specs.declared.Entry.TheVariants.{Found, End, NoMark, Cut, NoValue}
use Rattle.entries.specs.Entry.{is_tag, most_contents, sized_at, value_at, entry_at}
use Rattle.entries.specs.Read.{octets_in}
use Rattle.entries.proofs.Theorems.{entry_long}
use Rattle.tally.specs.declared.Fault.TheVariants as F
use Rattle.tally.specs.declared.Tally.{Tally}
use Rattle.tally.specs.Say.{Saying, other, carries, broken, say_of}
use Rattle.tally.specs.Look.{past, counts, stops, longest, within, contents_of, said, of_record, look_on, look_of}
use Rattle.tally.specs.Tally.{fits}
use Rattle.tally.specs.Private.Places.{said_in}
use Rattle.tally.proofs.Seeks.{not_both}
use Rattle.tally.proofs.Says.{left_of, says_short}

-- ---- a record

-- the contents of a record, where a reader of values found them
pub contents_some : (x : List ℕ) {c : List ℕ} {e : ℕ} → read_at (tlv_dec s-table.record_tag) x 0 ≡ Some (c, e) → (c ≡ contents_of x) × (length c ≤ length x)
contents_some x {c} {e} r =
    let (p, q) = part_here r in
    (q ∙ sym (ap within p.is), let z = ap length q ∙ part_length p in omega (arith, p.order, p.inside, z))

pub contents_none : (x : List ℕ) → read_at (tlv_dec s-table.record_tag) x 0 ≡ None → [] ≡ contents_of x
contents_none x r = sym (ap within (read_missing (tlv_dec s-table.record_tag) x 0 (omega arith) r))

-- where the step lands, by what was answered of contents of so many octets in a record that ends at e
abbrev pub landing : ℕ → ℕ → Result (Option ℕ) ℕ → Tally
landing e n (Ok None) = past e
landing e n (Ok (Some k)) = counts e k
landing e n (Err p) = stops F.Field (e - (n - p))

lands : (e : ℕ) (c : List ℕ) (y : Saying) → left_of y ≤ length c → landing e (length c) (said_in c y) ≡ said e y
lands e c other h = refl
lands e c (carries k) h = refl
lands e c (broken r) h = let z : e - (length c - (length c - length r)) ≡ e - length r = omega arith in ap (stops F.Field) z

abbrev place_of : Result (Option ℕ) ℕ → ℕ
place_of (Ok k) = 0
place_of (Err p) = p

module _ (end id ggsn : ℕ) (x : List ℕ) {c : List ℕ} (w : c ≡ contents_of x) {z : Result (Option ℕ) ℕ} (e : z ≡ said_in c (say_of id ggsn c)) where
  pub landed : {v : Result (Option ℕ) ℕ} → z ≡ v → landing end (length c) v ≡ said end (say_of id ggsn (contents_of x))
  landed d =
      ap (landing end (length c)) (sym d ∙ e)
      ∙ lands end c (say_of id ggsn c) (says_short id ggsn c)
      ∙ ap (λ (c : List ℕ). said end (say_of id ggsn c)) w

-- a place within the contents
pub unfit_within : (id ggsn : ℕ) (c : List ℕ) {z : Result (Option ℕ) ℕ} {p : ℕ} → z ≡ said_in c (say_of id ggsn c) → z ≡ Err p → p ≤ length c
unfit_within id ggsn c {z} {p} e d = go (say_of id ggsn c) (sym d ∙ e)
  where
    go : (y : Saying) → Err p ≡ said_in c y → p ≤ length c
    go other q = omega (arith, ap place_of q)
    go (carries k) q = omega (arith, ap place_of q)
    go (broken r) q = omega (arith, ap place_of q)

-- ---- what was found from one place of s to another

module _ (id ggsn : ℕ) (s : List ℕ) (a e : ℕ) where
  pub found_long : longest < e - a → stops F.Value a ≡ look_on id ggsn s (Found a e)
  found_long h = rw (lt-ltb longest (e - a) h)

  module _ (h : e - a ≤ longest) where
    pub found_mm : starts m-table.record_tag (octets_in s (a, e)) ≡ true → past e ≡ look_on id ggsn s (Found a e)
    unfolding of_record
    found_mm m = rw (le-ltb longest (e - a) h, m)

    pub found_pdp : starts m-table.record_tag (octets_in s (a, e)) ≡ false
        → said e (say_of id ggsn (contents_of (octets_in s (a, e)))) ≡ look_on id ggsn s (Found a e)
    unfolding of_record
    found_pdp m = rw (le-ltb longest (e - a) h, m)

-- at the front of s
pub looks : (id ggsn : ℕ) (s : List ℕ) {x y : Entry} → x ≡ entry_at s 0 → x ≡ y → look_on id ggsn s y ≡ look_of id ggsn s
unfolding look_of
looks id ggsn s e d = ap (look_on id ggsn s) (sym d ∙ e)

-- ---- how far a step goes

-- the place that is named where no entry was found
abbrev named_place : Entry → ℕ
named_place (Found a e) = 0
named_place End = 0
named_place (NoMark p) = p
named_place (Cut p) = p
named_place (NoValue p) = p

-- a test that picks one of two
pick : (t : Bool) (x y : Entry) (n : ℕ) → named_place x ≤ n → (t ≡ false → named_place y ≤ n) → named_place (cond t x y) ≤ n
pick true x y n h f = h
pick false x y n h f = f refl

module _ (s : List ℕ) (from : ℕ) where
  sized_within : (at : ℕ) (l : Option (ℕ × ℕ)) → from ≤ length s → at ≤ length s → named_place (sized_at s from at l) ≤ length s
  unfolding sized_at
  sized_within at (Some (n, a)) h k =
      pick (leb n (length s - a)) (Found at (a + n)) _ (length s) (omega arith) (λ e. pick (ltb most_contents n) (NoValue at) (Cut from) (length s) k (λ d. h))
  sized_within at None h k = pick (ltb (length s - (at + 1)) 3) (Cut from) (NoValue at) (length s) h (λ e. k)

  value_within : (at : ℕ) → from ≤ length s → named_place (value_at s from at) ≤ length s
  unfolding value_at
  value_within at h =
      pick (leb (length s) at) (Cut from) _ (length s) h
      (λ e.
      let k = leb-false (length s) at e in
      pick (not (is_tag (get_or s at 0))) (NoValue at) _ (length s) (omega arith) (λ d. sized_within at (len_at s (at + 1)) h (omega arith)))

-- it lies within the octets
named_within : (s : List ℕ) → named_place (entry_at s 0) ≤ length s
unfolding entry_at
named_within s =
    pick (leb (length s) 0) End _ (length s) (omega arith)
    (λ a. pick (not (eqb (get_or s 0 0) 0xC3)) (NoMark 0) _ (length s) (omega arith)
    (λ b. pick (leb (length s) 1) (Cut 0) _ (length s) (omega arith)
    (λ d. pick (not (eqb (get_or s 1 0) 0x5A)) (NoMark 0) _ (length s) (omega arith) (λ e. value_within s 0 2 (omega arith)))))

said_within : (e : ℕ) (y : Saying) → (said e y).at ≤ e
said_within e other = omega arith
said_within e (carries n) = omega arith
said_within e (broken r) = omega arith

record_within : (id ggsn e : ℕ) (x : List ℕ) → (of_record id ggsn e x).at ≤ e
unfolding of_record
record_within id ggsn e x =
    by (starts m-table.record_tag x) (λ m. rw m (omega arith)) (λ m. rw m (said_within e (say_of id ggsn (contents_of x))))

said_moves : (e : ℕ) (y : Saying) → fits (said e y).fault ≡ true → (said e y).at ≡ e
said_moves e other h = refl
said_moves e (carries n) h = refl
said_moves e (broken r) h = absurd (not_both h)

record_moves : (id ggsn e : ℕ) (x : List ℕ) → fits (of_record id ggsn e x).fault ≡ true → (of_record id ggsn e x).at ≡ e
unfolding of_record
record_moves id ggsn e x =
    by (starts m-table.record_tag x) (λ m. rw m (λ h. refl)) (λ m. rw m (said_moves e (say_of id ggsn (contents_of x))))

said_one : (e : ℕ) (y : Saying) → (said e y).count ≤ 1
said_one e other = omega arith
said_one e (carries n) = omega arith
said_one e (broken r) = omega arith

record_one : (id ggsn e : ℕ) (x : List ℕ) → (of_record id ggsn e x).count ≤ 1
unfolding of_record
record_one id ggsn e x =
    by (starts m-table.record_tag x) (λ m. rw m (omega arith)) (λ m. rw m (said_one e (say_of id ggsn (contents_of x))))

module _ (id ggsn : ℕ) (s : List ℕ) where
  -- over one record at most
  pub look_one : (look_of id ggsn s).count ≤ 1
  unfolding look_of
  look_one = go (entry_at s 0)
    where
      go : (x : Entry) → (look_on id ggsn s x).count ≤ 1
      go (Found a e) = by (ltb longest (e - a)) (λ t. rw t (omega arith)) (λ t. rw t (record_one id ggsn e (octets_in s (a, e))))
      go End = omega arith
      go (NoMark p) = omega arith
      go (Cut p) = omega arith
      go (NoValue p) = omega arith

  -- no further than to the end of the octets
  pub look_within : (look_of id ggsn s).at ≤ length s
  unfolding look_of
  look_within = go (entry_at s 0) refl (named_within s)
    where
      go : (x : Entry) → entry_at s 0 ≡ x → named_place x ≤ length s → (look_on id ggsn s x).at ≤ length s
      go (Found a e) d h =
          let (b, m, i) = entry_long s 0 a e d in
          by (ltb longest (e - a)) (λ t. rw t (omega arith)) (λ t. rw t (let w = record_within id ggsn e (octets_in s (a, e)) in omega arith))
      go End d h = h
      go (NoMark p) d h = h
      go (Cut p) d h = h
      go (NoValue p) d h = h

  -- and over four octets at least, where all fits
  pub look_moves : fits (look_of id ggsn s).fault ≡ true → 4 ≤ (look_of id ggsn s).at
  unfolding look_of
  look_moves = go (entry_at s 0) refl
    where
      go : (x : Entry) → entry_at s 0 ≡ x → fits (look_on id ggsn s x).fault ≡ true → 4 ≤ (look_on id ggsn s x).at
      go (Found a e) d =
          let (b, m, i) = entry_long s 0 a e d in
          by (ltb longest (e - a)) (λ t. rw t (λ h. absurd (not_both h)))
          (λ t. rw t (λ h. let w = record_moves id ggsn e (octets_in s (a, e)) h in omega arith))
      go End d = λ h. absurd (not_both h)
      go (NoMark p) d = λ h. absurd (not_both h)
      go (Cut p) d = λ h. absurd (not_both h)
      go (NoValue p) d = λ h. absurd (not_both h)
