-- The list of changes, read and written in a loop: what ber's laws of values one after another say of it. And the list under its tag, where it may be
-- missing.
use mathlib.Core.Path.{◌≡◌, refl, sym, ◌∙◌}
use mathlib.Core.Bool.{Bool, true, false, ◌&&◌}
use Rattle.std.specs.Prelude.{Option, None, Some}
use mathlib.Core.List.{List, [], ◌∷◌}
use Prim.Native.Nat.{ℕ, zero, suc, ◌≤◌, ◌<◌}
use native.Mathlib.Omega.{arith}
use lib.Dec.{T, leb}
use lib.ListN.{length, take, drop}
use borrow.Author.Tests.{le-leb, lt-leb, ne_eqb}
use Rattle.format.specs.Maybe.{bind, guard}
use Rattle.ber.specs.Tlv.{tlv_enc, tlv_dec}
use Rattle.ber.specs.Field.{starts, unless_none}
use Rattle.ber.specs.Table.{row_enc, tag}
use Rattle.ber.specs.Read.{read_at}
use Rattle.ber.specs.Text.{or_none}
use Rattle.ber.proofs.Tlvs.{tlv_fits}
use Rattle.ber.proofs.Readers.{into, first_at, maybe_there, maybe_none}
use Rattle.ber.proofs.Runs.{Run, list_dec, in_places, Test, run_fits}
use Rattle.calendar.specs.Stamp.{stamp_ok}
use Rattle.mcdr.specs.declared.Change.{Change}
use Rattle.mcdr.specs.Change.{change_tag, change, no_change}
use Rattle.mcdr.specs.Changes.{changes, no_changes, padded}
use Rattle.mcdr.specs.Table.{Changes}
use Rattle.mcdr.specs.Private.List.{in_array, lists_at, times_ok, list_form}
use Rattle.mcdr.proofs.Formats.{change_short}
use Rattle.mcdr.proofs.Padded.{blank}

-- ---- reading

-- no change goes by the one before it
abbrev pub listing : Run Change
listing = record { tag = change_tag; form = λ b. change; places = 15; blank = blank }

pub list_is : (s : List ℕ) → changes.dec s ≡ list_dec listing 1 s
unfolding changes
list_is s = refl

pub array_is : (o : Option (List Change)) → in_places listing o ≡ in_array o
array_is None = refl
array_is (Some cs) = refl

-- ---- under a tag

module _ (s : List ℕ) (at t : ℕ) where
  pub lists_there : starts t (drop at s) ≡ true
      → lists_at s at t ≡ bind (read_at (tlv_dec t) s at) (λ p. bind (in_array (changes.dec p.0)) (λ v. Some (v, p.1)))
  unfolding lists_at
  lists_there g = rw (maybe_there t changes s at g, first_at t changes s at) (go (read_at (tlv_dec t) s at))
    where
      step : (o : Option (List Change)) (n : ℕ)
          → bind {A = Option (List Change) × ℕ} {B = (ℕ × List Change) × ℕ} (into (λ a. Some (Some a)) (bind o (λ cs. Some (cs, n))))
          (λ p. Some ((length (or_none p.0), padded (or_none p.0)), p.1))
          ≡ bind (in_array o) (λ v. Some (v, n))
      step None n = refl
      step (Some cs) n = refl

      go : (o : Option (List ℕ × ℕ))
          → bind {A = Option (List Change) × ℕ} {B = (ℕ × List Change) × ℕ} (into (λ a. Some (Some a)) (into changes.dec o))
          (λ p. Some ((length (or_none p.0), padded (or_none p.0)), p.1))
          ≡ bind o (λ p. bind (in_array (changes.dec p.0)) (λ v. Some (v, p.1)))
      go None = refl
      go (Some p) = step (changes.dec p.0) p.1

  pub lists_none : starts t (drop at s) ≡ false → lists_at s at t ≡ guard (leb at (length s)) ((0, no_changes 15), at)
  unfolding lists_at
  lists_none g = rw (maybe_none t changes s at g) (go (leb at (length s)))
    where
      go : (b : Bool)
          → bind {A = Option (List Change) × ℕ} {B = (ℕ × List Change) × ℕ} (guard b (None, at)) (λ p. Some ((length (or_none p.0), padded (or_none p.0)), p.1))
          ≡ guard b ((0, no_changes 15), at)
      go true = refl
      go false = refl

-- ---- writing

pub all_nil : (z : Change) → times_ok [] ≡ true
unfolding times_ok
all_nil z = refl

pub all_cons : (z c : Change) (cs : List Change) → times_ok (c ∷ cs) ≡ (stamp_ok c.time && times_ok cs)
unfolding times_ok
all_cons z c cs = refl

-- a change with tag and length takes 20 octets at most
pub change_fits : (z c : Change) → T (stamp_ok c.time) → length (tlv_enc change_tag (change.enc c)) ≤ 20
change_fits z c t = tlv_fits change_tag (change.enc c) 18 (change_short c)

-- those are written whose time is one
abbrev pub writing : Test listing
writing = record { ok = λ z c. stamp_ok c.time; all = λ z cs. times_ok cs; nil = all_nil; cons = all_cons; width = 20; fits = change_fits }

-- so long is a list of them
pub list_short : (cs : List Change) → times_ok cs ≡ true → length cs ≤ 15 → length (changes.enc cs) ≤ 300
unfolding changes
list_short cs t h = omega (arith, run_fits listing writing no_change cs t)

-- ---- how many there may be

module _ (t n : ℕ) (v : List Change) where
  pub form_none : n ≡ 0 → Some [] ≡ list_form t n v
  unfolding list_form
  form_none e = rw e

  pub form_many : (n ≡ 0 → ⊥) → 15 < n → None ≡ list_form t n v
  unfolding list_form
  form_many z h = rw (ne_eqb n 0 z, lt-leb n 15 h)

  pub form_bad : (n ≡ 0 → ⊥) → n ≤ 15 → times_ok (take n v) ≡ false → None ≡ list_form t n v
  unfolding list_form
  form_bad z h e = rw (ne_eqb n 0 z, le-leb n 15 h, e)

  pub form_some : (n ≡ 0 → ⊥) → n ≤ 15 → times_ok (take n v) ≡ true → Some (tlv_enc t (changes.enc (take n v))) ≡ list_form t n v
  unfolding list_form
  form_some z h e = rw (ne_eqb n 0 z, le-leb n 15 h, e)

-- the form of a row that may be missing
pub form_row : (n : ℕ) (v : List Change) → n ≤ length v → n ≤ 15 → times_ok (take n v) ≡ true
    → list_form (tag Changes) n v ≡ Some (row_enc Changes (unless_none (take n v)))
form_row zero v l h e = sym (form_none (tag Changes) 0 v refl)
form_row (suc n) [] l h e = absurd (omega arith)
form_row (suc n) (c ∷ v) l h e = sym (form_some (tag Changes) (suc n) (c ∷ v) (λ z. omega arith) h e)
