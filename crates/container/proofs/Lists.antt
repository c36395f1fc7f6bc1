-- The list of containers, read and written in a loop: what ber's laws of values one after another say of it.
use mathlib.Core.Path.{◌≡◌, refl, sym, ap, subst, ◌∙◌}
use mathlib.Core.Bool.{Bool, true, false, ◌&&◌}
use Rattle.std.specs.Prelude.{Option, None, Some}
use mathlib.Core.List.{List, [], ◌∷◌}
use Prim.Native.Nat.{ℕ, ◌-◌, ◌≤◌, ◌<◌}
use native.Mathlib.Omega.{arith}
use lib.Dec.{T, leb}
use lib.ListN.{length, take, drop}
use lib.Seq.{take_at, drop_at}
use borrow.Author.Tests.{le-leb, lt-leb}
use Rattle.format.specs.Maybe.{bind}
use Rattle.ber.specs.Read.{read_at}
use Rattle.ber.specs.Tlv.{tlv_enc, tlv_dec}
use Rattle.ber.proofs.Tlvs.{tlv_fits}
use Rattle.ber.proofs.Readers.{into, first_at}
use Rattle.ber.proofs.Runs.{Run, list_dec, in_places, Test}
use Rattle.container.specs.declared.Container.{Container}
use Rattle.container.specs.Container.{container_tag, formed, container}
use Rattle.container.specs.List.{all_formed, containers, in_array, lists_at, padded}
use Rattle.container.proofs.Formats.{container_law, container_good, container_most}
use Rattle.container.proofs.Padded.{blank}

-- ---- reading

-- the first stands after the blank one
abbrev pub listing : Run Container
listing = record { tag = container_tag; form = container; places = 15; blank = blank }

pub list_is : (s : List ℕ) → containers.dec s ≡ list_dec listing 1 s
unfolding containers
list_is s = refl

pub array_is : (o : Option (List Container)) → in_places listing o ≡ in_array o
array_is None = refl
array_is (Some cs) = refl

-- under a tag
pub lists_is : (s : List ℕ) (at t : ℕ) → lists_at s at t ≡ bind (read_at (tlv_dec t) s at) (λ p. bind (in_array (containers.dec p.0)) (λ v. Some (v, p.1)))
unfolding lists_at
lists_is s at t = rw (first_at t containers s at) (go (read_at (tlv_dec t) s at))
  where
    step : (o : Option (List Container)) (n : ℕ)
        → bind {A = List Container × ℕ} {B = (ℕ × List Container) × ℕ} (bind o (λ cs. Some (cs, n))) (λ p. Some ((length p.0, padded p.0), p.1)) ≡ bind (in_array o) (λ v. Some (v, n))
    step None n = refl
    step (Some cs) n = refl

    go : (o : Option (List ℕ × ℕ))
        → bind {B = (ℕ × List Container) × ℕ} (into containers.dec o) (λ p. Some ((length p.0, padded p.0), p.1)) ≡ bind o (λ p. bind (in_array (containers.dec p.0)) (λ v. Some (v, p.1)))
    go None = refl
    go (Some p) = step (containers.dec p.0) p.1

-- ---- writing

pub all_nil : (z : Container) → all_formed z [] ≡ true
unfolding all_formed
all_nil z = refl

pub all_cons : (z c : Container) (cs : List Container) → all_formed z (c ∷ cs) ≡ (formed z c && all_formed c cs)
unfolding all_formed
all_cons z c cs = refl

-- a container with tag and length takes 55 octets at most
pub container_fits : (z c : Container) → T (formed z c) → length (tlv_enc container_tag ((container z).enc c)) ≤ 55
container_fits z c t =
    let h = (container_law z).fits c (container_good z c t) in
    tlv_fits container_tag ((container z).enc c) 53 (omega (arith, container_most z))

-- those are written that have a form after the one before them
abbrev pub writing : Test listing
writing = record { ok = formed; all = all_formed; nil = all_nil; cons = all_cons; width = 55; fits = container_fits }

-- ---- how many there may be

module _ (n : ℕ) (t : Bool) where
  pub few : n < 1 → (leb 1 n && leb n 15 && t) ≡ false
  few h = rw (lt-leb 1 n h)

  pub many : 1 ≤ n → 15 < n → (leb 1 n && leb n 15 && t) ≡ false
  many g h = rw (le-leb 1 n g, lt-leb n 15 h)

  pub right : 1 ≤ n → n ≤ 15 → (leb 1 n && leb n 15 && t) ≡ t
  right g h = rw (le-leb 1 n g, le-leb n 15 h)
