-- Containers in an array of 15 places, those that are not used blank.
use mathlib.Core.Path.{◌≡◌, refl, sym}
use mathlib.Core.Bool.{true, ◌&&◌}
use mathlib.Core.List.{List, [], ◌∷◌, ◌++◌}
use Prim.Native.Nat.{ℕ, suc, ◌≤◌, ◌<◌}
use lib.Dec.{eqb, eqb→eq}
use lib.ListN.{length, take, drop, set}
use Rattle.format.proofs.Tests.{T_true, true_T, and_l, and_r}
use Rattle.format.proofs.Blanks as blanks
use Rattle.container.specs.declared.Container.{Container}
use Rattle.container.specs.Qos.{same_qos, no_qos}
use Rattle.container.specs.Container.{no_container}
use Rattle.container.specs.List.{is_blank, blanks, no_containers, padded}
use Rattle.container.proofs.Formats.{same_qos_lem}

-- a container of which every field is zero is the blank one
pub is_blank_lem : (c : Container) → is_blank c ≡ true → c ≡ no_container
unfolding is_blank
is_blank_lem c h =
    let t = true_T (is_blank c) h in
    let a = same_qos c.qos no_qos in
    let u = eqb c.uplink 0 in
    let w = eqb c.downlink 0 in
    let k = eqb c.condition 0 in
    let s = eqb c.time.seconds 0 in
    let z = eqb c.time.zone 0 in
    let t₁ = and_l (a && u && w && k && s) z t in
    let t₂ = and_l (a && u && w && k) s t₁ in
    let t₃ = and_l (a && u && w) k t₂ in
    let t₄ = and_l (a && u) w t₃ in
    let e₁ = same_qos_lem c.qos no_qos (T_true a (and_l a u t₄)) in
    let e₂ = eqb→eq c.uplink 0 (and_r a u t₄) in
    let e₃ = eqb→eq c.downlink 0 (and_r (a && u) w t₃) in
    let e₄ = eqb→eq c.condition 0 (and_r (a && u && w) k t₂) in
    let e₅ = eqb→eq c.time.seconds 0 (and_r (a && u && w && k) s t₁) in
    let e₆ = eqb→eq c.time.zone 0 (and_r (a && u && w && k && s) z t) in
    λ i. record { qos = e₁ i; uplink = e₂ i; downlink = e₃ i; condition = e₄ i; time = record { seconds = e₅ i; zone = e₆ i } }

pub blank_is : is_blank no_container ≡ true
unfolding is_blank same_qos
blank_is = refl

pub all_nil : blanks [] ≡ true
unfolding blanks
all_nil = refl

pub all_cons : (c : Container) (cs : List Container) → blanks (c ∷ cs) ≡ (is_blank c && blanks cs)
unfolding blanks
all_cons c cs = refl

pub no_none : no_containers 0 ≡ []
unfolding no_containers
no_none = refl

pub no_more : (n : ℕ) → no_containers (suc n) ≡ no_container ∷ no_containers n
unfolding no_containers
no_more n = refl

-- what the laws of such arrays are about
abbrev pub blank : blanks.Blank Container
blank = record {
  value = no_container;
  is = is_blank;
  all = blanks;
  many = no_containers;
  self = blank_is;
  told = is_blank_lem;
  nil = all_nil;
  cons = all_cons;
  none = no_none;
  more = no_more;
}

-- places are all blank where they hold as many blank containers
pub blanks_are : (cs : List Container) → blanks cs ≡ true → cs ≡ no_containers (length cs)
blanks_are = blanks.blanks_are blank

-- what was filled up is the front again, and a front with the rest blank fills up to the whole

pub take_padded : (cs : List Container) → take (length cs) (padded cs) ≡ cs
take_padded = blanks.take_filled blank 15

pub padded_length : (cs : List Container) → length cs ≤ 15 → length (padded cs) ≡ 15
padded_length = blanks.filled_length blank 15

pub padded_rest : (cs : List Container) → blanks (drop (length cs) (padded cs)) ≡ true
padded_rest = blanks.filled_rest blank 15

pub padded_take : (n : ℕ) (v : List Container) → length v ≡ 15 → n ≤ 15 → drop n v ≡ no_containers (length (drop n v)) → padded (take n v) ≡ v
padded_take = blanks.filled_take blank 15

pub padded_used : (v : List Container) (n : ℕ) → length v ≡ 15 → n ≤ 15 → blanks (drop n v) ≡ true → v ≡ padded (take n v)
padded_used v n size h b = sym (blanks.filled_used blank 15 n v size h b)

-- one container more
pub padded_more : (v : List Container) (n : ℕ) (c : Container) → length v ≡ 15 → n < 15 → blanks (drop n v) ≡ true → set v n c ≡ padded (take n v ++ (c ∷ []))
padded_more v n c size h b = blanks.filled_more blank 15 n v c size h b
