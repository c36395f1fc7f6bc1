-- The laws of the three formats, and how long their forms get. Which values have a form: those that the tests of specs/ take, and no
-- others.
use mathlib.Core.Path.{◌≡◌, refl, sym, subst}
use mathlib.Core.Bool.{Bool, true, false, not, ◌&&◌, beq}
use Rattle.std.specs.Prelude.{None, Some}
use mathlib.Core.List.{List, [], ◌∷◌}
use Prim.Native.Nat.{ℕ, ◌^◌, ◌≤◌, ◌<◌}
use native.Mathlib.Omega.{arith}
use lib.Dec.{T, leb, ltb, eqb, leb→le, ltb→lt, eqb→eq, eqb_refl}
use lib.ListN.{length}
use Rattle.format.specs.Format.{Law, mapped}
use Rattle.format.proofs.Formats.{octet_law, refined_law, mapped_law}
use Rattle.format.proofs.Tests.{by, T_true, true_T, and_l, and_r, and_i}
use Rattle.ber.specs.Field.{run_good, any_octet, ◌⨾◌}
use Rattle.ber.specs.Table.{layout, row_good}
use Rattle.ber.proofs.Ints.{int_law, int_good}
use Rattle.ber.proofs.Fields.{Caps, many_law}
use Rattle.ber.proofs.Tables.{Laws, layout_law}
use Rattle.calendar.specs.declared.Stamp.{Stamp}
use Rattle.calendar.specs.Stamp.{stamp_ok}
use Rattle.calendar.proofs.Stamps.{stamp_law}
use Rattle.container.specs.declared.Qos.{Qos}
use Rattle.container.specs.declared.Container.{Container}
use Rattle.container.specs.Qos.{qos_ok, same_qos, qos_table, qos, to_qos, of_qos}
use Rattle.container.specs.Container.{container_ok, is_new, told, is_told, formed, container_tag, QosAfter, container_table, container, to_container}
use Rattle.container.specs.Container.{of_container, no_container}
use Rattle.container.specs.List.{each_ok, last_alone, one_offset, in_order, changes, qos_rule, list_ok, containers, all_formed}

-- five tests that all pass
five : (a b c d e : Bool) → T (a && b && c && d && e) → T a × T b × T c × T d × T e
five a b c d e t =
    let s = and_l (a && b && c && d) e t in
    let r = and_l (a && b && c) d s in
    let q = and_l (a && b) c r in
    (and_l a b q, and_r a b q, and_r (a && b) c r, and_r (a && b && c) d s, and_r (a && b && c && d) e t)

-- ---- the formats are lawful

an_octet : Law any_octet × Caps any_octet
an_octet = (octet_law (λ x. true), tt)

qos_laws : Laws qos_table
qos_laws = an_octet ⨾ an_octet ⨾ an_octet ⨾ an_octet ⨾ an_octet ⨾ tt

pub qos_law : Law qos
unfolding qos
qos_law =
    refined_law qos_ok (mapped to_qos of_qos (layout qos_table))
    (mapped_law to_qos of_qos (layout qos_table) (layout_law qos_table qos_laws tt) (λ w g. refl) (λ q. refl))

pub qos_most : qos.most ≡ 15
unfolding qos
qos_most = refl

container_laws : (b : Container) → Laws (container_table b)
container_laws b = (qos_law, rw qos_most tt) ⨾ (int_law, tt) ⨾ (int_law, tt) ⨾ an_octet ⨾ (stamp_law, tt) ⨾ tt

pub container_law : (b : Container) → Law (container b)
unfolding container
container_law b =
    refined_law container_ok (mapped to_container of_container (layout (container_table b)))
    (mapped_law to_container of_container (layout (container_table b)) (layout_law (container_table b) (container_laws b) tt) (λ w g. refl) (λ c. refl))

pub container_most : (b : Container) → (container b).most ≡ 53
unfolding container qos
container_most b = refl

pub containers_law : Law containers
unfolding containers
containers_law = many_law container_tag container container_law 53 (λ b. omega (arith, container_most b)) tt no_container 1 15

pub containers_most : containers.most ≡ 825
unfolding containers
containers_most = refl

-- ---- a profile

pub qos_good : (q : Qos) → T (qos_ok q) → qos.good q
unfolding qos
qos_good q t = ((tt, (tt, (tt, (tt, (tt, tt))))), t)

pub good_qos : (q : Qos) → qos.good q → T (qos_ok q)
unfolding qos
good_qos q g = g.1

-- two profiles of which each number is the same are one
pub same_qos_lem : (a b : Qos) → same_qos a b ≡ true → a ≡ b
unfolding same_qos
same_qos_lem a b h =
    let (r, d, p, k, m) =
    five (eqb a.reliability b.reliability) (eqb a.delay b.delay) (eqb a.precedence b.precedence) (eqb a.peak b.peak)
    (eqb a.mean b.mean)
    (true_T (same_qos a b) h) in
    let e₁ = eqb→eq a.reliability b.reliability r in
    let e₂ = eqb→eq a.delay b.delay d in
    let e₃ = eqb→eq a.precedence b.precedence p in
    let e₄ = eqb→eq a.peak b.peak k in
    let e₅ = eqb→eq a.mean b.mean m in
    λ i. record { reliability = e₁ i; delay = e₂ i; precedence = e₃ i; peak = e₄ i; mean = e₅ i }

pub qos_same : (a b : Qos) → a ≡ b → same_qos a b ≡ true
unfolding same_qos
qos_same a b e =
    subst (λ (q : Qos). same_qos a q ≡ true) e
    (rw (refl_true a.reliability, refl_true a.delay, refl_true a.precedence, refl_true a.peak, refl_true a.mean))
  where
    refl_true : (n : ℕ) → eqb n n ≡ true
    refl_true n = T_true (eqb n n) (eqb_refl n)

-- ---- a container

-- what the test of a container says of each of its values
pub record Within (c : Container) : Type 0 where
  pub qos : T (qos_ok c.qos)
  pub uplink : c.uplink < 2 ^ 40
  pub downlink : c.downlink < 2 ^ 40
  pub condition : T (leb c.condition 2)
  pub time : T (stamp_ok c.time)

pub within : (c : Container) → T (container_ok c) → Within c
unfolding container_ok
within c t =
    let (q, u, d, w, s) = five (qos_ok c.qos) (ltb c.uplink (2 ^ 40)) (ltb c.downlink (2 ^ 40)) (leb c.condition 2) (stamp_ok c.time) t in
    record { qos = q; uplink = ltb→lt c.uplink (2 ^ 40) u; downlink = ltb→lt c.downlink (2 ^ 40) d; condition = w; time = s }

-- after a container that tells no QoS, and after one that tells it

pub told_none : (b : Container) → is_new b ≡ true → told b ≡ None
unfolding told
told_none b h = rw h

pub told_some : (b : Container) → is_new b ≡ false → told b ≡ Some b.qos
unfolding told
told_some b h = rw h

new_good_lem : (b c : Container) → T (qos_ok c.qos) → T (is_told b c) → row_good (QosAfter b) c.qos
unfolding is_told
new_good_lem b c q t =
    by (is_new b)
    (λ y. rw (told_none b y) (qos_good c.qos q))
    (λ n. rw (told_some b n) (sym (same_qos_lem b.qos c.qos (T_true _ (rw n at t)))))

good_new : (b c : Container) → row_good (QosAfter b) c.qos → T (is_told b c)
unfolding is_told
good_new b c g =
    by (is_new b)
    (λ y. rw y tt)
    (λ n. rw n (true_T _ (qos_same b.qos c.qos (sym (rw (told_some b n) at g)))))

pub container_good : (b c : Container) → T (formed b c) → (container b).good c
unfolding container qos
container_good b c t =
    let k = and_l (container_ok c) (is_told b c) t in
    let w = within c k in (
      (
        new_good_lem b c w.qos (and_r (container_ok c) (is_told b c) t),
        (
          int_good c.uplink (omega (arith, w.uplink)),
          (
            int_good c.downlink
                (omega (arith, w.downlink)),
            (tt, (w.time, tt)),
          ),
        ),
      ),
      k,
    )

pub good_container : (b c : Container) → (container b).good c → T (formed b c)
unfolding container qos
good_container b c g = and_i (container_ok c) (is_told b c) g.1 (good_new b c g.0.0)

-- ---- a list

run_good_lem : (b : Container) (cs : List Container) → T (all_formed b cs) → run_good container_tag container b cs
unfolding all_formed
run_good_lem b [] t = tt
run_good_lem b (c ∷ cs) t = (container_good b c (and_l (formed b c) (all_formed c cs) t), run_good_lem c cs (and_r (formed b c) (all_formed c cs) t))

good_run : (b : Container) (cs : List Container) → run_good container_tag container b cs → T (all_formed b cs)
unfolding all_formed
good_run b [] g = tt
good_run b (c ∷ cs) g = and_i (formed b c) (all_formed c cs) (good_container b c g.0) (good_run c cs g.1)

pub each_good : (cs : List Container) → T (all_formed no_container cs) → 1 ≤ length cs → length cs ≤ 15 → containers.good cs
unfolding containers container
each_good cs t l h = (run_good_lem no_container cs t, l, h)

pub good_each : (cs : List Container) → containers.good cs → T (all_formed no_container cs) × (1 ≤ length cs) × (length cs ≤ 15)
unfolding containers container
good_each cs g = (good_run no_container cs g.0, g.1, g.2)

-- The rules between containers tell each QoS: after a QoS change it is there, and else it is the same.
module _ (b : Container) where
  changes_told : (c : Container) → T (changes b c.qos) → T (is_told b c)
  unfolding is_told is_new
  changes_told c t = by (is_new b) (λ y. rw y tt) (λ n. rw n (true_T _ (alike (same_qos b.qos c.qos) (rw n at t))))
    where
      alike : (x : Bool) → T (beq (not x) false) → x ≡ true
      alike true t = refl
      alike false t = absurd t

rule_formed : (b : Container) (cs : List Container) → T (each_ok cs) → T (qos_rule (b ∷ cs)) → T (all_formed b cs)
unfolding all_formed each_ok qos_rule
rule_formed b [] t r = tt
rule_formed b (c ∷ cs) t r =
    and_i (formed b c) (all_formed c cs)
    (and_i (container_ok c) (is_told b c) (and_l (container_ok c) (each_ok cs) t) (changes_told b c (and_l (changes b c.qos) (qos_rule (c ∷ cs)) r)))
    (rule_formed c cs (and_r (container_ok c) (each_ok cs) t) (and_r (changes b c.qos) (qos_rule (c ∷ cs)) r))

-- so a list that keeps them has a form
pub first_formed : (cs : List Container) → T (each_ok cs) → T (qos_rule cs) → T (all_formed no_container cs)
unfolding all_formed each_ok is_told is_new
first_formed [] t r = tt
first_formed (c ∷ cs) t r =
    and_i (formed no_container c) (all_formed c cs) (and_i (container_ok c) true (and_l (container_ok c) (each_ok cs) t) tt)
    (rule_formed c cs (and_r (container_ok c) (each_ok cs) t) r)

-- what keeps the rules has a form
pub list_good : (opening : Stamp) (cs : List Container) → T (list_ok opening cs) → containers.good cs
unfolding list_ok
list_good opening cs t =
    let n = leb 1 (length cs) && leb (length cs) 15 in
    let q = n && each_ok cs && last_alone cs && one_offset opening.zone cs && in_order opening.seconds cs in
    let a = and_l q (qos_rule cs) t in
    let b = and_l (n && each_ok cs && last_alone cs && one_offset opening.zone cs) (in_order opening.seconds cs) a in
    let c = and_l (n && each_ok cs && last_alone cs) (one_offset opening.zone cs) b in
    let d = and_l (n && each_ok cs) (last_alone cs) c in
    let m = and_l n (each_ok cs) d in
    each_good cs (first_formed cs (and_r n (each_ok cs) d) (and_r q (qos_rule cs) t))
    (leb→le 1 (length cs) (and_l (leb 1 (length cs)) (leb (length cs) 15) m)) (leb→le (length cs) 15 (and_r (leb 1 (length cs)) (leb (length cs) 15) m))
