-- A profile and a container read field by field, and what is written put together.
use mathlib.Core.Path.{◌≡◌, refl, sym, subst}
use mathlib.Core.Bool.{true, false, ◌&&◌}
use Rattle.std.specs.Prelude.{Option, None, Some, IsSomeAnd}
use mathlib.Core.List.{List, [], ◌++◌}
use Prim.Native.Nat.{ℕ, ◌<◌}
use native.Mathlib.Omega.{arith}
use lib.Dec.{T, eqb}
use lib.ListN.{length}
use Rattle.format.specs.Maybe.{bind, guard}
use Rattle.format.proofs.Tests.{by, T_true, and_l}
use Rattle.format.proofs.Maybe.{guard_yes}
use Rattle.ber.specs.Tlv.{tlv_enc}
use Rattle.ber.specs.Field.{first, new}
use Rattle.ber.specs.Table.{row_enc, row_dec, tag}
use Rattle.ber.specs.Read.{read_at}
use Rattle.ber.specs.Write.{Puts}
use Rattle.ber.proofs.Readers.{read_some}
use Rattle.ber.specs.Table.{rows_at}
use Rattle.ber.proofs.Tables.{table_is}
use Rattle.ber.proofs.Writers.{wrote, wrote_last}
use Rattle.ber.specs.Private.Wrote.{Wrote}
use Rattle.ber.specs.Private.Filled.{Filled}
use Rattle.ber.proofs.Ready.{filled_of}
use Rattle.calendar.specs.declared.Stamp.{Stamp}
use Rattle.calendar.specs.Stamp.{stamp_ok}
use Rattle.container.specs.declared.Qos.{Qos}
use Rattle.container.specs.declared.Container.{Container}
use Rattle.container.specs.Qos.{qos_ok, same_qos, Reliability, Delay, Precedence, Peak, Mean, qos_table, qos, to_qos, of_qos}
use Rattle.container.specs.Container.{container_ok, is_new, is_told, formed, QosAfter, Uplink, Downlink, Condition, Time, container_table}
use Rattle.container.specs.Container.{container, to_container, of_container}
use Rattle.container.specs.Private.NewForm.{new_form}
use Rattle.container.proofs.Formats.{qos_law, qos_good, told_none, told_some, container_law, container_good, within}

-- ---- read

-- a profile, of octets s that are all its contents
pub qos_is : (s : List ℕ) → qos.dec s ≡ bind (rows_at s qos_table 0) (λ q. guard (eqb q.1 (length s) && qos_ok (to_qos q.0)) (to_qos q.0))
unfolding qos
qos_is s = table_is s qos_table to_qos of_qos qos_ok

-- the QoS of a container after another one
module _ (z : Container) (s : List ℕ) where
  pub qos_read : is_new z ≡ true → read_at (row_dec (QosAfter z)) s 0 ≡ read_at (first (tag (QosAfter z)) qos) s 0
  unfolding new
  qos_read h = rw (told_none z h)

  pub qos_told : is_new z ≡ false → read_at (row_dec (QosAfter z)) s 0 ≡ Some (z.qos, 0)
  unfolding new
  qos_told h = rw (told_some z h) (read_some (new (tag (QosAfter z)) qos (Some z.qos)) s 0 (omega arith) (omega arith) refl)

  -- a container after it, of octets s that are all its contents
  pub container_is : (container z).dec s ≡ bind (rows_at s (container_table z) 0)
      (λ q. guard (eqb q.1 (length s) && container_ok (to_container q.0)) (to_container q.0))
  unfolding container
  container_is = table_is s (container_table z) to_container of_container container_ok

-- ---- written

-- five fields in an array that has room for them
pub qos_filled : (q : Qos) {b b' : List ℕ} {r : Option ℕ} → length b ≡ 15 → T (qos_ok q) → Wrote (qos.enc q) b b' 0 r
    → IsSomeAnd r (λ n. Filled (qos.enc q) 15 b' n)
unfolding qos
qos_filled q room ok w = filled_of room w (qos_law.fits q (qos_good q ok))

-- a QoS after z

module _ (z c : Container) where
  pub told_always : is_new z ≡ true → true ≡ is_told z c
  unfolding is_told
  told_always h = rw h

  pub told_same : is_new z ≡ false → same_qos z.qos c.qos ≡ is_told z c
  unfolding is_told
  told_same h = rw h

module _ (z : Container) (q : Qos) where
  pub form_own : is_new z ≡ true → guard (qos_ok q) (tlv_enc (tag (QosAfter z)) (qos.enc q)) ≡ new_form z q
  unfolding new_form
  form_own h = rw h

  pub form_none : is_new z ≡ false → Some [] ≡ new_form z q
  unfolding new_form
  form_none h = rw h

-- which containers have a form after z
module _ (z c : Container) where
  pub formed_yes : container_ok c ≡ true → is_told z c ≡ true → formed z c ≡ true
  formed_yes h k = rw (h, k)

  pub formed_bad : container_ok c ≡ false → formed z c ≡ false
  formed_bad h = rw h

  pub formed_untold : container_ok c ≡ true → is_told z c ≡ false → formed z c ≡ false
  formed_untold h k = rw (h, k)

-- what of it stands in front: its octets after z
pub new_form_lem : (z c : Container) → T (qos_ok c.qos) → new_form z c.qos ≡ Some (row_enc (QosAfter z) c.qos)
unfolding new_form
new_form_lem z c t =
    by (is_new z)
    (λ y. rw (y, told_none z y, T_true (qos_ok c.qos) t))
    (λ n. rw (n, told_some z n))

of_formed : (z c : Container) → T (formed z c) → T (container_ok c)
of_formed z c ok = and_l (container_ok c) (is_told z c) ok

module _ (z c : Container) {b b' : List ℕ} {r : Option ℕ} (ok : T (formed z c)) where
  -- a container's fields in an array that has room for them
  pub container_filled : length b ≡ 53 → Wrote ((container z).enc c) b b' 0 r → IsSomeAnd r (λ n. Filled ((container z).enc c) 53 b' n)
  unfolding container qos
  container_filled room w = filled_of room w ((container_law z).fits c (container_good z c ok))

  -- the first of them, and the last
  pub qos_first : {at : ℕ} → Puts (new_form z c.qos) b b' at r → Wrote (row_enc (QosAfter z) c.qos) b b' at r
  qos_first p = wrote (new_form_lem z c (within c (of_formed z c ok)).qos) p

  pub time_last : {at : ℕ} → Puts (guard (stamp_ok c.time) (row_enc Time c.time)) b b' at r → Wrote (row_enc Time c.time ++ []) b b' at r
  time_last p = wrote_last (wrote (guard_yes (stamp_ok c.time) _ (within c (of_formed z c ok)).time) p)
