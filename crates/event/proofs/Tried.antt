-- What is in range, by what the code finds.
use mathlib.Core.Path.{◌≡◌, refl, ap}
use mathlib.Core.Bool.{Bool, true, false, ◌&&◌}
use mathlib.Core.List.{List}
use Rattle.std.specs.Prelude.{Option, is_some}
use Prim.Native.Nat.{ℕ, ◌<◌}
use native.Mathlib.Omega.{arith}
use lib.ListN.{length, drop, length-append, length-drop, take-append-drop}
use borrow.Author.Tests.{ne_eqb}
use Rattle.ber.specs.Imsi.{imsi_ok, imsi_room}
use Rattle.octets.specs.Names.{is_apn}
use Rattle.octets.proofs.Checked.{no_name}
use Rattle.event.specs.Fields.{subscriber_imsi, subscriber_ok, spelling_of, activate_ok}
use Rattle.ber.proofs.Imsis.{imsi_room_lem}

-- ---- an activate's fields

and-false : (a : Bool) → (a && false) ≡ false
and-false true = refl
and-false false = refl

pub activate_short : (s : List ℕ) → length s < 37 → false ≡ activate_ok s
unfolding activate_ok
activate_short s h =
    let f : is_apn (spelling_of s) ≡ false = no_name (spelling_of s) (omega (arith, length-drop 37 s)) in
    rw (f, and-false)

-- ---- a subscriber's IMSI

pub subscriber_short : (s : List ℕ) → length s < 15 → false ≡ subscriber_ok s
unfolding subscriber_ok imsi_ok
subscriber_short s h =
    rw (ne_eqb (length (subscriber_imsi s)) 8 (λ e. omega (
      arith,
      ap length (take-append-drop 8 (drop 7 s)),
      length-append (subscriber_imsi s) (drop 8 (drop 7 s)),
      length-drop 7 s,
    )))

pub subscriber_is : (s : List ℕ) {d : Option ℕ} → d ≡ imsi_room (subscriber_imsi s) → is_some d ≡ subscriber_ok s
unfolding subscriber_ok
subscriber_is s e = rw (e, imsi_room_lem (subscriber_imsi s))
