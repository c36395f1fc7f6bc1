-- Two records are within the rules, their octets are those that were written down by hand, and they are read back from them: computed by the definitions.
use mathlib.Core.Path.{◌≡◌}
use Rattle.std.specs.Prelude.{Some}
use lib.Dec.{T}
use Rattle.format.proofs.Formats.{eqs_eq}
use Rattle.ber.specs.Int.{int_enc, lowest}
use Rattle.ber.specs.Length.{len_enc}
use Rattle.ber.specs.Tlv.{tlv_enc}
use Rattle.ber.specs.Imsi.{halves, leading, all_f, imsi_ok, imsi_enc}
use Rattle.calendar.specs.Month.{month_len, seek, month_day}
use Rattle.calendar.specs.Stamp.{stamp_ok, stamp_enc}
use Rattle.octets.specs.Chars.{all_of, node_char}
use Rattle.octets.specs.Names.{node_ok}
use Rattle.octets.specs.Filled.{fill_to}
use Rattle.mcdr.specs.Change.{place_ok, same_place, follows, change}
use Rattle.mcdr.specs.Changes.{changes_ok, last_time, changes, no_changes, is_blank, blanks}
use Rattle.mcdr.specs.Rules.{list_rule, detach, cause_ok, full_ok, closing_ok, number_ok, all_places_ok, shaped, within}
use Rattle.mcdr.specs.Layout.{body, of_record, rules, inside, mcdr}
use Rattle.mcdr.specs.Sample.{sole, sole_octets, near, far, moved, moved_octets}
use Rattle.mcdr.proofs.Theorems.{round_trip}

-- ---- one that a detach closes with no change before

pub sole_within : T (rules sole)
unfolding sole fill_to no_changes same_place shaped within place_ok all_places_ok imsi_ok halves leading all_f all_of stamp_ok list_rule changes_ok last_time blanks
    is_blank cause_ok detach full_ok closing_ok number_ok node_ok node_char
sole_within = tt

pub sole_octets_lem : mcdr.enc sole ≡ sole_octets
unfolding sole sole_octets fill_to no_changes mcdr inside body of_record changes change tlv_enc len_enc int_enc lowest imsi_enc halves leading stamp_enc month_day
    seek month_len
sole_octets_lem = eqs_eq (mcdr.enc sole) sole_octets tt

pub sole_read : mcdr.dec sole_octets ≡ Some sole
sole_read = rw (← sole_octets_lem) (round_trip sole sole_within)

-- ---- one with two changes

pub moved_within : T (rules moved)
unfolding moved near far fill_to no_changes same_place follows shaped within place_ok all_places_ok imsi_ok halves leading all_f all_of stamp_ok list_rule changes_ok
    last_time blanks is_blank cause_ok detach full_ok closing_ok number_ok node_ok node_char
moved_within = tt

pub moved_octets_lem : mcdr.enc moved ≡ moved_octets
unfolding moved moved_octets near far fill_to no_changes mcdr inside body of_record changes change tlv_enc len_enc int_enc lowest imsi_enc halves leading
    stamp_enc month_day seek month_len
moved_octets_lem = eqs_eq (mcdr.enc moved) moved_octets tt

pub moved_read : mcdr.dec moved_octets ≡ Some moved
moved_read = rw (← moved_octets_lem) (round_trip moved moved_within)
