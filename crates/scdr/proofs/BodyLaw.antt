-- The law of the record's fields: that of each row's values, and no tag stands twice. The tags as plain lists, for who looks them up.
use mathlib.Core.Path.{◌≡◌, refl}
use mathlib.Core.List.{[], ◌∷◌}
use Prim.Native.Nat.{◌^◌}
use mathlib.Core.Bool.{true}
use lib.Dec.{leb, ltb}
use lib.ListN.{length}
use Rattle.format.specs.Format.{Law}
use Rattle.format.proofs.Formats.{octets_law, octet_law, exactly_law, refined_law}
use Rattle.ber.specs.Int.{int}
use Rattle.ber.specs.Field.{◌⨾◌}
use Rattle.ber.specs.Fixed.{ipv4}
use Rattle.ber.proofs.Ints.{int_law}
use Rattle.ber.proofs.Fixeds.{fixed_law, ipv4_law}
use Rattle.ber.proofs.Imsis.{imsi_law}
use Rattle.ber.proofs.Counts.{counted_law}
use Rattle.ber.proofs.Fields.{alone_law}
use Rattle.ber.proofs.Tables.{Laws, layout_law}
use Rattle.calendar.proofs.Stamps.{stamp_law}
use Rattle.container.proofs.Formats.{containers_law, containers_most}
use Rattle.scdr.specs.Table.{table, record_tags, mandatory, optional}
use Rattle.scdr.specs.Layout.{body}

-- in the table's order
laws : Laws table
laws =
    (exactly_law (18 ∷ []), tt)
    ⨾ tt
    ⨾ (imsi_law, tt)
    ⨾ (ipv4_law, tt)
    ⨾ (refined_law (λ n. ltb n (2 ^ 32)) int int_law, tt)
    ⨾ (ipv4_law, tt)
    ⨾ (octets_law 63 (λ x. leb 1 (length x)), tt)
    ⨾ (fixed_law 2, tt)
    ⨾ (alone_law 0xA0 ipv4 ipv4_law tt, tt)
    ⨾ (containers_law, rw containers_most tt)
    ⨾ (stamp_law, tt)
    ⨾ (int_law, tt)
    ⨾ tt
    ⨾ (octet_law (λ x. true), tt)
    ⨾ (counted_law, tt)
    ⨾ (octets_law 20 (λ x. leb 1 (length x)), tt)
    ⨾ tt

pub body_law : Law body
unfolding body
body_law = layout_law table laws tt

-- ---- the tags

pub record_tags_lem : record_tags ≡ 0x80 ∷ 0x81 ∷ 0x83 ∷ 0xA5 ∷ 0x8A ∷ 0xAB ∷ 0x8C ∷ 0x8D ∷ 0xAE ∷ 0xAF ∷ 0x90 ∷ 0x91 ∷ 0x92 ∷ 0x93 ∷ 0x95 ∷ 0x96 ∷ []
record_tags_lem = refl

pub mandatory_tags : mandatory ≡ 0x80 ∷ 0x83 ∷ 0xA5 ∷ 0x8A ∷ 0xAB ∷ 0x8C ∷ 0x8D ∷ 0xAE ∷ 0xAF ∷ 0x90 ∷ 0x91 ∷ 0x93 ∷ []
mandatory_tags = refl

pub optional_tags : optional ≡ 0x81 ∷ 0x92 ∷ 0x95 ∷ 0x96 ∷ []
optional_tags = refl
