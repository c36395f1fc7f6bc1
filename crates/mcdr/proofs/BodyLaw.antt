-- The law of the record's fields: that of each row's values, and no tag stands twice. The tags as plain lists, for who looks them up.
use mathlib.Core.Path.{◌≡◌, refl}
use mathlib.Core.Bool.{true}
use mathlib.Core.List.{[], ◌∷◌}
use Prim.Native.Nat.{◌^◌}
use lib.Dec.{leb, ltb}
use lib.ListN.{length}
use Rattle.format.specs.Format.{Law}
use Rattle.format.proofs.Formats.{octets_law, octet_law, exactly_law, refined_law}
use Rattle.ber.specs.Int.{int}
use Rattle.ber.specs.Field.{◌⨾◌}
use Rattle.ber.specs.Table.{tags, tags_always, tags_sometimes}
use Rattle.ber.proofs.Ints.{int_law}
use Rattle.ber.proofs.Fixeds.{fixed_law, ipv4_law}
use Rattle.ber.proofs.Imsis.{imsi_law}
use Rattle.ber.proofs.Counts.{counted_law}
use Rattle.ber.proofs.Tables.{Laws, layout_law}
use Rattle.calendar.proofs.Stamps.{stamp_law}
use Rattle.mcdr.specs.Table.{table}
use Rattle.mcdr.specs.Layout.{body}
use Rattle.mcdr.proofs.Formats.{changes_law, changes_most}

-- in the table's order
laws : Laws table
laws =
    (exactly_law (20 ∷ []), tt)
    ⨾ (imsi_law, tt)
    ⨾ (ipv4_law, tt)
    ⨾ (octet_law (λ x. true), tt)
    ⨾ (fixed_law 2, tt)
    ⨾ (changes_law, rw changes_most tt)
    ⨾ (stamp_law, tt)
    ⨾ (refined_law (λ n. ltb n (2 ^ 32)) int int_law, tt)
    ⨾ (octet_law (λ x. true), tt)
    ⨾ (counted_law, tt)
    ⨾ (octets_law 20 (λ x. leb 1 (length x)), tt)
    ⨾ tt

pub body_law : Law body
unfolding body
body_law = layout_law table laws tt

-- ---- the tags

pub record_tags_lem : tags table ≡ 0x80 ∷ 0x81 ∷ 0xA3 ∷ 0x85 ∷ 0x86 ∷ 0xA8 ∷ 0x89 ∷ 0x8A ∷ 0x8C ∷ 0x8E ∷ 0x8F ∷ []
record_tags_lem = refl

pub mandatory_tags : tags_always table ≡ 0x80 ∷ 0x81 ∷ 0xA3 ∷ 0x85 ∷ 0x86 ∷ 0x89 ∷ 0x8A ∷ 0x8C ∷ []
mandatory_tags = refl

pub optional_tags : tags_sometimes table ≡ 0xA8 ∷ 0x8E ∷ 0x8F ∷ []
optional_tags = refl
