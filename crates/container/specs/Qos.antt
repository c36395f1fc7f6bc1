-- The QoS profile (12.15's QoSInformation): values and octets.
use Rattle.std.specs.Prelude.{Bool, ◌&&◌, List, [], ◌∷◌, leb, eqb}
use Rattle.format.specs.Format.{Fmt, refined, mapped}
use Rattle.ber.specs.Field.{any_octet, ◌⨾◌}
use Rattle.ber.specs.Table.{Row, always, Values, layout}
use Rattle.container.specs.declared.Qos.{Qos}

-- reliability 0..5, delay 0..3, precedence 0..3, peak 0..9, mean 0..18
unfoldable pub qos_ok : Qos → Bool
qos_ok q = leb q.reliability 5 && leb q.delay 3 && leb q.precedence 3 && leb q.peak 9 && leb q.mean 18

-- the same profile
unfoldable pub same_qos : Qos → Qos → Bool
same_qos a b =
    eqb a.reliability b.reliability && eqb a.delay b.delay && eqb a.precedence b.precedence
    && eqb a.peak b.peak && eqb a.mean b.mean

-- ---- its octets: "80..84, one octet each" (01). A row a field: its tag, when it is there, its values

abbrev pub Reliability : Row
Reliability = always 0x80 any_octet

abbrev pub Delay : Row
Delay = always 0x81 any_octet

abbrev pub Precedence : Row
Precedence = always 0x82 any_octet

abbrev pub Peak : Row
Peak = always 0x83 any_octet

abbrev pub Mean : Row
Mean = always 0x84 any_octet

abbrev pub qos_table : List Row
qos_table = Reliability ∷ Delay ∷ Precedence ∷ Peak ∷ Mean ∷ []

abbrev pub QosFields : Type 0
QosFields = Values qos_table

abbrev pub to_qos : QosFields → Qos
to_qos (reliability, (delay, (precedence, (peak, (mean, _))))) =
    record { reliability = reliability; delay = delay; precedence = precedence; peak = peak; mean = mean }

abbrev pub of_qos : Qos → QosFields
of_qos q = q.reliability ⨾ q.delay ⨾ q.precedence ⨾ q.peak ⨾ q.mean ⨾ tt

-- the format: five octets, in range
unfoldable pub qos : Fmt Qos
qos = refined qos_ok (mapped to_qos of_qos (layout qos_table))

-- nothing said
abbrev pub no_qos : Qos
no_qos = record { reliability = 0; delay = 0; precedence = 0; peak = 0; mean = 0 }
