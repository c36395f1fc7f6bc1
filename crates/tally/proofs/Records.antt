-- What a record within the rules says of a name: its charging ID, its GGSN's address and its number, found by lengths alone.
use Rattle.std.proofs.Common.{◌≡◌, ℕ, zero, suc, ◌^◌, ◌<◌, Bool, true, false, cond, ◌&&◌, T, eqb, ltb, List, [], ◌∷◌, ◌++◌, length, refl, ap, ◌∙◌, arith}
use Rattle.std.specs.Prelude.{None, Some}
use Rattle.format.specs.Format.{refined}
use Rattle.format.proofs.Formats.{refined_law}
use Rattle.ber.specs.Tlv.{tlv_enc}
use Rattle.ber.specs.Int.{int, counted}
use Rattle.ber.specs.Fixed.{ipv4}
use Rattle.ber.specs.Field.{starts, maybe, unless0}
use Rattle.ber.specs.Table.{Row, Value, Values, layout, row_good}
use Rattle.ber.proofs.Ints.{int_law}
use Rattle.ber.proofs.Fixeds.{ipv4_law}
use Rattle.ber.proofs.Counts.{counted_law}
use Rattle.ber.proofs.Fields.{first_complete, maybe_complete}
use Rattle.scdr.specs.declared.Record.{Record}
use Rattle.scdr.specs.Table.{
  RecordType,
  Network,
  Imsi,
  Sgsn,
  ChargingId,
  Ggsn,
  Apn,
  PdpType,
  Served,
  Containers,
  Opening,
  Duration,
  Change,
  Cause,
  Number,
  NodeId,
}
use Rattle.scdr.specs.Layout.{body, fields_of, of_record, rules, inside, scdr}
use Rattle.scdr.proofs.Theorems.{good_is_rules}
use Rattle.tally.specs.Seek.{seek}
use Rattle.tally.specs.Say.{Saying, other, carries, say_number, say_ggsn, say_of}
use Rattle.tally.specs.Named.{is_named}
use Rattle.tally.proofs.Seeks.{seek_end}
use Rattle.tally.proofs.Rows.{at_value, behind, rows_rest, past_rows}

-- ---- the number, the last but one of the rows

abbrev last_rows : List Row
last_rows = Number ∷ NodeId ∷ []

-- the node ID does not begin as a number does
no_number : (o : Value NodeId) → starts 0x95 ((layout (NodeId ∷ [])).enc (o, tt)) ≡ false
unfolding tlv_enc
no_number None = refl
no_number (Some n) = refl

says_number : (n : ℕ) (o : Value NodeId) → row_good Number (unless0 n) → length ((layout last_rows).enc (unless0 n, (o, tt))) < 65536
    → say_number ((layout last_rows).enc (unless0 n, (o, tt))) ≡ carries n
unfolding say_number maybe
says_number zero o g h = rw (past_rows 0x95 (NodeId ∷ []) [] (o, tt) refl h, seek_end 0x95)
says_number (suc n) o g h =
    rw (
      at_value 0x95 (counted.enc (suc n)) ((layout (NodeId ∷ [])).enc (o, tt)) h,
      maybe_complete 0x95 counted counted_law tt (Some (suc n)) ((layout (NodeId ∷ [])).enc (o, tt)) g (no_number o),
    )

-- ---- the rows before it

abbrev middle_rows : List Row
middle_rows = Apn ∷ PdpType ∷ Served ∷ Containers ∷ Opening ∷ Duration ∷ Change ∷ Cause ∷ []

abbrev front_rows : List Row
front_rows = RecordType ∷ Network ∷ Imsi ∷ Sgsn ∷ []

-- what stands from the charging ID on, and from the GGSN's address on
abbrev name_rows : List Row
name_rows = ChargingId ∷ Ggsn ∷ middle_rows ++ last_rows

abbrev ggsn_rows : List Row
ggsn_rows = Ggsn ∷ middle_rows ++ last_rows

same_number : (s y : List ℕ) → seek 0x95 s ≡ seek 0x95 y → say_number s ≡ say_number y
unfolding say_number
same_number s y e = rw e

-- the rows behind the GGSN's address, which say the number n
record Numbered (v : Values (middle_rows ++ last_rows)) (n : ℕ) : Type 0 where
  node : Value NodeId
  is : behind middle_rows last_rows v ≡ (unless0 n, (node, tt))
  good : row_good Number (unless0 n)

module _ {v : Values (middle_rows ++ last_rows)} {n : ℕ} (w : Numbered v n) where
  number_behind : length ((layout (middle_rows ++ last_rows)).enc v) < 65536 → say_number ((layout (middle_rows ++ last_rows)).enc v) ≡ carries n
  number_behind h =
      let l = rows_rest middle_rows last_rows v in
      let q = ap (λ (z : Values last_rows). length ((layout last_rows).enc z)) w.is in
      same_number ((layout (middle_rows ++ last_rows)).enc v) ((layout last_rows).enc (behind middle_rows last_rows v)) (past_rows 0x95 middle_rows last_rows v refl h)
      ∙ ap (λ (z : Values last_rows). say_number ((layout last_rows).enc z)) w.is
      ∙ says_number n w.node w.good (omega arith)

  module _ (ggsn a : ℕ) (g : row_good Ggsn a) where
    ggsn_behind : length ((layout ggsn_rows).enc (a, v)) < 65536 → say_ggsn ggsn ((layout ggsn_rows).enc (a, v)) ≡ cond (eqb a ggsn) (carries n) other
    unfolding say_ggsn
    ggsn_behind h =
        let y = (layout (middle_rows ++ last_rows)).enc v in
        let l = rows_rest (Ggsn ∷ []) (middle_rows ++ last_rows) (a, v) in
        rw (at_value 0xAB (ipv4.enc a) y h, first_complete 0xAB ipv4 ipv4_law tt a y g, number_behind (omega arith))

    module _ (id b : ℕ) (k : row_good ChargingId b) where
      name_behind : length ((layout name_rows).enc (b, (a, v))) < 65536
          → say_of id ggsn ((layout name_rows).enc (b, (a, v))) ≡ cond (eqb b id) (cond (eqb a ggsn) (carries n) other) other
      unfolding say_of
      name_behind h =
          let y = (layout ggsn_rows).enc (a, v) in
          let l = rows_rest (ChargingId ∷ []) ggsn_rows (b, (a, v)) in
          let x = refined (λ n. ltb n (2 ^ 32)) int in
          rw (
            at_value 0x8A (x.enc b) y h,
            first_complete 0x8A x (refined_law (λ n. ltb n (2 ^ 32)) int int_law) tt b y k,
            ggsn_behind (omega arith),
          )

-- ---- a record within the rules

same_name_lem : (id ggsn : ℕ) (s y : List ℕ) → seek 0x8A s ≡ seek 0x8A y → say_of id ggsn s ≡ say_of id ggsn y
unfolding say_of
same_name_lem id ggsn s y e = rw e

both_tests : (a b : Bool) (x y : Saying) → cond a (cond b x y) y ≡ cond (a && b) x y
both_tests true b x y = refl
both_tests false b x y = refl

-- it is of the name, and carries its number; or of another
pub says_name : (id ggsn : ℕ) (r : Record) → T (rules r) → length (inside.enc r) < 65536
    → say_of id ggsn (inside.enc r) ≡ cond (is_named id ggsn r) (carries r.number) other
unfolding inside scdr body of_record fields_of
says_name id ggsn r t h =
    let g = ((good_is_rules r).1 t).0.0 in
    let v = of_record r in
    let l = rows_rest front_rows name_rows v in
    let w : Numbered (behind (front_rows ++ (ChargingId ∷ Ggsn ∷ [])) (middle_rows ++ last_rows) v) r.number =
    record { node = _; is = refl; good = g.1.1.1.1.1.1.1.1.1.1.1.1.1.1.0 } in
    same_name_lem id ggsn (inside.enc r) ((layout name_rows).enc (behind front_rows name_rows v)) (past_rows 0x8A front_rows name_rows v refl h)
    ∙ name_behind w ggsn r.ggsn g.1.1.1.1.1.0 id r.charging g.1.1.1.1.0 (omega arith)
    ∙ both_tests (eqb r.charging id) (eqb r.ggsn ggsn) (carries r.number) other
