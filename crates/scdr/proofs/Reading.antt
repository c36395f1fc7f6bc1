-- The fields read one after another are the body: in the parts in which the code reads them.
use mathlib.Core.Path.{◌≡◌, refl, sym, ap, ◌∙◌}
use mathlib.Core.Bool.{Bool}
use Rattle.std.specs.Prelude.{Option, None, Some}
use mathlib.Core.List.{List}
use Prim.Native.Nat.{ℕ}
use lib.Dec.{eqb}
use lib.ListN.{length}
use Rattle.format.specs.Maybe.{bind, guard}
use Rattle.format.proofs.Maybe.{bind_bind}
use Rattle.format.proofs.Tests.{by}
use Rattle.ber.specs.Table.{Values, row_dec, rows_at, both, tag}
use Rattle.ber.specs.Read.{read_at}
use Rattle.ber.specs.Text.{or_none, text}
use Rattle.ber.proofs.Tables.{ended, layout_is, rows_then, rows_with, with_at}
use Rattle.ber.specs.Field.{unless_none}
use Rattle.ber.proofs.Readers.{into}
use Rattle.ber.proofs.Texts.{text_back, none_kept}
use Rattle.calendar.specs.declared.Stamp.{Stamp}
use Rattle.container.specs.declared.Container.{Container}
use Rattle.container.specs.List.{lists_at, padded}
use Rattle.octets.specs.Filled.{fill_to}
use Rattle.scdr.specs.declared.fields.Wire.{Wire}
use Rattle.scdr.specs.Table.{Ggsn, Apn, PdpType, Served, Containers, NodeId, table}
use Rattle.scdr.specs.Layout.{Fields, body, to_record}
use Rattle.scdr.specs.Private.Parts.{front_rows, end_rows}
use Rattle.scdr.specs.Private.Pieces.{front, front_of, end, end_of, name_rows, rest_rows, fields_at, wire, wire_of}

-- ---- the fields are the body

module _ (s : List ℕ) where
  pub body_fields : body.dec s ≡ bind (fields_at s) (λ x. Some x.0)
  unfolding body fields_at
  body_fields = layout_is s table ∙ ap (ended s) (rows_then s name_rows rest_rows 0) ∙ go (rows_at s name_rows 0)
    where
      inner : (v : Values name_rows) (n : ℕ) (o : Option (Values rest_rows × ℕ))
          → ended {A = Fields} s (bind o (λ q. Some (both name_rows rest_rows v q.0, q.1)))
          ≡ bind {A = Fields × ℕ} (bind o (λ q. guard (eqb q.1 (length s)) (both name_rows rest_rows v q.0, n))) (λ x. Some x.0)
      inner v n None = refl
      inner v n (Some q) = by (eqb q.1 (length s)) (λ y. rw y) (λ k. rw k)

      go : (o : Option (Values name_rows × ℕ))
          → ended {A = Fields} s (bind o (λ p. bind (rows_at s rest_rows p.1) (λ q. Some (both name_rows rest_rows p.0 q.0, q.1))))
          ≡ bind {A = Fields × ℕ} (bind o (λ p. bind (rows_at s rest_rows p.1) (λ q. guard (eqb q.1 (length s)) (both name_rows rest_rows p.0 q.0, p.1))))
          (λ x. Some x.0)
      go None = refl
      go (Some p) = inner p.0 p.1 (rows_at s rest_rows p.1)

-- ---- the parts in which the code reads them

-- what it makes of them
abbrev leaf : Bool × List ℕ × ℕ × ℕ → ℕ → List ℕ → ℕ → ℕ → ℕ → ℕ × List Container → Stamp × ℕ × Bool × ℕ × ℕ → List ℕ → Wire
leaf f ggsn apn n pdptype address c e node = record {
  cdr = record {
    network = f.0;
    imsi = f.1;
    sgsn = f.2;
    charging = f.3;
    ggsn = ggsn;
    apn = fill_to 63 0 apn;
    apnlen = length apn;
    pdptype = pdptype;
    address = address;
    containers = c.1;
    count = c.0;
    opening = e.0;
    change = e.2;
    cause = e.3;
    number = e.4;
    nodeid = fill_to 20 0 node;
    nodelen = length node;
  };
  lasts = e.1;
  name_end = n;
}

module _ (s : List ℕ) where
  front_step : (k : Bool × List ℕ × ℕ × ℕ → ℕ → Option Wire) → rows_with s front_rows 0 (λ v n. k (front v) n) ≡ bind (front_of s) (λ f. k f.0 f.1)
  unfolding front_of
  front_step k =
      sym (with_at s front_rows 0 (λ v n. k (front v) n)) ∙ sym (bind_bind (rows_at s front_rows 0) (λ p. Some (front p.0, p.1)) (λ f. k f.0 f.1))

  end_step : (at : ℕ) (k : Stamp × ℕ × Bool × ℕ × ℕ → ℕ → Option Wire)
      → rows_with s end_rows at (λ v n. k (end v) n) ≡ bind (end_of s at) (λ e. k e.0 e.1)
  unfolding end_of
  end_step at k =
      sym (with_at s end_rows at (λ v n. k (end v) n)) ∙ sym (bind_bind (rows_at s end_rows at) (λ p. Some (end p.0, p.1)) (λ e. k e.0 e.1))

  list_step : (at : ℕ) (k : ℕ × List Container → ℕ → Option Wire)
      → bind (read_at (row_dec Containers) s at) (λ p. k (length p.0, padded p.0) p.1) ≡ bind (lists_at s at (tag Containers)) (λ c. k c.0 c.1)
  unfolding lists_at
  list_step at k = sym (bind_bind (read_at (row_dec Containers) s at) (λ p. Some ((length p.0, padded p.0), p.1)) (λ c. k c.0 c.1))

  node_step : (at : ℕ) (k : List ℕ → ℕ → Option Wire)
      → bind (read_at (row_dec NodeId) s at) (λ n. k (or_none n.0) n.1) ≡ bind (read_at (text (tag NodeId) 20) s at) (λ n. k n.0 n.1)
  node_step at k =
      ap (λ (o : Option (Option (List ℕ) × ℕ)). bind o (λ n. k (or_none n.0) n.1)) (text_back (tag NodeId) 20 s at) ∙ go (read_at (text (tag NodeId) 20) s at)
    where
      go : (o : Option (List ℕ × ℕ)) → bind {A = Option (List ℕ) × ℕ} (into (λ x. Some (unless_none x)) o) (λ n. k (or_none n.0) n.1) ≡ bind o (λ n. k n.0 n.1)
      go None = refl
      go (Some q) = ap (λ (x : List ℕ). k x q.1) (none_kept q.0)

  -- GGSN to served address, and then k
  abbrev middle : ℕ → (ℕ → List ℕ → ℕ → ℕ → ℕ → ℕ → Option Wire) → Option Wire
  middle at k =
      bind (read_at (row_dec Ggsn) s at) (λ g. bind (read_at (row_dec Apn) s g.1) (λ a. bind (read_at (row_dec PdpType) s a.1)
      (λ t. bind (read_at (row_dec Served) s t.1) (λ d. k g.0 a.0 a.1 t.0 d.0 d.1))))

  -- the containers, opening time to number, the node's name, the end
  abbrev part_four : (f : Bool × List ℕ × ℕ × ℕ) (g : ℕ) (a : List ℕ) (n t d : ℕ) → ℕ × List Container → Stamp × ℕ × Bool × ℕ × ℕ → List ℕ → ℕ → Option Wire
  part_four f g a n t d c e x m = guard (eqb m (length s)) (leaf f g a n t d c e x)

  abbrev code : Option Wire
  code = bind (front_of s) (λ f. middle f.1 (λ g a n t d at. bind (lists_at s at (tag Containers)) (λ c. bind (end_of s c.1)
      (λ e. bind (read_at (text (tag NodeId) 20) s e.1) (λ x. part_four f.0 g a n t d c.0 e.0 x.0 x.1)))))

  pub wire_is : wire_of s ≡ code
  unfolding wire_of fields_at to_record
  wire_is =
      whole (rows_at s name_rows 0)
      ∙ with_at s name_rows 0 (λ v n. bind (rows_at s rest_rows n) (λ q. guard (eqb q.1 (length s)) (wire (both name_rows rest_rows v q.0) n)))
      ∙ (λ i. rows_with s name_rows 0 (λ v n. with_at s rest_rows n (λ w m. guard (eqb m (length s)) (wire (both name_rows rest_rows v w) n)) i))
      ∙ (λ i. rows_with s front_rows 0 (λ v n. middle n (λ g a n t d at. bind (read_at (row_dec Containers) s at) (λ p. rows_with s end_rows p.1
      (λ e m. node_step m (part_four (front v) g a n t d (length p.0, padded p.0) (end e)) i)))))
      ∙ (λ i. rows_with s front_rows 0 (λ v n. middle n (λ g a n t d at. bind (read_at (row_dec Containers) s at) (λ p. end_step p.1
      (λ e m. bind (read_at (text (tag NodeId) 20) s m) (λ x. part_four (front v) g a n t d (length p.0, padded p.0) e x.0 x.1)) i))))
      ∙ (λ i. rows_with s front_rows 0 (λ v n. middle n (λ g a n t d at. list_step at (λ c m. bind (end_of s m)
      (λ e. bind (read_at (text (tag NodeId) 20) s e.1) (λ x. part_four (front v) g a n t d c e.0 x.0 x.1))) i)))
      ∙ front_step (λ f n. middle n (λ g a n t d at. bind (lists_at s at (tag Containers)) (λ c. bind (end_of s c.1)
      (λ e. bind (read_at (text (tag NodeId) 20) s e.1) (λ x. part_four f g a n t d c.0 e.0 x.0 x.1)))))
    where
      last_of : (v : Values name_rows) (n : ℕ) (o : Option (Values rest_rows × ℕ))
          → bind {A = Fields × ℕ} (bind o (λ q. guard (eqb q.1 (length s)) (both name_rows rest_rows v q.0, n))) (λ x. Some (wire x.0 x.1))
          ≡ bind o (λ q. guard (eqb q.1 (length s)) (wire (both name_rows rest_rows v q.0) n))
      last_of v n None = refl
      last_of v n (Some q) = by (eqb q.1 (length s)) (λ y. rw y) (λ k. rw k)

      whole : (o : Option (Values name_rows × ℕ))
          → bind {A = Fields × ℕ} (bind o (λ p. bind (rows_at s rest_rows p.1) (λ q. guard (eqb q.1 (length s)) (both name_rows rest_rows p.0 q.0, p.1))))
          (λ x. Some (wire x.0 x.1))
          ≡ bind o (λ p. bind (rows_at s rest_rows p.1) (λ q. guard (eqb q.1 (length s)) (wire (both name_rows rest_rows p.0 q.0) p.1)))
      whole None = refl
      whole (Some p) = last_of p.0 p.1 (rows_at s rest_rows p.1)
