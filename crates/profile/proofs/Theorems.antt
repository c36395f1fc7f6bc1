-- A profile in range has one text: that text reads as the profile, and no other does.
use mathlib.Core.Path.{◌≡◌, refl, sym, ap, ◌∙◌}
use mathlib.Core.Bool.{true}
use mathlib.Core.List.{List, [], ◌∷◌, ◌++◌, map}
use Prim.Native.Nat.{ℕ, zero, suc, ◌+◌, ◌≤◌}
use native.Mathlib.Omega.{arith}
use lib.ListN.{length, take, get_or, replicate}
use lib.Seq.{get_or-append-add}
use Rattle.std.specs.Prelude.{Option, None, Some, IfSome, Ok, IfErr}
use Rattle.profile.specs.Profile.{profile_ok}
use Rattle.profile.specs.Cut.{feed, space, has, past, begins}
use Rattle.profile.specs.Line.{lines_past, value_at}
use Rattle.profile.specs.Sets.{sets_in, limits_in}
use Rattle.profile.specs.Text.{sgsn_name, set_row, end_rows, rows_of, first_bad, profile_by, profile_of, read_by, read_of}
use Rattle.profile.specs.Print.{address_text, offset_text, node_text, limits_tail, lines_of, tails_of, text_of}
use Rattle.profile.specs.declared.Profile.{Profile}
use Rattle.profile.specs.declared.line.Kind.TheVariants.{Dotted, Signed, Rest}
use Rattle.profile.specs.declared.fault.Fault.TheVariants.{Address}
use Rattle.profile.specs.declared.fault.BadLine.{BadLine}
use Rattle.profile.proofs.Firsts.{unless_met, Within}
use Rattle.profile.proofs.Places.{sets_few, limits_long}
use Rattle.profile.proofs.Readings.{rows_long}
use Rattle.profile.proofs.Lines.{Tail, tail_is, Lines, last, line, line_past, reads, value_at_lem, named, back, first_within}
use Rattle.profile.proofs.Ranges.{Shaped, InRange, in_range_lem}
use Rattle.profile.proofs.Values.{Node, address_is, offset_is, node_is}
use Rattle.profile.proofs.Backs.{dotted_back, signed_back, node_back}
use Rattle.profile.proofs.SetLines.{sets_long, set_lines, sets_read, sets_count, Split, split}

-- ---- the lines of a profile: one, those of the sets, and the last two

first_line : (k : ℕ) {t : List ℕ} {ts : List (List ℕ)} → Tail Dotted t → Lines (replicate k set_row ++ end_rows) ts → Lines (rows_of k) (t ∷ ts)
unfolding has
first_line k f e = line _ _ _ _ refl refl f e

first_past : (s : List ℕ) (k : ℕ) (t : List ℕ) (ts : List (List ℕ)) → Tail Dotted t → s ≡ lines_of (rows_of k) (t ∷ ts)
    → lines_past 1 s ≡ lines_of (replicate k set_row ++ end_rows) ts
unfolding has lines_past lines_of
first_past s k t ts f e = ap (past feed) e ∙ line_past sgsn_name t (lines_of (replicate k set_row ++ end_rows) ts) Dotted refl refl f

end_lines : {o n : List ℕ} → Tail Signed o → Tail Rest n → Lines end_rows (o ∷ n ∷ [])
unfolding has
end_lines f g = line _ _ _ _ refl refl f (line _ _ _ _ refl refl g last)

-- what follows the name in a line after k sets
after : (t : List ℕ) (xs ys : List (List ℕ)) (k j : ℕ) → length xs ≡ k → get_or (t ∷ (xs ++ ys)) (k + suc j) [] ≡ get_or ys j []
after t xs ys k j h =
    let e : k + suc j ≡ suc (length xs + j) = omega arith in
    ap (λ (n : ℕ). get_or (t ∷ (xs ++ ys)) n []) e ∙ get_or-append-add xs ys j []

-- ---- the text of a profile reads

after_space : (v : List ℕ) → past space (space ∷ v) ≡ v
unfolding past
after_space v = refl

-- what values say that are printed for a profile
says : (s : List ℕ) (p : Profile) → InRange p → Shaped p → value_at 0 s ≡ address_text p.sgsn → limits_in 8 p.sets (lines_past 1 s) ≡ p.limits
    → value_at (p.sets + 1) s ≡ offset_text p.zone → value_at (p.sets + 2) s ≡ take p.nodelen p.nodeid → profile_by p.sets s ≡ p
unfolding profile_by
says s p i shape e0 e1 e2 e3 =
    let n = node_is p.nodeid p.nodelen shape.nodeid i.node in
    rw (e0, e1, e2, e3, (address_is p.sgsn shape.sgsn).same, (offset_is p.zone i.zone).zone, n.octets, n.many)

module _ (p : Profile) (i : InRange p) (shape : Shaped p) where
  address : Tail Dotted (space ∷ address_text p.sgsn)
  address =
      let a = address_is p.sgsn shape.sgsn in
      tail_is Dotted (address_text p.sgsn) refl a.value (unless_met Address a.ok refl)

  node : Node p.nodeid p.nodelen (node_text p.nodeid p.nodelen)
  node = node_is p.nodeid p.nodelen shape.nodeid i.node

  abbrev tails : List (List ℕ)
  tails = (space ∷ offset_text p.zone) ∷ node_text p.nodeid p.nodelen ∷ []

  ends : Lines end_rows tails
  ends = let z = offset_is p.zone i.zone in end_lines (tail_is Signed (offset_text p.zone) refl z.value z.fault) node.tail

  lines : Lines (rows_of p.sets) (tails_of p)
  lines = first_line p.sets address (set_lines ends i.sets)

  rest : lines_past 1 (text_of p) ≡ lines_of (replicate p.sets set_row ++ end_rows) (map limits_tail (take p.sets p.limits) ++ tails)
  unfolding text_of
  rest = first_past (text_of p) p.sets (space ∷ address_text p.sgsn) _ address refl

  counted : sets_in (text_of p) ≡ p.sets
  unfolding lines_past lines_of begins
  counted = sets_count ends refl i.sets (text_of p) rest i.some i.most

  none_bad : first_bad (rows_of p.sets) 1 (text_of p) ≡ None
  unfolding text_of
  none_bad = reads 1 lines

  values : profile_by p.sets (text_of p) ≡ p
  unfolding text_of
  values =
      let k = p.sets in
      let v = value_at_lem lines in
      let w = after (space ∷ address_text p.sgsn) (map limits_tail (take k p.limits)) tails k in
      let long = sets_long i.sets in
      says (lines_of (rows_of k) (tails_of p)) p i shape (v 0 ∙ after_space _)
      (ap (limits_in 8 k) rest ∙ rw (← shape.limits) (sets_read ends i.sets))
      (v (k + 1) ∙ ap (past space) (w 0 long) ∙ after_space _) (v (k + 2) ∙ ap (past space) (w 1 long) ∙ node.value)

pub text_read : (p : Profile) → profile_ok p ≡ true → Shaped p → read_of (text_of p) ≡ Ok p
unfolding read_of read_by profile_of
text_read p ok shape =
    let i = in_range_lem p shape.limits ok in
    rw (counted p i shape, none_bad p i shape, values p i shape)

-- ---- and back

names : (k : ℕ) → named (rows_of k) ≡ true
unfolding named has
names k = go k
  where
    go : (k : ℕ) → named (replicate k set_row ++ end_rows) ≡ true
    go zero = refl
    go (suc k) = go k

-- the last two lines
record Ends (ts : List (List ℕ)) : Type 0 where
  offset : List ℕ
  node : List ℕ
  same : ts ≡ offset ∷ node ∷ []
  signed : Tail Signed offset
  rest : Tail Rest node

ending : {ts : List (List ℕ)} → Lines end_rows ts → Ends ts
ending (line _ _ o _ _ _ f (line _ _ n _ _ _ g last)) = record { offset = o; node = n; same = refl; signed = f; rest = g }

-- what follows the names is what is printed for what it says
tails_back : (s : List ℕ) (k : ℕ) (t : List ℕ) (ts : List (List ℕ)) → Tail Dotted t → InRange (profile_by k s)
    → ((n : ℕ) → value_at n s ≡ past space (get_or (t ∷ ts) n [])) → (d : Split k (limits_in 8 k (lines_past 1 s)) end_rows ts) → Ends d.rest
    → t ∷ ts ≡ tails_of (profile_by k s)
unfolding profile_by
tails_back s k t ts f i v d g =
    let xs = map limits_tail (take k (limits_in 8 k (lines_past 1 s))) in
    let same : ts ≡ xs ++ g.offset ∷ g.node ∷ [] = d.same ∙ ap (λ (y : List (List ℕ)). xs ++ y) g.same in
    let at : (j : ℕ) → value_at (k + suc j) s ≡ past space (get_or (g.offset ∷ g.node ∷ []) j []) =
    λ j. v (k + suc j) ∙ ap (λ (y : List (List ℕ)). past space (get_or (t ∷ y) (k + suc j) [])) same
    ∙ ap (past space) (after t xs (g.offset ∷ g.node ∷ []) k j (sets_long i.sets)) in
    let e1 = dotted_back (value_at 0 s) t (v 0) f in
    let e2 = signed_back (value_at (k + 1) s) g.offset (at 0) g.signed i.zone in
    let e3 = node_back (value_at (k + 2) s) g.node (at 1) g.rest i.few in
    ap (◌∷◌ t) same ∙ sym (rw (e1, e2, e3))

-- lines that read are what is printed for what they say
printed : (s : List ℕ) (k : ℕ) (ts : List (List ℕ)) → Lines (rows_of k) ts → s ≡ lines_of (rows_of k) ts → InRange (profile_by k s)
    → s ≡ text_of (profile_by k s)
unfolding text_of profile_by
printed s k _ (line _ _ t ts _ _ f m) e i =
    let u = first_past s k t ts f e in
    let d : Split k (limits_in 8 k (lines_past 1 s)) end_rows ts = rw u (split 8 k end_rows ts i.most m (rw u at i.sets)) in
    let v : (n : ℕ) → value_at n s ≡ past space (get_or (t ∷ ts) n []) = λ n. ap (λ (w : List ℕ). value_at n w) e ∙ value_at_lem (first_line k f m) n in
    e ∙ ap (lines_of (rows_of k)) (tails_back s k t ts f i v d (ending d.lines))

eight : (k : ℕ) (s : List ℕ) → length (profile_by k s).limits ≡ 8
unfolding profile_by
eight k s = limits_long 8 k (lines_past 1 s)

-- a text that reads is read as its values say
pub read_whole : (s : List ℕ) (p : Profile) → read_of s ≡ Ok p → (first_bad (rows_of (sets_in s)) 1 s ≡ None) × (p ≡ profile_of s)
unfolding read_of read_by
read_whole s p = go (first_bad (rows_of (sets_in s)) 1 s)
  where
    go : (b : Option BadLine) → read_by b (profile_of s) ≡ Ok p → (b ≡ None) × (p ≡ profile_of s)
    go None e = (refl, cc)
    go (Some b) e = absurd cc

-- a text that reads as a profile in range is the text of that profile
pub read_text : (s : List ℕ) (p : Profile) → read_of s ≡ Ok p → profile_ok p ≡ true → s ≡ text_of p
unfolding profile_of
read_text s p e ok =
    let k = sets_in s in
    let (z, q) = read_whole s p e in
    let b = back (rows_of k) (names k) 1 s z in
    printed s k b.tails b.lines b.text (in_range_lem (profile_by k s) (eight k s) (ap profile_ok (sym q) ∙ ok)) ∙ ap text_of (sym q)

-- a bad line is one of twelve
pub read_agree : (s : List ℕ) → IfErr (read_of s) (λ b. (1 ≤ b.line) × (b.line ≤ 12))
unfolding read_of read_by
read_agree s =
    go (first_bad (rows_of (sets_in s)) 1 s)
    (first_within 12 (rows_of (sets_in s)) 1 s (omega arith) (omega (arith, rows_long (sets_in s), sets_few s)))
  where
    go : (b : Option BadLine) → IfSome b (Within 12) → IfErr (read_by b (profile_of s)) (Within 12)
    go None e = tt
    go (Some b) e = e
