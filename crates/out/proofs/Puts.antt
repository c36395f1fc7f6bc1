-- The ways in which one character is put. r says how many wait before, s how many then.
use Rattle.std.proofs.Common.{refl, sym, ap, ◌∙◌, [], ◌∷◌, ◌++◌, ◌≡◌, ℕ, ◌+◌, ◌<◌, ◌≤◌, List, length, set, take, drop, true, false, lt-ltb, min}
use Rattle.std.proofs.Common.{Result, Ok, length-set, arith}
use Rattle.std.proofs.lemmas.List.{append_assoc, take-append-drop, take_more_set, drop-set-lt, drop-drop}
use borrow.Rule.Slice.PartMut.{put_mid}
use Rattle.out.specs.Put.{PutsAll, PutsOne, put_of, count_of}

-- there is room
pub in_room : {E : Type 0} → (text after : List ℕ) → (r s : Result ℕ E) → (x n : ℕ) → s ≡ r → s ≡ Ok n → n < 4096
    → after ≡ text → PutsOne text (count_of r) x (set after n x) (min (n + 1) 4096)
unfolding put_of
in_room text after r s x n kept is lt same =
    let a : min n 4096 ≡ n = omega arith in
    let b : min (n + 1) 4096 ≡ n + 1 = omega arith in
    record { wrote = true; is = rw (← kept, is, a, b, lt-ltb n 4096 lt, same) }

-- all wait, and are written
pub alone : (text after : List ℕ) → (w x m : ℕ) → w ≡ 4096 → m ≡ 0 → after ≡ text → PutsOne text w x (set after m x) (min (m + 1) 4096)
unfolding put_of
alone text after w x m full none same = record { wrote = true; is = rw (full, none, same) }

-- all wait, and the write fails
pub lost : (text after : List ℕ) → (w x r : ℕ) → w ≡ 4096 → r ≡ 4097 → after ≡ text → PutsOne text w x after r
unfolding put_of
lost text after w x r full failed same = record { wrote = false; is = rw (full, failed, same) }

-- a write failed before
pub told : (text after : List ℕ) → (w x r : ℕ) → r ≡ w → r ≡ 4097 → after ≡ text → PutsOne text w x after r
unfolding put_of
told text after w x r kept failed same = record { wrote = false; is = rw (← kept, failed, same) }

-- then no character comes out
pub none_out : (text xs : List ℕ) → PutsAll text 4097 xs text 4097
unfolding put_of
none_out text [] = (refl, refl)
none_out text (x ∷ xs) = (text, 4097, record { wrote = false; is = refl }, none_out text xs)

-- and then more
pub then_all : (t : List ℕ) (w : ℕ) (xs u : List ℕ) (v : ℕ) (ys z : List ℕ) (r : ℕ) → PutsAll t w xs u v → PutsAll u v ys z r → PutsAll t w (xs ++ ys) z r
then_all t w [] u v ys z r (e, f) more = rw (← e, ← f) more
then_all t w (x ∷ xs) u v ys z r (m, n, one, rest) more = (m, n, one, then_all m n xs u v ys z r rest more)

-- a stretch after its first character is the rest of it, one further
further : (t : List ℕ) (w x : ℕ) (xs : List ℕ) → w < length t → put_mid (w + 1) (length xs) (set t w x) xs ≡ put_mid w (length (x ∷ xs)) t (x ∷ xs)
further t w x xs lt =
    let past : drop (length xs) (drop (w + 1) (set t w x)) ≡ drop (length (x ∷ xs)) (drop w t) =
    ap (drop (length xs)) (drop-set-lt (w + 1) t w x (omega arith)) ∙ drop-drop (length xs) (w + 1) t
    ∙ ap (λ n. drop n t) (omega arith) ∙ sym (drop-drop (length (x ∷ xs)) w t) in
    rw (take_more_set t w x lt, past) (append_assoc (take w t) (x ∷ []) _)

-- characters that there is room for
fit : (t : List ℕ) (w : ℕ) (xs : List ℕ) → length t ≡ 4096 → w + length xs ≤ 4096 → PutsAll t w xs (put_mid w (length xs) t xs) (w + length xs)
unfolding put_of
fit t w [] size room = (take-append-drop w t, omega arith)
fit t w (x ∷ xs) size room =
    let lt : w < 4096 = omega arith in
    let one : PutsOne t w x (set t w x) (w + 1) = record { wrote = true; is = rw (lt-ltb w 4096 lt) refl } in
    let count : w + 1 + length xs ≡ w + length (x ∷ xs) = omega arith in
    let rest = fit (set t w x) (w + 1) xs (length-set t w x ∙ size) (omega arith) in
    (set t w x, w + 1, one, rw (← further t w x xs (omega arith), ← count) rest)

-- The ways in which a stretch of characters is put: xs, of which the buffer takes ys in place of k that stood there.
-- there is room
pub all_in_room : (text after ys xs : List ℕ) → (w n k r : ℕ) → w ≡ n → after ≡ text → ys ≡ xs → k ≡ length xs → r ≡ n + length xs
    → length text ≡ 4096 → n + length xs ≤ 4096 → PutsAll text w xs (put_mid n k after ys) r
all_in_room text after ys xs w n k r is same put long count size room = rw (is, same, put, long, count) (fit text n xs size room)

-- all wait, and are written
pub all_alone : (text after ys xs : List ℕ) → (w n k r : ℕ) → w ≡ 4096 → n ≡ 0 → after ≡ text → ys ≡ xs → k ≡ length xs → r ≡ length xs
    → length text ≡ 4096 → 0 < length xs → length xs ≤ 4096 → PutsAll text w xs (put_mid n k after ys) r
all_alone text after ys [] w n k r full none same put long count size some room = absurd (omega arith)
all_alone text after ys (x ∷ xs) w n k r full none same put long count size some room =
    let one : 1 + length xs ≡ length (x ∷ xs) = omega arith in
    let rest = fit (set text 0 x) 1 xs (length-set text 0 x ∙ size) (omega arith) in
    rw (none, same, put, long, count) (set text 0 x, 1, alone text text w x 0 full refl refl, rw (← further text 0 x xs (omega arith), ← one) rest)

-- all wait, and the write fails
pub all_lost : (text after xs : List ℕ) → (w r : ℕ) → w ≡ 4096 → r ≡ 4097 → after ≡ text → 0 < length xs → PutsAll text w xs after r
all_lost text after [] w r full failed same some = absurd (omega arith)
all_lost text after (x ∷ xs) w r full failed same some = (after, r, lost text after w x r full failed same, rw failed (none_out after xs))

-- a write failed before
pub all_told : (text after xs : List ℕ) → (w r : ℕ) → r ≡ w → r ≡ 4097 → after ≡ text → PutsAll text w xs after r
all_told text after xs w r kept failed same = rw (← kept, failed, same) (none_out text xs)
