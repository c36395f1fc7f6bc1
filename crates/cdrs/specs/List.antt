-- A record list: records of either kind one after another, "each record follows the mark C3 5A" (01, "The record's octets").
use Rattle.std.specs.Prelude.{Bool, cond, ◌&&◌, List, [], ◌∷◌, ◌++◌, ℕ, zero, suc, eqb, length, get_or, drop}
use Rattle.std.specs.Prelude.{Option, None, Some}
use Rattle.format.specs.Maybe.{bind}
use Rattle.cdrs.specs.Cdr.{Cdr, cdr_enc, first_cdr}

-- the octets of a list
unfoldable pub list_enc : List Cdr → List ℕ
list_enc [] = []
list_enc (r ∷ rs) = 0xC3 ∷ 0x5A ∷ (cdr_enc r ++ list_enc rs)

-- the mark stands at the front
unfoldable pub mark_at : List ℕ → Bool
mark_at s = eqb (get_or s 0 0) 0xC3 && eqb (get_or s 1 0) 0x5A

-- read mark by mark: a mark, the record that follows it, and so on to the end, which comes after n records at most
unfoldable pub list_dec : ℕ → List ℕ → Option (List Cdr)
list_dec zero [] = Some []
list_dec zero (x ∷ s) = None
list_dec (suc n) [] = Some []
list_dec (suc n) (x ∷ s) =
    cond (mark_at (x ∷ s)) (bind (first_cdr (drop 2 (x ∷ s))) (λ p. bind (list_dec n p.1) (λ rs. Some (p.0 ∷ rs)))) None

-- the list whose octets s is, if it reads in full
unfoldable pub record_list : List ℕ → Option (List Cdr)
record_list s = list_dec (length s) s
