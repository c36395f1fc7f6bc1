-- A list cut into windows anywhere gives what the whole gives.
use Rattle.std.proofs.Common.{◌≡◌, ℕ, ◌+◌, ◌-◌, ◌^◌, ◌<◌, ◌≤◌, Bool, true, false, ◌&&◌, leb, List, [], ◌∷◌, length, take, drop, sym, refl, ap, ◌∙◌, arith, length-drop, length-take, take_all, drop-drop, le-leb, leb-true}
use borrow.Author.Tests.{lt-leb}
use Rattle.format.proofs.Tests.{by, both, either}
use Rattle.tally.specs.declared.Tally.{Tally}
use Rattle.tally.specs.Look.{look_of}
use Rattle.tally.specs.Tally.{fits, start, and_then, tallied, count_of}
use Rattle.tally.specs.Turns.{Turn, onto, went_on, in_turn, in_turns}
use Rattle.tally.proofs.Seeks.{not_both}
use Rattle.tally.proofs.Looks.{look_moves}
use Rattle.tally.proofs.Tallies.{then_at, then_fits, going, stop, step, stuck, none_left}
use Rattle.tally.proofs.Hands.{hand}
use Rattle.tally.proofs.Joins.{onto_then, from_start, few}

module _ (id ggsn : ℕ) (s : List ℕ) where
  -- what was counted up to a place of the list: behind it the rest gives the whole
  pub record UpTo (t : Tally) : Type 0 where
    pub is : count_of id ggsn s ≡ tallied true id ggsn t (drop t.at s)
    pub within : t.at ≤ length s
    pub few : t.count ≤ t.at

  up_to_start : UpTo start
  unfolding count_of
  up_to_start = record { is = refl; within = omega arith; few = omega arith }

  -- a turn that begins with a fault changes nothing
  turn_stuck : (k : Turn) (t : Tally) → fits t.fault ≡ false → in_turn k id ggsn t (drop t.at s) ≡ t
  unfolding went_on onto
  turn_stuck k t f = rw f

  -- the end is seen only where it is
  abbrev seen : Turn → Tally → Bool
  seen k t = k.looked && leb (length (drop t.at s)) k.hand

  seen_there : (k : Turn) (t : Tally) → seen k t ≡ true → length (drop t.at s) ≤ k.hand
  seen_there k t y = leb-true _ k.hand (both k.looked (leb (length (drop t.at s)) k.hand) y).1

  module _ (bound : length s < 2 ^ 64) (k : Turn) (t : Tally) (u : UpTo t) (f : fits t.fault ≡ true) where
    abbrev rest : List ℕ
    rest = drop t.at s

    abbrev in_hand : List ℕ
    in_hand = take k.hand rest

    -- a turn counts on from t
    turn_is : in_turn k id ggsn t rest ≡ tallied (seen k t) id ggsn t in_hand
    unfolding went_on
    turn_is =
        let v = tallied (seen k t) id ggsn start in_hand in
        let r = hand id ggsn (seen k t) start rest k.hand (seen_there k t) in
        let c = few (seen k t) id ggsn start in_hand (omega arith) in
        let a : t.at + v.at < 2 ^ 64 = omega (arith, r.within, length-drop t.at s, u.within) in
        onto_then t v f a (omega (arith, u.few)) ∙ from_start (seen k t) id ggsn t f in_hand

    turn_on : UpTo (in_turn k id ggsn t rest)
    turn_on =
        let w = tallied (seen k t) id ggsn t in_hand in
        let r = hand id ggsn (seen k t) t rest k.hand (seen_there k t) in
        let i = u.within in
        let o = r.on in
        let z : t.at + (w.at - t.at) ≡ w.at = omega arith in
        rw turn_is (record {
          is = u.is ∙ r.is ∙ ap (tallied true id ggsn w) (drop-drop (w.at - t.at) t.at s ∙ ap (λ (i : ℕ). drop i s) z);
          within = omega (arith, r.within, length-drop t.at s);
          few = few (seen k t) id ggsn t in_hand u.few;
        })

  turn_keeps : length s < 2 ^ 64 → (k : Turn) (t : Tally) → UpTo t → UpTo (in_turn k id ggsn t (drop t.at s))
  turn_keeps b k t u = by (fits t.fault) (λ f. turn_on b k t u f) (λ f. rw (turn_stuck k t f) u)

  turns_keep : length s < 2 ^ 64 → (ks : List Turn) (t : Tally) → UpTo t → UpTo (in_turns ks id ggsn t s)
  unfolding in_turns
  turns_keep b [] t u = u
  turns_keep b (k ∷ ks) t u = turns_keep b ks (in_turn k id ggsn t (drop t.at s)) (turn_keeps b k t u)

  -- where all is counted, or something does not fit, that is the whole
  done : (t : Tally) → UpTo t → (fits t.fault ≡ true → t.at ≡ length s) → t ≡ count_of id ggsn s
  done t u h =
      by (fits t.fault)
      (λ f. sym (u.is ∙ stop true id ggsn t (drop t.at s) (none_left true id ggsn t (length (drop t.at s)) (omega (arith, length-drop t.at s, h f)))))
      (λ f. sym (u.is ∙ stop true id ggsn t (drop t.at s) (stuck true id ggsn t (length (drop t.at s)) f)))

  -- A list of fewer than 2^64 octets, cut into windows anywhere: once all of it is counted, or something does not fit, that is what the whole gives.
  pub cut_anywhere : length s < 2 ^ 64 → (ks : List Turn)
      → (fits (in_turns ks id ggsn start s).fault ≡ true → (in_turns ks id ggsn start s).at ≡ length s) → in_turns ks id ggsn start s ≡ count_of id ggsn s
  cut_anywhere b ks h = done (in_turns ks id ggsn start s) (turns_keep b ks start up_to_start) h

-- ---- and all is counted after so many turns as the list has octets

-- a turn that looks for the end, and has 1,026 octets in hand if the list still has them
pub record Able (k : Turn) : Type 0 where
  pub looked : k.looked ≡ true
  pub hand : 1026 ≤ k.hand

abbrev pub AllAble : List Turn → Type 0
AllAble [] = Unit {0}
AllAble (k ∷ ks) = Able k × AllAble ks

module _ (id ggsn : ℕ) (s : List ℕ) where
  -- what is counted on never goes back
  goes_on_lem : (e : Bool) (t : Tally) (x : List ℕ) → t.at ≤ (tallied e id ggsn t x).at
  goes_on_lem e t x = rw (take_all (length x) x (omega arith)) at (hand id ggsn e t x (length x) (λ y. omega arith)).on

  -- where a step is taken and all fits, it goes on by an octet at least
  goes_further : (e : Bool) (t : Tally) (x : List ℕ) → going e id ggsn t (length x) ≡ true → fits (tallied e id ggsn t x).fault ≡ true
      → t.at + 1 ≤ (tallied e id ggsn t x).at
  goes_further e t x g =
      let k = look_of id ggsn x in
      let r = drop k.at x in
      rw (step e id ggsn t x g)
      (by (fits k.fault)
      (λ f y. let m = look_moves id ggsn x f in omega (arith, goes_on_lem e (and_then t k) r, then_at t k))
      (λ f.
      let d = then_fits t k ∙ f in
      rw (stop e id ggsn (and_then t k) r (stuck e id ggsn (and_then t k) (length r) d)) (λ y. absurd (not_both (sym d ∙ y)))))

  able_going : (k : Turn) (t : Tally) → Able k → fits t.fault ≡ true → t.at < length s
      → going (seen id ggsn s k t) id ggsn t (length (take k.hand (drop t.at s))) ≡ true
  able_going k t a f h =
      let rest = drop t.at s in
      let l = length-take k.hand rest in
      let d = length-drop t.at s in
      let some = le-leb 1 (length (take k.hand rest)) (omega (arith, a.hand)) in
      either (length rest) k.hand
      (λ j. rw (f, a.looked, le-leb (length rest) k.hand j, some))
      (λ j. rw (f, a.looked, lt-leb (length rest) k.hand j, le-leb 1026 (length (take k.hand rest)) (omega (arith, a.hand)), some))

  turn_further : length s < 2 ^ 64 → (k : Turn) (t : Tally) (n : ℕ) → Able k → UpTo id ggsn s t → (fits t.fault ≡ true → length s ≤ t.at + (1 + n))
      → fits (in_turn k id ggsn t (drop t.at s)).fault ≡ true → length s ≤ (in_turn k id ggsn t (drop t.at s)).at + n
  turn_further b k t n a u h =
      by (fits t.fault)
      (λ f.
      let m = h f in
      rw (turn_is id ggsn s b k t u f)
      (either (length s) t.at
      (λ j y. omega (arith, goes_on_lem (seen id ggsn s k t) t (take k.hand (drop t.at s))))
      (λ j y. omega (arith, goes_further (seen id ggsn s k t) t (take k.hand (drop t.at s)) (able_going k t a f j) y))))
      (λ f. rw (turn_stuck id ggsn s k t f) (λ y. absurd (not_both (sym f ∙ y))))

  enough_from : length s < 2 ^ 64 → (ks : List Turn) (t : Tally) → AllAble ks → UpTo id ggsn s t → (fits t.fault ≡ true → length s ≤ t.at + length ks)
      → in_turns ks id ggsn t s ≡ count_of id ggsn s
  unfolding in_turns
  enough_from b [] t a u h = done id ggsn s t u (λ f. omega (arith, h f, u.within))
  enough_from b (k ∷ ks) t a u h =
      enough_from b ks (in_turn k id ggsn t (drop t.at s)) a.1 (turn_keeps id ggsn s b k t u)
      (turn_further b k t (length ks) a.0 u (λ f. omega (arith, h f)))

  -- in any windows of 1,026 octets or more, where the end is looked for
  pub turns_enough : length s < 2 ^ 64 → (ks : List Turn) → AllAble ks → length s ≤ length ks → in_turns ks id ggsn start s ≡ count_of id ggsn s
  turns_enough b ks a h = enough_from b ks start a (up_to_start id ggsn s) (λ f. omega arith)
