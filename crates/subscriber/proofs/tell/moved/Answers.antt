-- `subscriber::tell::moved` meets its contract.
use mathlib.Core.Path.{◌≡◌, ◌∙◌}
use mathlib.Core.Bool.{false}
use native.Mathlib.Omega.{arith}
use Rattle.mcdr.specs.Change.{same_place}
use Rattle.subscriber.specs.declared.Notice.TheVariants.{Moved}
use Rattle.subscriber.specs.Subscriber.{place_of}
use Rattle.subscriber.proofs.Tellings.{tells_quiet, tells_closes, hears_same, hears_listed, hears_full, compared, closed_same}
use Rattle.subscriber.proofs.tell.moved.Goals as goal

pub returns-then-same_place : goal.returns-then-same_place
returns-then-same_place c =
    let a = c.args in
    tells_quiet a.p a.t (Moved a.q) a.s.now c.requires
    (hears_same a.p a.s.now a.t a.q (compared a.s.now a.q c.place_of.ensures c.same_place.ensures ∙ c.if-same_place.true))

pub returns-then-n-lt15 : goal.returns-then-n-lt15
returns-then-n-lt15 c =
    let other : same_place (place_of c.args.s.now) c.args.q
    ≡ false =
    let a = c.args in
    compared a.s.now a.q c.place_of.ensures c.same_place.ensures ∙ c.if-same_place.false in
    let a = c.args in
    tells_quiet a.p a.t (Moved a.q) a.s.now c.requires (hears_listed a.p a.s.now a.t a.q c.listed-n.ensures other c.if-n-lt15.true)

pub record_of-r-requires : goal.record_of-r-requires
record_of-r-requires c =
    let other : same_place (place_of c.args.s.now) c.args.q
    ≡ false =
    let a = c.args in
    compared a.s.now a.q c.place_of.ensures c.same_place.ensures ∙ c.if-same_place.false in
    let a = c.args in
    let e = closed_same a.p a.s.now a.t a.q c.listed-n.ensures other in
    omega (arith, c.requires.closed)

pub returns : goal.returns
returns c =
    let other : same_place (place_of c.args.s.now) c.args.q
    ≡ false =
    let a = c.args in
    compared a.s.now a.q c.place_of.ensures c.same_place.ensures ∙ c.if-same_place.false in
    let a = c.args in
    tells_closes a.p a.t (Moved a.q) a.s.now c.requires
    (hears_full a.p a.s.now a.t a.q c.listed-n.ensures other c.if-n-lt15.false)
    c.opened-next.ensures (rw c.record_of-r.ensures at c.emit.ensures)
