-- `out::StreamWrite::write` puts a stretch, and then the rest.
use Rattle.std.proofs.Common.{ℕ, ◌-◌, List, length, take, drop, take-append-drop, subst}
use Rattle.std.proofs.lemmas.List.{take_rest}
use Rattle.out.specs.Put.{PutsAll}
use Rattle.out.proofs.Puts.{then_all}
use Rattle.out.proofs.StreamWrite.write.Goals as goal

then_rest : (t : List ℕ) (w : ℕ) (xs u : List ℕ) (v n : ℕ) (z : List ℕ) (r : ℕ)
    → PutsAll t w (take n xs) u v → PutsAll u v (take (length xs - n) (drop n xs)) z r → PutsAll t w xs z r
then_rest t w xs u v n z r stretch rest =
    subst (λ l. PutsAll t w l z r) (take-append-drop n xs) (then_all t w (take n xs) u v (drop n xs) z r stretch (rw (← take_rest xs n) rest))

pub loop-rest-preserved : goal.loop-rest-preserved
loop-rest-preserved g c = (λ z r rest. c.loop-rest.invariant.0 z r (then_rest _ _ _ _ _ _ z r c.in_ok-n.ensures.puts rest), λ _. c.in_ok-n.ensures.told)
