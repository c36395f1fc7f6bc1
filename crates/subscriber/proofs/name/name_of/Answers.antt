-- `subscriber::name::name_of` meets its contract: of eight octets, the first counts most.
use Rattle.std.proofs.Common.{◌≡◌, ℕ, List, [], ◌∷◌, length, ◌∙◌, arith, rules}
use Rattle.std.specs.Int.{w64, from_be_bytes}
use Rattle.ber.specs.Int.{spelt}
use Rattle.subscriber.proofs.name.name_of.Goals as goal

eight : (s : List ℕ) → length s ≡ 8 → from_be_bytes w64 s ≡ spelt 0 s
unfolding spelt
eight (a ∷ b ∷ c ∷ d ∷ e ∷ f ∷ g ∷ h ∷ []) l = omega arith
eight _ l = absurd (omega arith)

pub returns : goal.returns
returns c = c.from_be_bytes.ensures ∙ eight c.args.imsi (search rules)
