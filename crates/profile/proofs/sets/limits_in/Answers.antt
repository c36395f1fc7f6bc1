-- `profile::sets::limits_in` meets its contract.
use Rattle.std.proofs.Common.{rules}
use Rattle.format.proofs.Made.{made}
use Rattle.profile.specs.Sets.{limits_in}
use Rattle.profile.specs.Private.Places.{place_of}
use Rattle.profile.proofs.Places.{limits_long, limits_at_lem}
use Rattle.profile.proofs.sets.limits_in.Goals as goal

pub returns : goal.returns
returns c =
    let k = c.args.sets in
    let s = c.args.s.now in
    made _ (λ i. place_of k i s) _ 8 (λ i y q l f. search rules) c.from_fn.result (limits_in 8 k s)
    c.from_fn.ensures.items (limits_long 8 k s) (λ i d l. limits_at_lem 8 k s i d l)
