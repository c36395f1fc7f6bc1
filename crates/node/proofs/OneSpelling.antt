-- "One spelling of an APN" (02, W5): a call cannot tell how the letters of an access point name are spelled. Whatever the node and the buffer, an
-- activate and the same one in another spelling get the same answer, the same node after, the same octets.
use Rattle.std.specs.Prelude.{Some}
use Rattle.limits.specs.Sets.{limits_of}
use mathlib.Core.Path.{◌≡◌, sym, ap, ◌∙◌}
use mathlib.Core.List.{List}
use Prim.Native.Nat.{ℕ}
use Rattle.event.specs.declared.Event.{Event}
use Rattle.event.specs.declared.Event.TheVariants.{Activate}
use Rattle.event.specs.declared.Activation.{Activation}
use Rattle.event.specs.Fields.{flags_of, imsi_of, apn_of, activation_of}
use Rattle.event.specs.Spelling.{OneSpelling}
use Rattle.event.proofs.Spelled as same
use Rattle.history.specs.Log.{activates}
use Rattle.node.specs.declared.Node.{Node}
use Rattle.node.specs.Step.{Words, to_contexts, takes, said_of, refusals, step_of}

-- what an activate says, by what it brings
abbrev opens : Activation → ℕ → List ℕ → List ℕ → Words
opens a f i n =
    to_contexts (Some a.set)
    (activates a.name (λ g. record {
      flags = f;
      imsi = i;
      apn = n;
      pdptype = a.pdptype;
      address = a.address;
      set = a.set;
      qos = a.qos;
      limits = limits_of a.set g.sets;
    }))

module _ (s t : List ℕ) (o : OneSpelling s t) where
  -- what is said, and to whom
  said : said_of s ≡ said_of t
  said =
      ap (λ (e : Event). takes e s) (same.says_activate s o.kind)
      ∙ brought
      ∙ ap (λ (e : Event). takes e t) (sym (same.says_activate t (same.kind_too s t o)))
    where
      brought : takes (Activate (activation_of s)) s ≡ takes (Activate (activation_of t)) t
      brought =
          ap (λ (a : Activation). opens a (flags_of s) (imsi_of s) (apn_of s)) (same.same_activation s t o)
          ∙ ap (λ (f : ℕ). opens (activation_of t) f (imsi_of s) (apn_of s)) (same.same_flags s t o)
          ∙ ap (λ (i : List ℕ). opens (activation_of t) (flags_of t) i (apn_of s)) (same.same_imsi s t o)
          ∙ ap (opens (activation_of t) (flags_of t) (imsi_of t)) o.name

  pub one_spelling : (n : Node) (b : List ℕ) → step_of n s b ≡ step_of n t b
  unfolding step_of refusals
  one_spelling n b =
      rw (
        said,
        same.same_length s t o,
        same.same_marked s t o,
        same.same_known s t o,
        same.same_measured s t o,
        same.same_fields s t o,
        same.same_time s t o,
      )
