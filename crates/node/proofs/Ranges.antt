-- Some slots of the table, one after another: history's loops (proofs/Ranges.antt), which write into the lent buffer.
use mathlib.Core.Path.{refl}
use mathlib.Core.List.{List, []}
use Prim.Native.Nat.{ℕ, ◌<◌}
use native.Mathlib.Omega.{arith}
use lib.ListN.{length, get_or}
use Rattle.ber.proofs.Writers.{put_of, put_then}
use Rattle.ber.specs.Private.Wrote.{Put}
use Rattle.profile.specs.declared.Profile.{Profile}
use Rattle.context.specs.declared.Context.{Context}
use Rattle.context.proofs.Scans.{slots_ask}
use Rattle.history.proofs.Lists.{all_at}
use Rattle.history.proofs.Scans.{asks_at}
use Rattle.history.proofs.Ranges.{Writing}
use Rattle.node.specs.declared.Settings.{Settings}
use Rattle.node.specs.Held.{Shaped}
use Rattle.node.specs.Private.Premises.{SoundSlot, SoundTable}

-- a slot of a sound table
pub slotted : (p : Profile) (gs : Settings) (t : ℕ) (cs : List Context) {i : ℕ} (d : Context) → i < length cs → SoundTable p gs t cs → SoundSlot p gs t (get_or cs i d)
slotted p gs t cs {i} d q r =
    record {
      due = r.due;
      sound = asks_at (slots_ask p.sets p.zone r.due.clock r.due.accepted) cs i d r.sound q;
      shape = all_at Shaped cs r.shapes i d q;
    }

pub puts : Writing Put length
puts = record {
  empty = λ b. put_of {x = []} (omega arith) (omega arith) refl;
  then = λ p q. put_then p q;
  end = λ p. p.end;
  same = λ p. p.same;
}
