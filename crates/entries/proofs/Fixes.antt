-- What the promises fix: two answers that meet one for the same inputs are equal.
use mathlib.Core.Path.{◌≡◌, refl, sym, ap, ◌∙◌}
use mathlib.Core.Bool.{Bool}
use Rattle.std.specs.Prelude.{Option, None, Some}
use mathlib.Core.List.{List}
use Prim.Native.Nat.{ℕ}
use Rattle.cdrs.specs.Cdr.{Cdr, pdp, mm}
use Rattle.entries.specs.declared.read.Cdr as read
use Rattle.entries.specs.declared.read.Cdr.TheVariants as read-cdr
use Rattle.entries.specs.declared.read.ReadEntry.{ReadEntry}
use Rattle.entries.specs.Read.{cdr_of, ReadsEntry}

-- the record that the code holds, of one of either kind
coded : Option Cdr → Option read.Cdr
coded None = None
coded (Some (pdp r)) = Some (read-cdr.Pdp r)
coded (Some (mm r)) = Some (read-cdr.Mm r)

coded_of : (o : Option read.Cdr) → coded (cdr_of o) ≡ o
unfolding coded
coded_of None = refl
coded_of (Some (read-cdr.Pdp r)) = refl
coded_of (Some (read-cdr.Mm r)) = refl

pub readsentry_fixes : {s : List ℕ} {at : ℕ} {x y : ReadEntry} → ReadsEntry s at x → ReadsEntry s at y → x ≡ y
readsentry_fixes {s} {at} {x} {y} f g =
    let c : x.cdr ≡ y.cdr = sym (coded_of x.cdr) ∙ ap coded (f.reads ∙ sym g.reads) ∙ coded_of y.cdr in
    λ i. record { entry = (f.entry ∙ sym g.entry) i; mm = (f.kind ∙ sym g.kind) i; cdr = c i }
