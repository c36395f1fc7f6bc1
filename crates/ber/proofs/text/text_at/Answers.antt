-- `ber::text::text_at` meets its contract: where the tag is, octets that must be there.
use mathlib.Core.Path.{◌∙◌, refl, sym}
use native.Mathlib.Omega.{arith}
use lib.ListN.{length}
use borrow.Author.Tests.{le-leb, lt-leb}
use Rattle.std.proofs.lemmas.Grind.{common_steps}
use Rattle.ber.proofs.Texts.{text_there, text_none}
use Rattle.ber.proofs.text.text_at.Goals as goal

pub returns-then-tag_at-clause-reads : goal.returns-then-tag_at-clause-reads
returns-then-tag_at-clause-reads c =
    let a = c.args in
    rw (text_there a.tag a.most a.s.now a.at (sym c.tag_at.ensures ∙ c.if-tag_at.true)) c.octets_at.ensures.reads

pub returns-then-s-at-clause-reads : goal.returns-then-s-at-clause-reads
returns-then-s-at-clause-reads c =
    let a = c.args in
    rw (text_none a.tag a.most a.s.now a.at (sym c.tag_at.ensures ∙ c.if-tag_at.false), lt-leb a.at (length a.s.now) c.if-s-at.true) refl

pub returns-clause-reads : goal.returns-clause-reads
returns-clause-reads c =
    let a = c.args in
    rw (
      text_none a.tag a.most a.s.now a.at (sym c.tag_at.ensures ∙ c.if-tag_at.false),
      le-leb a.at (length a.s.now) c.if-s-at.false,
    ) (grind (arith, common_steps))
