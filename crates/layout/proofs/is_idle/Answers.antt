-- `layout::is_idle`: neither a level, nor a block, nor an instruction is due.
use Rattle.layout.specs.Tests.{◌and◌}
use Rattle.layout.proofs.Bools.{and-on}
use mathlib.Core.Path.{sym, ◌∙◌}
use borrow.Author.Tests.{eq-eqb, ne_eqb}
use Rattle.layout.proofs.is_idle.Goals as goal

pub returns-then-due-ne0 : goal.returns-then-due-ne0
unfolding ◌and◌
returns-then-due-ne0 c =
    simp (ne_eqb _ _ c.if-due-ne0.true)

pub returns-then-due-ne0-2 : goal.returns-then-due-ne0-2
unfolding ◌and◌
returns-then-due-ne0-2 c =
    simp (eq-eqb _ _ c.if-due-ne0.false, ne_eqb _ _ c.if-due-ne0-2.true)

pub returns : goal.returns
returns c =
    sym (and-on _ (eq-eqb _ _ c.if-due-ne0.false) ∙ and-on _ (eq-eqb _ _ c.if-due-ne0-2.false))
