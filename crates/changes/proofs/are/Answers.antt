use Rattle.layout.proofs.Bools.{and-on, and-off}
use borrow.Author.Tests.{eq-eqb, ne_eqb}
use mathlib.Core.Path.{sym, ◌∙◌}
use Rattle.changes.proofs.are.Goals as goal

pub returns-then-function-f : goal.returns-then-function-f
returns-then-function-f c =
    sym (and-on _ (eq-eqb _ _ c.if-function-f.true))

pub returns-else-function-f : goal.returns-else-function-f
returns-else-function-f c =
    let differs = ne_eqb _ _ c.if-function-f.false in
    differs ∙ sym (and-off _ differs)
