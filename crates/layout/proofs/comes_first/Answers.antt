-- `layout::comes_first`: both numbers are 0.
use Rattle.layout.proofs.Bools.{and-on, and-off}
use borrow.Author.Tests.{eq-eqb, ne_eqb}
use mathlib.Core.Path.{sym}
use Rattle.layout.proofs.comes_first.Goals as goal

pub returns-then-function-eq0 : goal.returns-then-function-eq0
returns-then-function-eq0 c =
    sym (and-on _ (eq-eqb _ _ c.if-function-eq0.true))

pub returns-else-function-eq0 : goal.returns-else-function-eq0
returns-else-function-eq0 c =
    sym (and-off _ (ne_eqb _ _ c.if-function-eq0.false))
