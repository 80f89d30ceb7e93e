-- `layout::after_block`: a BLOCK, where one is due and neither a level nor an instruction is.
use Rattle.layout.specs.Tests.{◌and◌}
use native.Mathlib.Omega.{arith}
use borrow.Author.Tests.{eq-eqb, ne_eqb, lt-ltb}
use Rattle.layout.proofs.after_block.Goals as goal

pub returns-then-levels-ne0 : goal.returns-then-levels-ne0
unfolding ◌and◌
returns-then-levels-ne0 c =
    simp (ne_eqb _ _ c.if-levels-ne0.true)

pub returns-then-due-eq0 : goal.returns-then-due-eq0
unfolding ◌and◌
returns-then-due-eq0 c =
    simp (eq-eqb _ _ c.if-levels-ne0.false, c.if-due-eq0.true)

pub returns-then-due-ne0 : goal.returns-then-due-ne0
unfolding ◌and◌
returns-then-due-ne0 c =
    simp (eq-eqb _ _ c.if-levels-ne0.false, lt-ltb 0 c.args.due.blocks (omega (arith, c.if-due-eq0.false)), ne_eqb _ _ c.if-due-ne0.true)

pub returns : goal.returns
unfolding ◌and◌
returns c =
    simp (eq-eqb _ _ c.if-levels-ne0.false, lt-ltb 0 c.args.due.blocks (omega (arith, c.if-due-eq0.false)), eq-eqb _ _ c.if-due-ne0.false, c.field.ensures.0)
