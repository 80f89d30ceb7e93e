-- `layout::after_line`: an instruction, where one is due.
use native.Mathlib.Omega.{arith}
use borrow.Author.Tests.{lt-ltb}
use Rattle.layout.proofs.after_line.Goals as goal

pub returns-then-due-eq0 : goal.returns-then-due-eq0
returns-then-due-eq0 c =
    simp c.if-due-eq0.true

pub returns : goal.returns
returns c =
    simp (lt-ltb 0 c.args.due.instructions (omega (arith, c.if-due-eq0.false)))
