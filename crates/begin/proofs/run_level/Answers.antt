-- `begin::run_level`: by the greatest level.
use Rattle.machine.specs.Begin.{run_level}
use borrow.Author.Tests.{lt-ltb, le-ltb}
use Rattle.begin.proofs.run_level.Goals as goal

pub returns-then-level-lt-LEVELS : goal.returns-then-level-lt-LEVELS
unfolding run_level
returns-then-level-lt-LEVELS c = simp (lt-ltb _ _ c.if-level-lt-LEVELS.true)

pub returns-else-level-lt-LEVELS : goal.returns-else-level-lt-LEVELS
unfolding run_level
returns-else-level-lt-LEVELS c = simp (le-ltb _ _ c.if-level-lt-LEVELS.false)
