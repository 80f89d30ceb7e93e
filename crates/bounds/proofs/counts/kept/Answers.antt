-- `bounds::counts::kept`: by the tests.
use native.Mathlib.Omega.{arith}
use Rattle.bounds.proofs.Ahead.{kept-few, kept-far, kept_there}
use Rattle.bounds.proofs.counts.kept.Goals as goal

pub returns-then-f-ge-FUNCTIONS : goal.returns-then-f-ge-FUNCTIONS
returns-then-f-ge-FUNCTIONS c = kept-few _ _ _ c.if-f-ge-FUNCTIONS.true

pub returns-then-w-ge-VERSIONS : goal.returns-then-w-ge-VERSIONS
returns-then-w-ge-VERSIONS c = kept-far _ _ _ c.if-f-ge-FUNCTIONS.false c.if-w-ge-VERSIONS.true

pub returns : goal.returns
returns c = kept_there _ _ _ (omega arith) (omega arith)
