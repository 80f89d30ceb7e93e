-- `program::lookup::not_above`: a level of 0 is above none, another is compared.
use Rattle.program.proofs.Lookups.{low-enough}
use mathlib.Core.Path.{sym, ◌∙◌}
use Rattle.program.proofs.lookup.not_above.Goals as goal

pub returns-then-called-eq0 : goal.returns-then-called-eq0
returns-then-called-eq0 c = low-enough _ _ (sym c.level-called.ensures.0 ∙ c.if-called-eq0.true)

pub returns : goal.returns
returns c = rw (← c.level-called.ensures.0, ← c.level.ensures.0)
