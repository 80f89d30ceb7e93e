-- `program::lookup::registers`: a version has as many types as its fourth field says.
use Rattle.program.proofs.Existence.{registers-count}
use mathlib.Core.Path.{sym, ◌∙◌}
use Rattle.program.proofs.lookup.registers.Goals as goal

pub returns : goal.returns
returns c =
    (c.field.ensures.0 ∙ sym (registers-count _ _), c.field.ensures.1)
