-- `program::question7::store_exists`: one test for each register and name.
use Rattle.layout.specs.Records.{choose}
use Rattle.layout.specs.Tests.{◌and◌}
use Rattle.program.specs.Program.{instr_by}
use Rattle.program.specs.Questions.{exists}
use borrow.Author.Tests.{lt-ltb, le-ltb}
use mathlib.Core.Path.{◌∙◌}
use Rattle.program.proofs.question7.store_exists.Goals as goal

pub returns-then-field-lt-NAMES : goal.returns-then-field-lt-NAMES
unfolding exists instr_by choose ◌and◌
returns-then-field-lt-NAMES c =
    simp (← c.registers.ensures.0, ← c.field.ensures.0, lt-ltb _ _ c.if-field-lt-NAMES.true, ← c.field-then-field-lt-NAMES.ensures.0)

pub returns-else-field-lt-NAMES : goal.returns-else-field-lt-NAMES
unfolding exists instr_by choose ◌and◌
returns-else-field-lt-NAMES c =
    le-ltb _ _ c.if-field-lt-NAMES.false ∙ (simp (← c.field.ensures.0, le-ltb _ _ c.if-field-lt-NAMES.false))
