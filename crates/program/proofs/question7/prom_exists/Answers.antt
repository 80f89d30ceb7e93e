-- `program::question7::prom_exists`: a block that is looked up exists.
use Rattle.layout.specs.Records.{choose}
use Rattle.layout.specs.Tests.{◌and◌}
use Rattle.program.proofs.Existence.{block-exists, block-lacks}
use Rattle.program.specs.Program.{instr_by}
use Rattle.program.specs.Questions.{exists}
use borrow.Author.Tests.{lt-ltb, le-ltb}
use mathlib.Core.Path.{sym, ◌∙◌}
use Rattle.program.proofs.question7.prom_exists.Goals as goal

pub returns-then-registers-field : goal.returns-then-registers-field
unfolding exists instr_by choose ◌and◌
returns-then-registers-field c =
    simp (← c.registers.ensures.0, ← c.field.ensures.0, le-ltb _ _ c.if-registers-field.true)

pub returns-then-block-b : goal.returns-then-block-b
unfolding exists instr_by choose ◌and◌
returns-then-block-b c =
    simp (← c.registers.ensures.0, ← c.field.ensures.0, lt-ltb _ _ c.if-registers-field.false, ← c.field-block.ensures.0, le-ltb _ _ c.if-block-b.true)

pub returns-in_default : goal.returns-in_default
unfolding exists instr_by choose ◌and◌
returns-in_default c =
    simp (
      ← c.registers.ensures.0,
      ← c.field.ensures.0,
      lt-ltb _ _ c.if-registers-field.false,
      ← c.field-block.ensures.0,
      lt-ltb _ _ c.if-block-b.false,
      le-ltb _ _
          (block-lacks _ _ _ (sym c.block.ensures ∙ c.in_default.is)),
    )

pub returns : goal.returns
unfolding exists instr_by choose ◌and◌
returns c =
    simp (
      ← c.registers.ensures.0,
      ← c.field.ensures.0,
      lt-ltb _ _ c.if-registers-field.false,
      ← c.field-block.ensures.0,
      lt-ltb _ _ c.if-block-b.false,
      lt-ltb _ _
          (block-exists _ _ _ _ (sym c.block.ensures ∙ c.in-Some.is)),
    )
