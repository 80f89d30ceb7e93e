-- `layout::version_in_bounds`: one test after the other.
use Rattle.layout.specs.Questions.{version_in_bounds}
use Rattle.layout.specs.Tests.{◌and◌}
use borrow.Author.Tests.{lt-ltb, le-ltb, lt-leb, le-leb}
use native.Mathlib.Omega.{arith}
use Rattle.layout.proofs.version_in_bounds.Goals as goal

pub returns-then-field-ge-FUNCTIONS : goal.returns-then-field-ge-FUNCTIONS
unfolding version_in_bounds ◌and◌
returns-then-field-ge-FUNCTIONS c =
    simp (← c.field.ensures.0, le-ltb _ _ c.if-field-ge-FUNCTIONS.true)

pub returns-then-field-ge-VERSIONS : goal.returns-then-field-ge-VERSIONS
unfolding version_in_bounds ◌and◌
returns-then-field-ge-VERSIONS c =
    simp (← c.field.ensures.0, lt-ltb _ _ c.if-field-ge-FUNCTIONS.false, ← c.field-2.ensures.0, le-ltb _ _ c.if-field-ge-VERSIONS.true)

pub returns-then-parameters-gt-PARAMETERS : goal.returns-then-parameters-gt-PARAMETERS
unfolding version_in_bounds ◌and◌
returns-then-parameters-gt-PARAMETERS c =
    simp (← c.field.ensures.0, ← c.field-2.ensures.0, ← c.field-parameters.ensures.0, ← c.field-registers.ensures.0, lt-ltb _ _ c.if-field-ge-FUNCTIONS.false, lt-ltb _ _ c.if-field-ge-VERSIONS.false, lt-leb _ _ c.if-parameters-gt-PARAMETERS.true)

pub returns-then-registers-parameters : goal.returns-then-registers-parameters
unfolding version_in_bounds ◌and◌
returns-then-registers-parameters c =
    simp (
      ← c.field.ensures.0,
      ← c.field-2.ensures.0,
      ← c.field-parameters.ensures.0,
      ← c.field-registers.ensures.0,
      lt-ltb _ _ c.if-field-ge-FUNCTIONS.false,
      lt-ltb _ _
          c.if-field-ge-VERSIONS.false,
      le-leb _ _ c.if-parameters-gt-PARAMETERS.false,
      lt-leb _ _ c.if-registers-parameters.true,
    )

pub returns-then-registers-eq0 : goal.returns-then-registers-eq0
unfolding version_in_bounds ◌and◌
returns-then-registers-eq0 c =
    simp (
      ← c.field.ensures.0,
      ← c.field-2.ensures.0,
      ← c.field-parameters.ensures.0,
      ← c.field-registers.ensures.0,
      lt-ltb _ _ c.if-field-ge-FUNCTIONS.false,
      lt-ltb _ _
          c.if-field-ge-VERSIONS.false,
      le-leb _ _ c.if-parameters-gt-PARAMETERS.false,
      le-leb _ _ c.if-registers-parameters.false,
      le-ltb 0 c.field-registers.result (omega (arith, c.if-registers-eq0.true)),
    )

pub returns-then-registers-gt-REGISTERS : goal.returns-then-registers-gt-REGISTERS
unfolding version_in_bounds ◌and◌
returns-then-registers-gt-REGISTERS c =
    simp (
      ← c.field.ensures.0,
      ← c.field-2.ensures.0,
      ← c.field-parameters.ensures.0,
      ← c.field-registers.ensures.0,
      lt-ltb _ _
          c.if-field-ge-FUNCTIONS.false,
      lt-ltb _ _ c.if-field-ge-VERSIONS.false,
      le-leb _ _ c.if-parameters-gt-PARAMETERS.false,
      le-leb _ _ c.if-registers-parameters.false,
      lt-ltb 0 c.field-registers.result (omega (arith, c.if-registers-eq0.false)),
      lt-leb _ _ c.if-registers-gt-REGISTERS.true,
    )

pub returns-then-blocks-eq0 : goal.returns-then-blocks-eq0
unfolding version_in_bounds ◌and◌
returns-then-blocks-eq0 c =
    simp (
      ← c.field.ensures.0,
      ← c.field-2.ensures.0,
      ← c.field-parameters.ensures.0,
      ← c.field-registers.ensures.0,
      ←
          c.field-blocks.ensures.0,
      lt-ltb _ _ c.if-field-ge-FUNCTIONS.false,
      lt-ltb _ _ c.if-field-ge-VERSIONS.false,
      le-leb _ _ c.if-parameters-gt-PARAMETERS.false,
      le-leb _ _ c.if-registers-parameters.false,
      lt-ltb 0
          c.field-registers.result (omega (arith, c.if-registers-eq0.false)),
      le-leb _ _ c.if-registers-gt-REGISTERS.false,
      le-ltb 0 c.field-blocks.result (omega (arith, c.if-blocks-eq0.true)),
    )

pub returns : goal.returns
unfolding version_in_bounds ◌and◌
returns c =
    simp (
      ← c.field.ensures.0,
      ← c.field-2.ensures.0,
      ← c.field-parameters.ensures.0,
      ← c.field-registers.ensures.0,
      ←
          c.field-blocks.ensures.0,
      lt-ltb _ _ c.if-field-ge-FUNCTIONS.false,
      lt-ltb _ _ c.if-field-ge-VERSIONS.false,
      le-leb _ _ c.if-parameters-gt-PARAMETERS.false,
      le-leb _ _ c.if-registers-parameters.false,
      lt-ltb 0
          c.field-registers.result (omega (arith, c.if-registers-eq0.false)),
      le-leb _ _ c.if-registers-gt-REGISTERS.false,
      lt-ltb 0 c.field-blocks.result (omega (arith, c.if-blocks-eq0.false)),
    )
