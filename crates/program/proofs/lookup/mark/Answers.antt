-- `program::lookup::mark`: the mark of the first block.
use Rattle.program.proofs.Lookups.{first-mark, no-mark, block-found, block-missing}
use Rattle.program.specs.Places.{block_at}
use mathlib.Core.Path.{sym, ◌∙◌}
use native.Mathlib.Omega.{arith}
use Rattle.program.proofs.lookup.mark.Goals as goal

pub returns-in_default : goal.returns-in_default
returns-in_default c =
    (sym (no-mark _ (block-missing _ _ _ (sym c.block.ensures ∙ c.in_default.is))), omega arith)

pub returns : goal.returns
unfolding block_at
returns c =
    (c.field.ensures.0 ∙ sym (first-mark _ _ (block-found _ _ _ _ (sym c.block.ensures ∙ c.in-Some.is))), c.field.ensures.1)
