-- `loaded::lookup::count_at`: the third field of its record, where the table has all records that it asks for.
use mathlib.Core.Path.{sym, ◌∙◌}
use Rattle.loaded.specs.Loaded.{block_in}
use Rattle.loaded.proofs.Lookups.{length-lines, all_placed, not-placed}
use Rattle.loaded.proofs.lookup.count_at.Goals as goal

pub returns-then-e-count : goal.returns-then-e-count
unfolding block_in
returns-then-e-count c = λ s. all_placed c.args.table.now c.args.i c.byte-count.ensures c.if-e-count.true ∙ sym (length-lines s _ _ _)

pub returns-else-e-count : goal.returns-else-e-count
unfolding block_in
returns-else-e-count c = λ s. not-placed c.args.table.now c.args.i c.byte-count.ensures c.if-e-count.false ∙ sym
    (length-lines s _ _ _)
