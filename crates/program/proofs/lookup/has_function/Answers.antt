-- `program::lookup::has_function`: by the bound of the number and the table.
use Rattle.layout.specs.Tests.{◌and◌}
use Rattle.program.specs.Places.{function_in}
use borrow.Author.Tests.{lt-ltb, le-ltb}
use mathlib.Core.Path.{◌∙◌}
use Rattle.program.proofs.lookup.has_function.Goals as goal

pub returns-then-f-ge-FUNCTIONS : goal.returns-then-f-ge-FUNCTIONS
unfolding function_in ◌and◌
returns-then-f-ge-FUNCTIONS c =
    c.search_function.ensures ∙ simp (le-ltb _ _ c.if-f-ge-FUNCTIONS.true)

pub returns-then-table-f : goal.returns-then-table-f
unfolding function_in ◌and◌
returns-then-table-f c =
    simp (lt-ltb _ _ c.if-f-ge-FUNCTIONS.false, lt-ltb _ _ c.if-table-f.true)

pub returns : goal.returns
unfolding function_in ◌and◌
returns c =
    c.search_function-2.ensures ∙ simp (lt-ltb _ _ c.if-f-ge-FUNCTIONS.false, le-ltb _ _ c.if-table-f.false)
