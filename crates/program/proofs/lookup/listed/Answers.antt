-- `program::lookup::listed`: by the bounds of both numbers.
use Rattle.layout.specs.Tests.{◌and◌}
use Rattle.program.specs.Places.{listed_in, place_in}
use borrow.Author.Tests.{lt-ltb, le-ltb}
use mathlib.Core.Path.{◌∙◌}
use Rattle.program.proofs.lookup.listed.Goals as goal

pub returns-then-f-ge-FUNCTIONS : goal.returns-then-f-ge-FUNCTIONS
unfolding listed_in place_in ◌and◌
returns-then-f-ge-FUNCTIONS c =
    c.version.ensures ∙ simp (le-ltb _ _ c.if-f-ge-FUNCTIONS.true)

pub returns-then-w-ge-VERSIONS : goal.returns-then-w-ge-VERSIONS
unfolding listed_in place_in ◌and◌
returns-then-w-ge-VERSIONS c =
    c.version-then-w-ge-VERSIONS.ensures ∙ simp (lt-ltb _ _ c.if-f-ge-FUNCTIONS.false, le-ltb _ _ c.if-w-ge-VERSIONS.true)

pub returns-then-p-image : goal.returns-then-p-image
unfolding listed_in place_in ◌and◌
returns-then-p-image c =
    simp (lt-ltb _ _ c.if-f-ge-FUNCTIONS.false, lt-ltb _ _ c.if-w-ge-VERSIONS.false, lt-ltb _ _ c.if-p-image.true)

pub returns-else-p-image : goal.returns-else-p-image
unfolding listed_in place_in ◌and◌
returns-else-p-image c =
    simp (lt-ltb _ _ c.if-f-ge-FUNCTIONS.false, lt-ltb _ _ c.if-w-ge-VERSIONS.false, le-ltb _ _ c.if-p-image.false)
