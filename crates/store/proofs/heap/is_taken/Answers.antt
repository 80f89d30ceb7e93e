use Rattle.store.specs.Counts.{taken}
use borrow.Author.Tests.{eq-eqb, ne_eqb}
use mathlib.Core.Path.{refl}
use Rattle.store.proofs.heap.is_taken.Goals as goal

pub returns-then-counts-i-ne0 : goal.returns-then-counts-i-ne0
unfolding taken
returns-then-counts-i-ne0 c = rw (ne_eqb _ _ c.if-counts-i-ne0.true) refl

pub returns-else-counts-i-ne0 : goal.returns-else-counts-i-ne0
unfolding taken
returns-else-counts-i-ne0 c = rw (eq-eqb _ _ c.if-counts-i-ne0.false) refl
