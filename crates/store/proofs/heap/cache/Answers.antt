use Rattle.store.specs.Store.{cache_of}
use Rattle.machine.specs.declared.Cache.{Cache}
use borrow.Author.Tests.{eq-eqb, ne_eqb}
use mir.Facts.{to_z-of_z}
use mathlib.Core.Path.{refl, ap}
use Rattle.store.proofs.heap.cache.Goals as goal

pub returns-then-c-eq0 : goal.returns-then-c-eq0
unfolding cache_of
returns-then-c-eq0 c =
    rw (eq-eqb _ _ c.if-c-eq0.true) refl

pub returns-else-c-eq0 : goal.returns-else-c-eq0
unfolding cache_of
returns-else-c-eq0 c =
    rw (ne_eqb _ _ c.if-c-eq0.false) (ap Cache.Forced (to_z-of_z c.ranges.z))
