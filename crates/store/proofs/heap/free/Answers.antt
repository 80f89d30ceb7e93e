use mathlib.Core.Path.{refl}
use Rattle.store.proofs.Freed.{search-found, search-on, search-over}
use Rattle.store.proofs.heap.free.Goals as goal

pub loop-i-init : goal.loop-i-init
loop-i-init c = λ e. refl

pub loop-i-preserved : goal.loop-i-preserved
loop-i-preserved c = search-on _ _ _ _ c.loop-i-test.true c.loop-i.invariant c.is_taken.ensures c.if-not-is_taken.false

pub returns-then-not-is_taken : goal.returns-then-not-is_taken
returns-then-not-is_taken c = search-found _ _ _ _ c.loop-i-test.true c.loop-i.invariant c.is_taken.ensures c.if-not-is_taken.true

pub returns : goal.returns
returns c = search-over _ _ _ _ c.loop-i-test.false c.loop-i.invariant
