use mathlib.Core.Path.{refl}
use borrow.Author.Tests.{eq-eqb, ne_eqb}
use Rattle.store.specs.Store.{opener_of}
use Rattle.store.proofs.stack.opener.Goals as goal

pub returns-then-o-eq0 : goal.returns-then-o-eq0
unfolding opener_of
returns-then-o-eq0 c =
    rw (eq-eqb _ _ c.if-o-eq0.true) refl

pub returns-else-o-eq0 : goal.returns-else-o-eq0
unfolding opener_of
returns-else-o-eq0 c =
    rw (ne_eqb _ _ c.if-o-eq0.false) refl
