-- `mends::other_ownership`: by the ownership of the byte.
use mathlib.Core.Path.{refl}
use borrow.Author.Tests.{ne_eqb}
use Rattle.rules.specs.Types.{ownership_of, is_owned}
use Rattle.mends.proofs.other_ownership.Goals as goal

pub returns-then-t-eq1 : goal.returns-then-t-eq1
unfolding is_owned ownership_of
returns-then-t-eq1 c = rw c.if-t-eq1.true refl

pub returns : goal.returns
unfolding is_owned ownership_of
returns c = rw (ne_eqb _ 1 c.if-t-eq1.false) refl
