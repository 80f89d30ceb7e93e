-- `moves::sign_byte`: by the highest bit.
use mathlib.Core.Path.{refl}
use borrow.Author.Tests.{lt-ltb, le-ltb}
use Rattle.layout.specs.Forms.{sign_byte}
use Rattle.moves.proofs.sign_byte.Goals as goal

pub returns-then-high-lt128 : goal.returns-then-high-lt128
unfolding sign_byte
returns-then-high-lt128 c =
    rw (lt-ltb _ _ c.if-high-lt128.true) refl

pub returns-else-high-lt128 : goal.returns-else-high-lt128
unfolding sign_byte
returns-else-high-lt128 c =
    rw (le-ltb _ _ c.if-high-lt128.false) refl
