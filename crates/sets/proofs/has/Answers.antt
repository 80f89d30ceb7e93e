-- `sets::has`: the digit r is the lowest one after a shift by r.
use Rattle.sets.proofs.Masks.{has-digit, has-outside}
use borrow.Author.Tests.{le-ltb}
use mathlib.Core.Path.{sym}
use Rattle.sets.proofs.has.Goals as goal

pub returns-then-r-lt-WIDTH : goal.returns-then-r-lt-WIDTH
returns-then-r-lt-WIDTH c =
    sym (has-digit 16 _ _ c.if-r-lt-WIDTH.true)

pub returns-else-r-lt-WIDTH : goal.returns-else-r-lt-WIDTH
returns-else-r-lt-WIDTH c =
    rw (le-ltb c.args.r 16 c.if-r-lt-WIDTH.false) (sym (has-outside 16 _ _ c.if-r-lt-WIDTH.false))
