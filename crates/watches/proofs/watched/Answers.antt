-- `watches::watched`: by the count, where the list has a place for each.
use native.Mathlib.Omega.{arith}
use Rattle.watches.proofs.Tops.{enough, too_short}
use Rattle.watches.proofs.watched.Goals as goal

pub returns-then-wide-n : goal.returns-then-wide-n
returns-then-wide-n c =
    λ m. enough _ _ _ (c.count-k.ensures.0 m) c.wide.ensures.0 (omega (arith, c.if-wide-n.true))

pub returns-else-wide-n : goal.returns-else-wide-n
returns-else-wide-n c =
    λ m. too_short _ _ _ (c.count-k.ensures.0 m) c.wide.ensures.0 (omega (arith, c.if-wide-n.false))
