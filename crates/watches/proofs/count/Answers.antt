-- `watches::count`: as many as the version declares, at most those of a frame.
use native.Mathlib.Omega.{arith}
use Rattle.watches.proofs.Tops.{none-counted, all-counted}
use Rattle.watches.proofs.count.Goals as goal

pub returns-in_default : goal.returns-in_default
returns-in_default c =
    (none-counted _ _ _ c.topmost.ensures c.in_default.is, omega arith)

pub returns : goal.returns
returns c =
    (all-counted _ _ _ c.topmost.ensures c.in-Some.is c.registers-registers.ensures c.most.ensures.0, c.most.ensures.1)
