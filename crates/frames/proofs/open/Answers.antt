use Rattle.frames.proofs.Opening.{opened-by}
use native.Mathlib.Omega.{arith}
use Rattle.frames.proofs.open.Goals as goal

pub clear-requires : goal.clear-requires
clear-requires c =
    (omega (arith, c.wide-k.ensures.0, c.requires.0), c.requires.1.bytes)

pub overflow_add-bytes-3 : goal.overflow_add-bytes-3
overflow_add-bytes-3 c =
    omega (arith, c.requires.0)

pub returns : goal.returns
returns c =
    opened-by c.args.bytes.now _ c.args.numbers.now _ _ _ c.wide-k.ensures.0
    c.requires.0 c.clear.ensures c.requires.1
