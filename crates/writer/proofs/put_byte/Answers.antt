-- `writer::put_byte`: one byte is one store.
use mathlib.Core.Path.{sym}
use mathlib.Core.List.{[], ◌∷◌}
use native.Mathlib.Omega.{arith}
use Rattle.writer.proofs.Placed.{placed-byte, placed_past}
use Rattle.writer.proofs.put_byte.Goals as goal

pub bounds-out-at : goal.bounds-out-at
bounds-out-at c = omega arith

pub returns-then-at-out : goal.returns-then-at-out
returns-then-at-out c = placed-byte _ _ _ c.if-at-out.true

pub returns-else-at-out : goal.returns-else-at-out
returns-else-at-out c =
    let args = c.args in
    sym (placed_past args.out.now args.at (args.b ∷ []) (omega (arith, c.if-at-out.false)))
