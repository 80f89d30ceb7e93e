use Rattle.store.proofs.Recounting.{byte-promise, byte-vector, few-frame, few-promise, few-vector, of-empty, of-integer, of-promises, of-vectors}
use Rattle.store.specs.Counts.{more}
use native.Mathlib.Omega.{arith}
use Rattle.store.proofs.cells.retain.Goals as goal

pub overflow_add-counts : goal.overflow_add-counts
overflow_add-counts c =
    omega (
      arith,
      few-vector c.args.counts.now c.cell.ensures.1
          c.args.k c.requires.2 c.in-Vector.is,
    )

pub overflow_add-counts-in-Vector-2 : goal.overflow_add-counts-in-Vector-2
overflow_add-counts-in-Vector-2 c =
    few-frame c.args.counts.now c.args.k _ _
    c.requires.0 c.requires.2
    (omega (arith, byte-vector c.cell.ensures.1 c.in-Vector.is))

pub overflow_add-counts-in-Promise-2 : goal.overflow_add-counts-in-Promise-2
overflow_add-counts-in-Promise-2 c =
    omega (
      arith,
      few-promise c.args.counts.now c.cell.ensures.1
          c.args.k c.requires.2 c.in-Promise.is,
    )

pub overflow_add-counts-in-Promise-4 : goal.overflow_add-counts-in-Promise-4
overflow_add-counts-in-Promise-4 c =
    few-frame c.args.counts.now c.args.k _ _
    c.requires.0 c.requires.2
    (omega (arith, byte-promise c.cell.ensures.1 c.in-Promise.is))

pub returns-in-Empty : goal.returns-in-Empty
returns-in-Empty c =
    of-empty more _ _ _ _ _ c.cell.ensures.0 c.cell.ensures.1 c.requires.3 c.in-Empty.is

pub returns-in-Integer : goal.returns-in-Integer
returns-in-Integer c =
    of-integer more _ _ _ _ _ c.cell.ensures.0 c.cell.ensures.1 c.requires.3 c.in-Integer.is

pub returns-in-Vector : goal.returns-in-Vector
returns-in-Vector c =
    of-vectors more _ _ _ _ _ c.cell.ensures.0 c.cell.ensures.1
    c.requires.3 c.in-Vector.is

pub returns-in-Promise : goal.returns-in-Promise
returns-in-Promise c =
    of-promises more _ _ _ _ _ c.cell.ensures.0 c.cell.ensures.1
    c.requires.3 c.in-Promise.is
