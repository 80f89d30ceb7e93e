use Rattle.store.proofs.Recounting.{byte-promise, byte-vector, covered, is-promise, is-vector, of-empty, of-integer, of-promises, of-vectors, some-frame, some-promise, some-vector}
use Rattle.store.specs.Counts.{fewer}
use native.Mathlib.Omega.{arith}
use Rattle.store.proofs.cells.release.Goals as goal

pub overflow_sub-counts : goal.overflow_sub-counts
overflow_sub-counts c =
    omega (
      arith,
      some-vector c.args.counts.now c.cell.ensures.1
          c.args.k (covered c.args.counts.now
          c.args.k c.cell.ensures.0 c.requires.2)
          c.in-Vector.is,
    )

pub overflow_sub-counts-in-Vector : goal.overflow_sub-counts-in-Vector
overflow_sub-counts-in-Vector c =
    let C = covered c.args.counts.now c.args.k
    c.cell.ensures.0 c.requires.2 in
    let l = byte-vector c.cell.ensures.1 c.in-Vector.is in
    some-frame c.args.counts.now c.args.k _ _ _
    c.requires.0 C (is-vector c.in-Vector.is) (omega (arith, l))

pub overflow_sub-counts-in-Promise : goal.overflow_sub-counts-in-Promise
overflow_sub-counts-in-Promise c =
    omega (
      arith,
      some-promise c.args.counts.now c.cell.ensures.1
          c.args.k (covered c.args.counts.now
          c.args.k c.cell.ensures.0 c.requires.2)
          c.in-Promise.is,
    )

pub overflow_sub-counts-in-Promise-2 : goal.overflow_sub-counts-in-Promise-2
overflow_sub-counts-in-Promise-2 c =
    let C = covered c.args.counts.now c.args.k
    c.cell.ensures.0 c.requires.2 in
    let l = byte-promise c.cell.ensures.1 c.in-Promise.is in
    some-frame c.args.counts.now c.args.k _ _ _
    c.requires.0 C (is-promise c.in-Promise.is) (omega (arith, l))

pub returns-in-Empty : goal.returns-in-Empty
returns-in-Empty c =
    of-empty fewer _ _ _ _ _ c.cell.ensures.0 c.cell.ensures.1 c.requires.3 c.in-Empty.is

pub returns-in-Integer : goal.returns-in-Integer
returns-in-Integer c =
    of-integer fewer _ _ _ _ _ c.cell.ensures.0 c.cell.ensures.1 c.requires.3 c.in-Integer.is

pub returns-in-Vector : goal.returns-in-Vector
returns-in-Vector c =
    of-vectors fewer _ _ _ _ _ c.cell.ensures.0 c.cell.ensures.1
    c.requires.3 c.in-Vector.is

pub returns-in-Promise : goal.returns-in-Promise
returns-in-Promise c =
    of-promises fewer _ _ _ _ _ c.cell.ensures.0 c.cell.ensures.1
    c.requires.3 c.in-Promise.is
