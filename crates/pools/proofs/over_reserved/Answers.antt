use native.Mathlib.Omega.{arith}
use borrow.Author.Rules.{rules}
use Rattle.pools.proofs.Sums.{sum-at, sum_done, over_by}
use Rattle.pools.proofs.over_reserved.Goals as goal

pub loop-reserve-init : goal.loop-reserve-init
loop-reserve-init c = (omega arith, omega arith, omega arith)

pub overflow_add-total : goal.overflow_add-total
overflow_add-total c = record { fits = omega (arith, c.loop-reserve.invariant.0, c.loop-reserve.invariant.1, c.wide-total.ensures.1) }

pub loop-reserve-preserved : goal.loop-reserve-preserved
loop-reserve-preserved c =
    let l = c.loop-reserve in
    let s = sum-at c.args.reserves.now l.reserve-index 8 (search rules) (omega arith) in
    (omega arith, omega (arith, l.invariant.1, c.wide-total.ensures.1), omega (arith, s, l.invariant.2, c.wide-total.ensures.0))

pub returns : goal.returns
returns c =
    let l = c.loop-reserve in
    let s = sum_done c.args.reserves.now l.reserve-index 8 (search rules) (omega arith) in
    over_by c.args.reserves.now l.total (omega (arith, s, l.invariant.2))
