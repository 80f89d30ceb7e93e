-- `loaded::lookup::next`: the instructions of a block, of which the first 48 count, and their end.
use native.Mathlib.Omega.{arith}
use Rattle.loaded.proofs.Lookups.{next-line, next-end, next-outside}
use Rattle.loaded.proofs.lookup.next.Goals as goal

pub returns-then-n-count : goal.returns-then-n-count
returns-then-n-count c = λ s. next-line s c.args.table.now c.args.i c.args.n
    (c.count_at-count.ensures s) c.if-n-lt-INSTRUCTIONS.true c.if-n-count.true

pub returns-then-n-count-2 : goal.returns-then-n-count-2
returns-then-n-count-2 c = λ s. next-end s c.args.table.now c.args.i
    c.args.n (c.count_at-count.ensures s) (omega (arith, c.if-n-lt-INSTRUCTIONS.true))
    (omega (arith, c.if-n-count-2.true)) (λ h l. omega (arith, c.if-n-count-2.true))

pub returns-then-n-lt-INSTRUCTIONS : goal.returns-then-n-lt-INSTRUCTIONS
returns-then-n-lt-INSTRUCTIONS c = λ s. next-outside s c.args.table.now c.args.i
    c.args.n (c.count_at-count.ensures s) (λ h l. c.if-n-count-2.false (omega (arith, c.if-n-count.false)))

pub returns-then-count-ge-INSTRUCTIONS : goal.returns-then-count-ge-INSTRUCTIONS
returns-then-count-ge-INSTRUCTIONS c = λ s. next-end s c.args.table.now c.args.i
    c.args.n (c.count_at-count.ensures s) (omega (arith, c.if-n-eq-INSTRUCTIONS.true))
    (omega (arith, c.if-n-eq-INSTRUCTIONS.true, c.if-count-ge-INSTRUCTIONS.true)) (λ h l. omega (arith, c.if-n-eq-INSTRUCTIONS.true))

pub returns-then-n-eq-INSTRUCTIONS : goal.returns-then-n-eq-INSTRUCTIONS
returns-then-n-eq-INSTRUCTIONS c = λ s. next-outside s c.args.table.now c.args.i
    c.args.n (c.count_at-count.ensures s) (λ h l. omega (arith, c.if-n-eq-INSTRUCTIONS.true, c.if-count-ge-INSTRUCTIONS.false))

pub returns : goal.returns
returns c = λ s. next-outside s c.args.table.now c.args.i c.args.n
    (c.count_at-count.ensures s) (λ h l. c.if-n-eq-INSTRUCTIONS.false (omega (arith, c.if-n-lt-INSTRUCTIONS.false)))
