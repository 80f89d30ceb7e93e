-- `loaded::enter`: what each kind enters, by the law of that kind.
use native.Mathlib.Omega.{arith}
use Rattle.loaded.proofs.Entries.{enter-version, enter-block, enter-level, enter-line}
use Rattle.loaded.proofs.enter.Goals as goal

pub returns-then-k-eq-VERSION : goal.returns-then-k-eq-VERSION
returns-then-k-eq-VERSION c =
    let e = enter-version c.args.image.now
    c.args.p
    c.args.at
    c.args.table.now
    c.kind_at-k.ensures c.if-k-eq-VERSION.true
    c.field.ensures.0 c.field-then-k-eq-VERSION.ensures.0 c.point.ensures in
    (e.0, e.1, omega arith, omega (arith, c.field.ensures.1, c.field-then-k-eq-VERSION.ensures.1))

pub returns-then-k-eq-BLOCK : goal.returns-then-k-eq-BLOCK
returns-then-k-eq-BLOCK c =
    let e = enter-block c.args.image.now
    c.args.p
    c.args.at
    c.args.table.now
    c.kind_at-k.ensures
    c.if-k-eq-BLOCK.true
    c.point-then-k-eq-BLOCK.ensures c.write.ensures in
    (e.0, e.1, omega arith, omega arith)

pub returns-then-k-eq-LEVEL : goal.returns-then-k-eq-LEVEL
returns-then-k-eq-LEVEL c =
    let e = enter-level c.args.image.now c.args.p
    c.args.at c.args.table.now
    c.kind_at-k.ensures c.if-k-eq-LEVEL.true in
    (e.0, e.1, omega arith, omega arith)

pub returns : goal.returns
returns c =
    let e = enter-line c.args.image.now
    c.args.p
    c.args.at
    c.args.table.now
    c.kind_at-k.ensures c.if-k-eq-VERSION.false
    c.if-k-eq-BLOCK.false c.if-k-eq-LEVEL.false c.write-2.ensures in
    (e.0, e.1, omega arith, omega arith)
