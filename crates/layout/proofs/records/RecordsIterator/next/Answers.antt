use Rattle.std.proofs.Common.{rules, ◌≡◌, length, ap, sym, arith}
use Rattle.layout.proofs.Left.{spots-end, spots-broken, spots-whole}
use Rattle.layout.proofs.Walk.{size_in}
use Rattle.layout.proofs.records.RecordsIterator.next.Goals as goal

pub returns-then-self-at-clause-steps : goal.returns-then-self-at-clause-steps
returns-then-self-at-clause-steps c = (spots-end _ _ c.if-self-at.true, spots-end _ _ c.if-self-at.true)

pub overflow_add-self : goal.overflow_add-self
overflow_add-self c = omega (arith, size_in _ _ c.size_at-size.ensures c.if-size-eq0.false)

pub returns-then-size-eq0-clause-steps : goal.returns-then-size-eq0-clause-steps
returns-then-size-eq0-clause-steps c = spots-broken _ _ _ _ c.if-self-at.false c.size_at-size.ensures c.if-size-eq0.true (omega arith)

pub returns-then-size-eq0-clause-goes : goal.returns-then-size-eq0-clause-goes
returns-then-size-eq0-clause-goes c =
    let step = spots-broken _ _ _ (length c.args.self.now.image.now) c.if-self-at.false c.size_at-size.ensures c.if-size-eq0.true (omega arith) in
    let shorter = ap length step in search rules

pub returns-else-size-eq0-clause-steps : goal.returns-else-size-eq0-clause-steps
returns-else-size-eq0-clause-steps c = spots-whole _ _ _ c.if-self-at.false c.size_at-size.ensures c.if-size-eq0.false

pub returns-else-size-eq0-clause-goes : goal.returns-else-size-eq0-clause-goes
returns-else-size-eq0-clause-goes c =
    let step = spots-whole _ _ _ c.if-self-at.false c.size_at-size.ensures c.if-size-eq0.false in
    let shorter = ap length step in search rules
