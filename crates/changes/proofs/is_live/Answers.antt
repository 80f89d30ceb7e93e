use Rattle.changes.proofs.Owners.{below_next, none-live, one-live}
use mathlib.Core.Path.{sym, ◌∙◌}
use native.Mathlib.Omega.{arith}
use Rattle.changes.proofs.is_live.Goals as goal

pub loop-k-init : goal.loop-k-init
loop-k-init c =
    (omega arith, λ j h. absurd (omega arith))

pub overflow_mul-k : goal.overflow_mul-k
overflow_mul-k c =
    omega (arith, c.live_calls-live.ensures.1, c.loop-k-test.true)

pub overflow_add-k : goal.overflow_add-k
overflow_add-k c =
    omega (arith, c.live_calls-live.ensures.1, c.loop-k-test.true)

pub overflow_mul-k-in-loop-k : goal.overflow_mul-k-in-loop-k
overflow_mul-k-in-loop-k c =
    omega (arith, c.live_calls-live.ensures.1, c.loop-k-test.true)

pub overflow_add-k-in-loop-k : goal.overflow_add-k-in-loop-k
overflow_add-k-in-loop-k c =
    omega (arith, c.live_calls-live.ensures.1, c.loop-k-test.true)

pub returns-then-are : goal.returns-then-are
returns-then-are c =
    let inside = rw c.live_calls-live.ensures.0 at c.loop-k-test.true in
    let same = rw (c.byte-function.ensures.0, c.byte-version.ensures.0) at (sym c.are.ensures ∙ c.if-are.true) in
    sym (one-live _ _ _ c.loop-k.k inside same)

pub loop-k-preserved : goal.loop-k-preserved
loop-k-preserved c =
    let other = rw (c.byte-function.ensures.0, c.byte-version.ensures.0) at (sym c.are.ensures ∙ c.if-are.false) in
    let before = c.loop-k.invariant.1 in
    (omega arith, below_next _ _ before other)

pub returns : goal.returns
returns c =
    sym (none-live _ _ _ (λ j h. c.loop-k.invariant.1 j (omega (arith, c.live_calls-live.ensures.0, c.loop-k-test.false))))
