use Rattle.changes.proofs.Owners.{below_next, all_live, one-gone}
use Rattle.layout.proofs.Bools.{found_some, found_none}
use Rattle.program.proofs.Lookups.{version-found, version-missing}
use mathlib.Core.Path.{sym, ◌∙◌}
use native.Mathlib.Omega.{arith}
use Rattle.changes.proofs.all_there.Goals as goal

pub loop-k-init : goal.loop-k-init
loop-k-init c =
    (omega arith, λ j h. absurd (omega arith))

pub overflow_mul-k : goal.overflow_mul-k
overflow_mul-k c =
    omega (arith, c.live_calls-live.ensures.1, c.loop-k-test.true)

pub overflow_add-k : goal.overflow_add-k
overflow_add-k c =
    omega (arith, c.live_calls-live.ensures.1, c.loop-k-test.true)

pub overflow_mul-k-in-loop-k : goal.overflow_mul-k-in-loop-k
overflow_mul-k-in-loop-k c =
    omega (arith, c.live_calls-live.ensures.1, c.loop-k-test.true)

pub overflow_add-k-in-loop-k : goal.overflow_add-k-in-loop-k
overflow_add-k-in-loop-k c =
    omega (arith, c.live_calls-live.ensures.1, c.loop-k-test.true)

pub returns-in_default : goal.returns-in_default
returns-in_default c =
    let inside = rw c.live_calls-live.ensures.0 at c.loop-k-test.true in
    let place = sym c.version.ensures ∙ c.in_default.is in
    let gone = rw (c.byte-function.ensures.0, c.byte-version.ensures.0) at (version-missing _ _ _ place) in
    sym (one-gone _ _ c.loop-k.k inside (found_none _ gone))

pub loop-k-preserved : goal.loop-k-preserved
loop-k-preserved c =
    let place = sym c.version.ensures ∙ c.in-Some.is in
    let there = rw (c.byte-function.ensures.0, c.byte-version.ensures.0) at (version-found _ _ _ _ place).0 in
    let before = c.loop-k.invariant.1 in
    (omega (arith, c.loop-k-test.true), below_next _ _ before (found_some _ there))

pub returns : goal.returns
returns c =
    sym (all_live _ _ (λ j h. c.loop-k.invariant.1 j (omega (arith, c.live_calls-live.ensures.0, c.loop-k-test.false))))
