use Rattle.running.proofs.Going.{going-apart, going-same, going_done, going-moved, going-none, going_on, going-over, going_start, going-stop, going-stuck, next_low, none-keep, over-low}
use Rattle.running.proofs.Going.{over-spot, stop-keep, stop-sized, stop-touched, stuck-keep}
use Rattle.turning.specs.Standing.{onward}
use native.Mathlib.Omega.{arith}
use mathlib.Core.Path.{◌≡◌, refl}
use Prim.Native.Nat.{◌+◌, ◌-◌}
use Rattle.running.proofs.go.Goals.{in-On, in-Over, in-Moved}
use Rattle.running.proofs.go.Goals as goal

pub loop-taken-init : goal.loop-taken-init
loop-taken-init c =
    let e : c.args.budget.steps - 0 ≡ c.args.budget.steps = omega arith in
    rw e (going-apart _ _ _ _ _ _ _ _ _ _ _ _ c.locate-start.ensures.1 (going_start _ _ _ _ _ _ _ _ _ c.requires.0 c.requires.1
    c.requires.2 c.locate-start.ensures.0 c.locate-start.ensures.1))

pub advance-requires : goal.advance-requires
advance-requires c = (
  c.loop-taken.invariant.ready,
  c.loop-taken.invariant.kept,
  c.loop-taken.invariant.cached,
)

pub overflow_add-next : goal.overflow_add-next
overflow_add-next c =
    let z = next_low _ _ _ _ _ _ _ _ _ _ _ _ c.loop-taken.invariant in
    record { fits = omega (arith, z) }

pub overflow_add-next-in-Over : goal.overflow_add-next-in-Over
overflow_add-next-in-Over c =
    let z = next_low _ _ _ _ _ _ _ _ _ _ _ _ c.loop-taken.invariant in
    record { fits = omega (arith, z) }

pub overflow_add-next-in-Over-2 : goal.overflow_add-next-in-Over-2
overflow_add-next-in-Over-2 c =
    let z = next_low _ _ _ _ _ _ _ _ _ _ _ _ c.loop-taken.invariant in
    let w = over-low _ _ _ _ _ _ _ _ _ _ _ _ c.loop-taken.invariant
    (λ z. let t = c.loop-taken-test.true in omega (arith, z)) _ _ _ _ _ c.advance.ensures.0
    c.advance.ensures.1 _ c.in-Over.is in
    record { fits = omega (arith, z, w) }

pub loop-taken-preserved : goal.loop-taken-preserved
unfolding onward
loop-taken-preserved c =
    let e : c.args.budget.steps - (c.loop-taken.taken + 1) ≡ c.args.budget.steps - c.loop-taken.taken - 1 = omega arith in
    let G = c.loop-taken.invariant in
    elim c.match-advance.branch [
      | in-On w ↦ going-same _ _ _ _ _ _ _ _ _ _ _ _ (going_on _ _ _ _ _ _ _ _ _ _ _ _ G (λ z. let t = c.loop-taken-test.true in omega (arith, z)) _ _ _ _ _ c.advance.ensures.0 c.advance.ensures.1 w.in-On.is)
          w.frame-is w.block-is w.next-is w.last-is refl e
      | in-Over w ↦ going-same _ _ _ _ _ _ _ _ _ _ _ _ (over-spot _ _ _ _ _ _ _ _ _ _ _ _ _ (going-over _ _ _ _ _ _ _ _ _ _ _ _ G (λ z. let t = c.loop-taken-test.true in omega (arith, z)) _ _ _ _ _ c.advance.ensures.0 c.advance.ensures.1 _ w.in-Over.is))
          w.frame-is w.block-is w.next-is w.last-is refl e
      | in-Moved w ↦ going-same _ _ _ _ _ _ _ _ _ _ _ _ (going-moved _ _ _ _ _ _ _ _ _ _ _ _ G (λ z. let t = c.loop-taken-test.true in omega (arith, z)) _ _ _ _ _ c.advance.ensures.0 c.advance.ensures.1 w.in-Moved.is _ w.locate-to.ensures.0 w.locate-to.ensures.1)
          w.frame-is w.block-is w.next-is w.last-is w.locate-to.ensures.1 e
    ]

pub returns-in-Done : goal.returns-in-Done
returns-in-Done c =
    let e : c.loop-taken.taken ≡ c.args.budget.steps - (c.args.budget.steps - c.loop-taken.taken) = let t = c.loop-taken-test.true in omega arith in
    rw e (going_done _ _ _ _ _ _ _ _ _ _ _ _ c.loop-taken.invariant
    (λ z. let t = c.loop-taken-test.true in omega (arith, z)) _ _ _ _ _ c.advance.ensures.0 c.advance.ensures.1
    c.in-Done.is)

pub keep-requires : goal.keep-requires
keep-requires c =
    stuck-keep _ _ _ _ _ _ _ _ _ _ _ _ c.loop-taken.invariant
    (λ z. let t = c.loop-taken-test.true in omega (arith, z)) _ _ _ _ _ c.advance.ensures.0
    c.advance.ensures.1 c.in-Stuck.is

pub returns-in-Stuck : goal.returns-in-Stuck
returns-in-Stuck c =
    let e : c.loop-taken.taken ≡ c.args.budget.steps - (c.args.budget.steps - c.loop-taken.taken) = let t = c.loop-taken-test.true in omega arith in
    rw e (going-stuck _ _ _ _ _ _ _ _ _ _ _ _ c.loop-taken.invariant
    (λ z. let t = c.loop-taken-test.true in omega (arith, z)) _ _ _ _ _ c.advance.ensures.0
    c.advance.ensures.1 _ c.keep.ensures c.in-Stuck.is)

pub keep-requires-in-Stop : goal.keep-requires-in-Stop
keep-requires-in-Stop c =
    stop-keep _ _ _ _ _ _ _ _ _ _ _ _ c.loop-taken.invariant
    (λ z. let t = c.loop-taken-test.true in omega (arith, z)) _ _ _ _ _ c.advance.ensures.0
    c.advance.ensures.1 _ c.in-Stop.is

pub stop_run-requires : goal.stop_run-requires
stop_run-requires c =
    let W = stop-touched _ _ _ _ _ _ _ _ _ _ _ _ c.loop-taken.invariant
    (λ z. let t = c.loop-taken-test.true in omega (arith, z)) _ _ _ _ _
    c.advance.ensures.0 c.advance.ensures.1 _
    c.in-Stop.is in
    stop-sized _ _ _ _ _ _ _ _ _ _ _ _ c.loop-taken.invariant
    (λ z. let t = c.loop-taken-test.true in omega (arith, z)) _ _ _ _ _
    c.advance.ensures.0 c.advance.ensures.1 _
    c.keep-in-Stop.ensures W _ c.in-Stop.is

pub returns-in-Stop : goal.returns-in-Stop
returns-in-Stop c =
    let W = stop-touched _ _ _ _ _ _ _ _ _ _ _ _ c.loop-taken.invariant
    (λ z. let t = c.loop-taken-test.true in omega (arith, z)) _ _ _ _ _
    c.advance.ensures.0
    c.advance.ensures.1 _ c.in-Stop.is in
    let e : c.loop-taken.taken ≡ c.args.budget.steps - (c.args.budget.steps - c.loop-taken.taken) = let t = c.loop-taken-test.true in omega arith in
    rw (c.last_step.ensures.0, e) (going-stop _ _ _ _ _ _ _ _ _ _ _ _
    c.loop-taken.invariant
    (λ z. let t = c.loop-taken-test.true in omega (arith, z)) _ _ _ _ _
    c.advance.ensures.0
    c.advance.ensures.1 _ c.keep-in-Stop.ensures W _
    c.in-Stop.is _ c.stop_run.ensures.0)

pub returns-in-Rest : goal.returns-in-Rest
returns-in-Rest c =
    absurd (c.advance.ensures.0.told c.in-Rest.is)

pub keep-requires-2 : goal.keep-requires-2
keep-requires-2 c =
    none-keep _ _ _ _ _ _ _ _ _ _ _ _ c.loop-taken.invariant

pub returns : goal.returns
returns c =
    going-none _ _ _ _ _ _ _ _ _ _ _ _ c.loop-taken.invariant (let t = c.loop-taken-test.false in omega (arith, t)) _ c.keep-2.ensures
