use Rattle.acts.proofs.Delayed.{live-from, poke-done, poke-gone, poke-out}
use Rattle.acts.proofs.Answers.{by, found-is, found-stuck, stays}
use Rattle.machine.specs.Steps.{execute_to}
use Rattle.machine.specs.Try.{◌>>=◌}
use mathlib.Core.Path.{refl}
use Rattle.acts.proofs.poke.Goals as goal

pub returns-in_default : goal.returns-in_default
unfolding execute_to ◌>>=◌
returns-in_default c =
    (λ P W. stays _ _ (rw (found-stuck c.promise.ensures.0 c.in_default.is) refl), c.requires.0)

pub returns-then-p-ge64 : goal.returns-then-p-ge64
returns-then-p-ge64 c = (
  λ P W. stays _ _ (poke-out P W _ _ _ _ _ (found-is c.promise.ensures.0 c.in-Some.is) _ c.if-p-ge64.true),
  c.requires.0,
)

pub store_register-requires : goal.store_register-requires
store_register-requires c = (
  c.requires.0,
  live-from _ _ _
      c.is_live.ensures c.if-is_live.true,
  c.requires.1.0,
)

pub returns-then-is_live : goal.returns-then-is_live
returns-then-is_live c = (
  λ P W. by _ _ _ _ _
      (poke-done P W
      c.args.bytes.now
      c.args.numbers.now _ _ _
      (found-is c.promise.ensures.0
      c.in-Some.is)
      c.if-p-ge64.false
      c.promise_at-q.ensures c.wide-j.ensures.0 _
      c.is_live.ensures _) c.store_register.ensures.0,
  c.store_register.ensures.1,
)

pub returns-else-is_live : goal.returns-else-is_live
returns-else-is_live c = (
  λ P W. stays _ _ (poke-gone P W c.args.bytes.now
      c.args.numbers.now _ _ _
      (found-is c.promise.ensures.0
      c.in-Some.is) c.if-p-ge64.false
      c.promise_at-q.ensures c.wide-j.ensures.0 _ c.is_live.ensures _ c.if-is_live.false),
  c.requires.0,
)
