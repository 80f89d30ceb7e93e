use Rattle.acts.proofs.Setting.{holds-vector}
use Rattle.acts.proofs.Clauses.{use-done, use-out}
use Rattle.acts.proofs.Answers.{assigned-is, by, does-from, found-is, found-stuck, live-still, narrow_at, stays}
use Rattle.store.proofs.Frames.{assign-in}
use Rattle.machine.specs.Try.{◌>>=◌}
use Rattle.machine.specs.Steps.{execute_to}
use mathlib.Core.Path.{refl}
use borrow.Author.Rules.{rules}
use Rattle.acts.proofs.use_up.Goals as goal

pub returns-in_default : goal.returns-in_default
unfolding execute_to ◌>>=◌
returns-in_default c =
    (λ P W. stays _ _ (rw (found-stuck c.vector.ensures.0 c.in_default.is) refl), c.requires.0)

pub returns-then-d-ge16 : goal.returns-then-d-ge16
returns-then-d-ge16 c = (
  λ P W. stays _ _ (use-out P W _ _ _ _ _ c.requires.0 c.requires.1
      (found-is c.vector.ensures.0 c.in-Some.is) c.if-d-ge16.true),
  c.requires.0,
)

pub overflow_cast-v : goal.overflow_cast-v
overflow_cast-v c =
    let q = narrow_at c.vector.ensures.1
    c.in-Some.is in search rules

pub assign_vector-requires : goal.assign_vector-requires
assign_vector-requires c =
    let h = (holds-vector c.args.bytes.now
    c.args.numbers.now _ _ _
    (found-is c.vector.ensures.0
    c.in-Some.is)).0 in (
      c.assign_empty.ensures.1,
      live-still _ _ _ _ _ _ _ _ c.requires.1 h
          c.assign_empty.ensures.0,
    )

pub returns : goal.returns
returns c =
    let e = found-is c.vector.ensures.0
    c.in-Some.is in
    let h = (holds-vector c.args.bytes.now
    c.args.numbers.now _ _ _ e).0 in
    let q = assigned-is _ _ _ _ _ _ _ _ c.requires.1 h
    c.assign_empty.ensures.0 in
    let L = live-still _ _ _ _ _ _ _ _ c.requires.1 h
    c.assign_empty.ensures.0 in (
      λ P W. by _ _ _ _ _ (use-done P W c.args.bytes.now
          c.args.numbers.now _ _ _ e q)
          (does-from _ _ _ _ _ _ _ _ c.assign_vector.ensures.0 (assign-in _ _ _ _ _ L c.if-d-ge16.false).1),
      c.assign_vector.ensures.1,
    )
