use Rattle.acts.proofs.Clauses.{dup-done, dup-full, dup-none, dup-out, dup-stuck, vector-calls}
use Rattle.acts.proofs.Answers.{by, does-from, found-is, found-stuck, live-by, stays, stops, vector-free, vector-none}
use Rattle.store.proofs.Frames.{assign-in}
use Rattle.store.specs.Answers.{end_of}
use Rattle.store.specs.declared.Halt.{Halt}
use borrow.Author.Rules.{rules}
use Rattle.acts.proofs.dup.Goals as goal

pub returns-in_default : goal.returns-in_default
returns-in_default c =
    (λ P W. stays _ _ (dup-stuck P W _ _ _ _ _ _ (found-stuck c.vector.ensures.0 c.in_default.is)), c.requires.0)

pub returns-then-v-ge64 : goal.returns-then-v-ge64
returns-then-v-ge64 c = (
  λ P W. stays _ _ (dup-out P W _ _ _ _ _ _ (found-is c.vector.ensures.0 c.in-Some.is) c.if-v-ge64.true),
  c.requires.0,
)

pub returns-in_default-free_vector : goal.returns-in_default-free_vector
unfolding end_of
returns-in_default-free_vector c = (
  λ P W. stops _ _ Halt.Vectors (dup-none P W c.args.bytes.now
      c.args.numbers.now _ _ _ _
      (found-is c.vector.ensures.0 c.in-Some.is)
      c.if-v-ge64.false (vector-none c.args.counts.now _
      c.requires.0.counted _ c.free_vector.ensures
      c.in_default-free_vector.is)),
  c.requires.0,
)

pub returns-then-d-ge16 : goal.returns-then-d-ge16
returns-then-d-ge16 c = (
  λ P W. stays _ _ (dup-full P W c.args.bytes.now
      c.args.numbers.now _ _ _ _
      (found-is c.vector.ensures.0
      c.in-Some.is) c.if-v-ge64.false
      (vector-free c.args.counts.now _
      c.requires.0.counted _
      c.free_vector.ensures c.in-Some-free_vector.is).0
      c.requires.1 c.if-d-ge16.true),
  c.requires.0,
)

pub copy_vector-requires : goal.copy_vector-requires
copy_vector-requires c = (
  c.if-v-ge64.false,
  (vector-free
      c.args.counts.now _
      c.requires.0.counted _
      c.free_vector.ensures c.in-Some-free_vector.is).1,
  c.requires.0,
)

pub overflow_cast-w : goal.overflow_cast-w
overflow_cast-w c =
    let f = (vector-free
    c.args.counts.now _
    c.requires.0.counted _ c.free_vector.ensures
    c.in-Some-free_vector.is).1 in search rules

pub assign_vector-requires : goal.assign_vector-requires
assign_vector-requires c = (
  c.copy_vector.ensures.1,
  live-by _ _ _ _
      c.requires.1
      (vector-calls _ _ _ _ c.copy_vector.ensures.0),
)

pub returns : goal.returns
returns c =
    let f = vector-free
    c.args.counts.now _
    c.requires.0.counted _ c.free_vector.ensures
    c.in-Some-free_vector.is in
    let L = live-by _ _ _ _
    c.requires.1
    (vector-calls _ _ _ _ c.copy_vector.ensures.0) in (
      λ P W. by _ _ _ _ _
          (dup-done P W
          c.args.bytes.now
          c.args.numbers.now _ _ _ _
          (found-is c.vector.ensures.0
          c.in-Some.is)
          c.if-v-ge64.false f.0
          c.copy_vector.ensures.0)
          (does-from _ _ _ _ _ _ _ _ c.assign_vector.ensures.0 (assign-in _ _ _ _ _ L c.if-d-ge16.false).1),
      c.assign_vector.ensures.1,
    )
