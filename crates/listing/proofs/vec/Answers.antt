use Rattle.listing.proofs.Gathering.{gathered, vec-done, vec-full, vec-none, vec-stuck}
use Rattle.acts.proofs.Clauses.{vector-calls}
use Rattle.acts.proofs.Answers.{by, does-from, live-by, stays, stops, vector-free, vector-none}
use Rattle.store.proofs.Frames.{assign-in}
use Rattle.store.specs.Answers.{end_of}
use Rattle.store.specs.declared.Halt.{Halt}
use borrow.Author.Rules.{rules}
use Rattle.listing.proofs.vec.Goals as goal

pub returns-in_default : goal.returns-in_default
unfolding end_of
returns-in_default c = (
  λ P W. stops _ _ Halt.Vectors (vec-none P W c.args.bytes.now
      c.args.numbers.now _ _ _ _ _ c.all_integers.ensures
      c.if-all_integers.true (vector-none c.args.counts.now _
      c.requires.0.counted _ c.free_vector.ensures c.in_default.is)),
  c.requires.0,
)

pub returns-then-d-ge16 : goal.returns-then-d-ge16
returns-then-d-ge16 c = (
  λ P W. stays _ _ (vec-full P W c.args.bytes.now
      c.args.numbers.now _ _ _ _ _
      c.all_integers.ensures c.if-all_integers.true
      (vector-free c.args.counts.now _
      c.requires.0.counted _ c.free_vector.ensures
      c.in-Some.is).0 c.requires.1 c.if-d-ge16.true),
  c.requires.0,
)

pub fill-requires : goal.fill-requires
fill-requires c = (
  c.requires.1.0,
  (vector-free
      c.args.counts.now _
      c.requires.0.counted _
      c.free_vector.ensures c.in-Some.is).1,
  (gathered _ _ _ _ _
      c.all_integers.ensures
      c.if-all_integers.true).1,
  c.requires.2,
  c.requires.0,
)

pub overflow_cast-w : goal.overflow_cast-w
overflow_cast-w c =
    let f = (vector-free
    c.args.counts.now _
    c.requires.0.counted _
    c.free_vector.ensures
    c.in-Some.is).1 in search rules

pub assign_vector-requires : goal.assign_vector-requires
assign_vector-requires c = (
  c.fill.ensures.1,
  live-by _ _ _ _
      c.requires.1
      (vector-calls _ _ _ _ c.fill.ensures.0),
)

pub returns-else-d-ge16 : goal.returns-else-d-ge16
returns-else-d-ge16 c =
    let L = live-by _ _ _ _
    c.requires.1
    (vector-calls _ _ _ _ c.fill.ensures.0) in (
      λ P W. by _ _ _ _ _
          (vec-done P W
          c.args.bytes.now
          c.args.numbers.now _ _ _ _ _
          c.all_integers.ensures
          c.if-all_integers.true
          (vector-free
          c.args.counts.now _
          c.requires.0.counted _
          c.free_vector.ensures
          c.in-Some.is).0 c.fill.ensures.0)
          (does-from _ _ _ _ _ _ _ _ c.assign_vector.ensures.0 (assign-in _ _ _ _ _ L c.if-d-ge16.false).1),
      c.assign_vector.ensures.1,
    )

pub returns-else-all_integers : goal.returns-else-all_integers
returns-else-all_integers c =
    (λ P W. stays _ _ (vec-stuck P W _ _ _ _ _ _ _ c.all_integers.ensures c.if-all_integers.false), c.requires.0)
