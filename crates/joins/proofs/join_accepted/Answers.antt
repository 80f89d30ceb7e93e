-- `joins::join_accepted`: one bound after the other; the first image, and behind it the second's records.
use native.Mathlib.Omega.{arith}
use mathlib.Core.Path.{refl}
use Rattle.checker.proofs.Puts.{put-length}
use Rattle.joins.proofs.Parts.{all-long}
use Rattle.joins.proofs.Answers.{counted-versions, ready, says-long, says-numbers, says-many, says-short, says-written}
use Rattle.joins.proofs.join_accepted.Goals as goal

pub overflow_add-size : goal.overflow_add-size
overflow_add-size c =
    omega (arith, (counted-versions _ _ c.requires.first_value).2, (counted-versions _ _ c.requires.second_value).2)

pub returns-then-size-gt-IMAGE : goal.returns-then-size-gt-IMAGE
returns-then-size-gt-IMAGE c =
    says-long c.args.first.now c.args.second.now c.args.out.now c.if-size-gt-IMAGE.true

pub overflow_add-k : goal.overflow_add-k
overflow_add-k c =
    omega (arith, c.functions-k.ensures.1, c.functions.ensures.1)

pub returns-then-k-functions-gt-FUNCTIONS : goal.returns-then-k-functions-gt-FUNCTIONS
returns-then-k-functions-gt-FUNCTIONS c =
    says-numbers c.args.first.now c.args.second.now c.args.out.now c.if-size-gt-IMAGE.false c.functions-k.ensures.0 c.functions.ensures.0 c.if-k-functions-gt-FUNCTIONS.true

pub overflow_add-n : goal.overflow_add-n
overflow_add-n c =
    omega (arith, (counted-versions _ _ c.requires.first_value).1, (counted-versions _ _ c.requires.second_value).1)

pub returns-then-n-m-gt-ALL_VERSIONS : goal.returns-then-n-m-gt-ALL_VERSIONS
returns-then-n-m-gt-ALL_VERSIONS c =
    says-many c.args.first.now c.args.second.now c.args.out.now c.if-size-gt-IMAGE.false c.functions-k.ensures.0 c.functions.ensures.0 c.if-k-functions-gt-FUNCTIONS.false (counted-versions _ _ c.requires.first_value).0 (counted-versions _ _ c.requires.second_value).0 c.if-n-m-gt-ALL_VERSIONS.true

pub returns-then-out-size : goal.returns-then-out-size
returns-then-out-size c =
    says-short c.args.first.now c.args.second.now c.args.out.now c.if-size-gt-IMAGE.false c.functions-k.ensures.0 c.functions.ensures.0 c.if-k-functions-gt-FUNCTIONS.false (counted-versions _ _ c.requires.first_value).0 (counted-versions _ _ c.requires.second_value).0 c.if-n-m-gt-ALL_VERSIONS.false c.if-out-size.true

pub overflow_cast-k : goal.overflow_cast-k
overflow_cast-k c =
    omega (arith, c.if-k-functions-gt-FUNCTIONS.false)

pub put_records-requires : goal.put_records-requires
put_records-requires c = record { ready = ready c.functions-k.result c.args.second.now c.args.m (λ i. (c.shared_slice_known-2-1.given i).fits) c.requires.second_value (omega (arith, c.if-k-functions-gt-FUNCTIONS.false, c.functions.ensures.0)); image_in_bounds = omega (arith, c.if-out-size.false, put-length (record { writes = c.put_bytes.ensures; ends = refl })) }

pub returns : goal.returns
returns c =
    says-written c.args.first.now c.args.second.now c.args.out.now c.if-size-gt-IMAGE.false c.functions-k.ensures.0 c.functions.ensures.0 c.if-k-functions-gt-FUNCTIONS.false (counted-versions _ _ c.requires.first_value).0 (counted-versions _ _ c.requires.second_value).0 c.if-n-m-gt-ALL_VERSIONS.false c.if-out-size.false
    (all-long _ _ (ready c.functions-k.result c.args.second.now c.args.m (λ i. (c.shared_slice_known-2-1.given i).fits) c.requires.second_value (omega (arith, c.if-k-functions-gt-FUNCTIONS.false, c.functions.ensures.0))).whole) c.put_bytes.ensures c.put_records.ensures
