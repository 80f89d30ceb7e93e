-- `layout::question_1`: the length of the image against both bounds.
use Rattle.layout.specs.Questions.{question1}
use Rattle.layout.specs.Tests.{◌and◌}
use borrow.Author.Tests.{lt-ltb, le-leb, lt-leb}
use lib.ListN.{length}
use native.Mathlib.Omega.{arith}
use Rattle.layout.proofs.question_1.Goals as goal

pub returns-then-image-eq0 : goal.returns-then-image-eq0
unfolding question1 ◌and◌
returns-then-image-eq0 c =
    simp c.if-image-eq0.true

pub returns-then-image-gt-IMAGE : goal.returns-then-image-gt-IMAGE
unfolding question1 ◌and◌
returns-then-image-gt-IMAGE c =
    simp (lt-ltb 0 (length c.args.image.now) (omega arith), lt-leb _ _ c.if-image-gt-IMAGE.true)

pub returns : goal.returns
unfolding question1 ◌and◌
returns c =
    simp (lt-ltb 0 (length c.args.image.now) (omega (arith, c.if-image-eq0.false)), le-leb _ _ c.if-image-gt-IMAGE.false)
