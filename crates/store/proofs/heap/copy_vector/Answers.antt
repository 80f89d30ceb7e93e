use mir.Syntax.{w64}
use mir.Facts.{to_z-of_z}
use Rattle.store.proofs.Vectors.{copied-vector, copy-begun, copy-one}
use borrow.Author.Rules.{rules}
use Rattle.store.proofs.heap.copy_vector.Goals as goal

pub loop-j-init : goal.loop-j-init
loop-j-init c = copy-begun _ _ _ c.requires.0 c.requires.1 c.requires.2.numbers

pub loop-j-preserved : goal.loop-j-preserved
loop-j-preserved c =
    let C = c.loop-j.invariant in
    copy-one _ _ _ c.requires.0 c.requires.1 _ _ _ c.loop-j-test.true C (to_z-of_z {w = w64} (search rules))

pub returns : goal.returns
returns c =
    let C = c.loop-j.invariant in
    copied-vector _ _ _ c.requires.0 c.requires.1 _ _ _ _ C c.loop-j-test.false c.requires.2
