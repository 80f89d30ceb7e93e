use mir.Facts.{to_z-of_z}
use Rattle.ending.proofs.Runs.{deliver-begun, deliver-one, vector-ends}
use borrow.Author.Rules.{rules}
use mir.Syntax.{w64}
use Rattle.ending.proofs.end_vector.Goals as goal

pub loop-j-init : goal.loop-j-init
loop-j-init c =
    deliver-begun _ _ c.requires.0 c.requires.1.1

pub loop-j-preserved : goal.loop-j-preserved
loop-j-preserved c =
    deliver-one _ _ c.requires.0 _ _ c.loop-j.invariant c.loop-j-test.true (to_z-of_z {w = w64} (search rules))

pub returns : goal.returns
returns c =
    vector-ends _ _ c.requires.0 _ c.requires.1 _ _
    c.loop-j.invariant c.loop-j-test.false c.close_run.ensures c.items-n.ensures.0
