use lib.ListN.{length}
use mathlib.Core.Path.{ap, ◌∙◌}
use Rattle.mends.proofs.Parts.{value-first, valued_as, value-hit, value-next, value-last, failing-as, among-as, helpless}
use Rattle.mends.proofs.value_at.Goals as goal

pub shape_of-image-then-not-may_help : goal.shape_of-image-then-not-may_help
shape_of-image-then-not-may_help c =
    ap length c.may_help.ensures.1

pub returns-then-not-may_help : goal.returns-then-not-may_help
returns-then-not-may_help c =
    (helpless _ _ _ c.may_help.ensures.0 (c.if-not-may_help.true), c.may_help.ensures.1)

pub loop-i-init : goal.loop-i-init
loop-i-init c =
    value-first _ _

pub mends-requires : goal.mends-requires
mends-requires c =
    let e = c.loop-i.invariant.same ∙ c.may_help.ensures.1 in
    record { failing = failing-as e c.requires.failing; among = among-as _ e c.requires.among }

pub shape_of-image-then-mends : goal.shape_of-image-then-mends
shape_of-image-then-mends c =
    ap length (c.mends.ensures.1 ∙ c.loop-i.invariant.same ∙ c.may_help.ensures.1)

pub returns-then-mends : goal.returns-then-mends
returns-then-mends c =
    valued_as _ c.may_help.ensures.1 (value-hit c.loop-i.invariant c.loop-i-test.true c.type_byte-x.ensures c.mends.ensures.0 c.if-mends.true c.mends.ensures.1)

pub loop-i-preserved : goal.loop-i-preserved
loop-i-preserved c =
    value-next c.loop-i.invariant c.loop-i-test.true c.type_byte-x.ensures c.mends.ensures.0 c.if-mends.false c.mends.ensures.1

pub shape_of-image : goal.shape_of-image
shape_of-image c =
    ap length (c.loop-i.invariant.same ∙ c.may_help.ensures.1)

pub returns : goal.returns
returns c =
    valued_as _ c.may_help.ensures.1 (value-last c.loop-i.invariant c.loop-i-test.false)
