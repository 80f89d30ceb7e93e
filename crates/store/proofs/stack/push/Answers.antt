use Rattle.store.proofs.Pushing.{calm-ready, pushed-by, too-deep}
use Rattle.store.specs.Acts.{Does}
use Rattle.store.specs.Answers.{end_of}
use mathlib.Core.Path.{refl}
use Rattle.store.proofs.stack.push.Goals as goal

pub returns-then-depth-ge32 : goal.returns-then-depth-ge32
unfolding Does end_of
returns-then-depth-ge32 c =
    ((too-deep _ _ _ c.if-depth-ge32.true, refl, refl), c.requires)

pub pend-requires : goal.pend-requires
pend-requires c =
    calm-ready c.requires

pub returns : goal.returns
unfolding Does
returns c =
    pushed-by c.args.bytes.now c.args.numbers.now _
    c.tag.ensures c.forced.ensures c.requires
    c.if-depth-ge32.false c.pend.ensures
