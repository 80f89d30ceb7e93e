use native.Mathlib.Omega.{arith}
use lib.ListN.{length}
use mathlib.Core.Path.{ap, ◌∙◌}
use Rattle.mends.proofs.Parts.{place-first, place-owned, place-few, place-hit, place-next, place-last, failing-as}
use Rattle.mends.proofs.place_in.Goals as goal

pub loop-i-init : goal.loop-i-init
loop-i-init c =
    place-first _ _ _

pub overflow_add-from : goal.overflow_add-from
overflow_add-from c =
    omega (arith, place-few c.requires.failing.refusal c.args.from c.args.n c.loop-i.i c.requires.owned c.loop-i-test.true)

pub value_at-requires : goal.value_at-requires
value_at-requires c = record { failing = failing-as c.loop-i.invariant.same c.requires.failing; among = place-owned c.loop-i.invariant c.requires.owned c.loop-i-test.true }

pub shape_of-image-in-Some : goal.shape_of-image-in-Some
shape_of-image-in-Some c =
    ap length (c.value_at.ensures.1 ∙ c.loop-i.invariant.same)

pub returns-in-Some : goal.returns-in-Some
returns-in-Some c =
    place-hit c.loop-i.invariant c.loop-i-test.true c.value_at.ensures.0 c.in-Some.is c.value_at.ensures.1

pub loop-i-preserved : goal.loop-i-preserved
loop-i-preserved c =
    place-next c.loop-i.invariant c.loop-i-test.true c.value_at.ensures.0 c.in_default.is c.value_at.ensures.1

pub shape_of-image : goal.shape_of-image
shape_of-image c =
    ap length c.loop-i.invariant.same

pub returns : goal.returns
returns c =
    place-last c.loop-i.invariant c.loop-i-test.false
