-- `mends::mends`: a byte is changed, and changed back.
use lib.ListN.{length-set}
use mathlib.Core.Path.{refl}
use Rattle.mends.specs.Parts.{Told}
use Rattle.mends.proofs.Parts.{place_inside, same-value, other-value, changed-back, still-table}
use Rattle.mends.proofs.mends.Goals as goal

pub bounds-image-p : goal.bounds-image-p
bounds-image-p c =
    place_inside c.requires.failing.refusal c.args.p c.requires.among

pub returns-then-old-x : goal.returns-then-old-x
returns-then-old-x c =
    (same-value c.args.image.now c.args.p c.args.x refl c.if-old-x.true, refl)

pub bounds-image-p-2 : goal.bounds-image-p-2
bounds-image-p-2 c =
    place_inside c.requires.failing.refusal c.args.p c.requires.among

pub invariant_of-accepts : goal.invariant_of-accepts
invariant_of-accepts c = record { listed = still-table c.requires.failing c.args.p c.args.x c.requires.among }

pub accepts-m-requires : goal.accepts-m-requires
unfolding Told
accepts-m-requires c = c.requires.failing.told c.args.p c.args.x c.requires.among

pub bounds-image-p-3 : goal.bounds-image-p-3
bounds-image-p-3 c =
    simp length-set (place_inside c.requires.failing.refusal c.args.p c.requires.among)

pub shape_of-image : goal.shape_of-image
shape_of-image c =
    simp length-set

pub returns : goal.returns
returns c =
    (other-value c.args.image.now c.args.p c.args.x refl c.if-old-x.false c.accepts-m.ensures, changed-back c.args.image.now c.args.p c.args.x refl)
