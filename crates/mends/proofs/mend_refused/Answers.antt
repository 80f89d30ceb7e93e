-- `mends::mend_refused`: an image that is refused by 6, 8, 9 or 10 is no longer than the copy.
use native.Mathlib.Omega.{arith}
use lib.ListN.{length-take, length-drop}
use Rattle.mends.proofs.Parts.{refused-short, beside-change, beside-nowhere}
use Rattle.mends.proofs.mend_refused.Goals as goal

pub slice_bounds-copy-end : goal.slice_bounds-copy-end
slice_bounds-copy-end c = omega (arith, refused-short c.requires)

pub mend_in-requires : goal.mend_in-requires
mend_in-requires c = record { refusal = c.requires; copy_len = simp (length-take, length-drop) (omega (arith, refused-short c.requires)) }

pub returns-in-Some : goal.returns-in-Some
returns-in-Some c =
    beside-change c.args.why c.mend_in.ensures c.in-Some.is

pub returns-in-None : goal.returns-in-None
returns-in-None c =
    beside-nowhere c.args.why c.mend_in.ensures c.in-None.is
