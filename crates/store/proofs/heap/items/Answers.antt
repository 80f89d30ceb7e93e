-- `store::heap::items`: no more than there is room for.
use native.Mathlib.Omega.{arith}
use mathlib.Core.Path.{◌∙◌}
use Rattle.store.proofs.Vectors.{count-most}
use Rattle.store.proofs.heap.items.Goals as goal

pub returns : goal.returns
returns c = (c.min.ensures ∙ count-most _ _ _, omega (arith, c.min.ensures))
