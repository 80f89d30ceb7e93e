-- `watches::vector`: the items of the vector that is there, or none.
use mathlib.Core.Path.{◌∙◌}
use Rattle.watches.proofs.Records.{far-vector, vector-shown}
use Rattle.watches.proofs.vector.Goals as goal

pub returns-then-place-ge-VECTORS : goal.returns-then-place-ge-VECTORS
returns-then-place-ge-VECTORS c =
    c.plain.ensures ∙ far-vector _ _ _ _ c.if-place-ge-VECTORS.true

pub returns : goal.returns
returns c =
    vector-shown _ _ _ _ c.if-place-ge-VECTORS.false c.items-length.ensures.0 c.items-items.ensures
