-- `whereabouts::look`: a cell of a live call, or outside.
use Rattle.whereabouts.proofs.Looked.{outside-calls, ended-call, outside-frame, looked}
use Rattle.whereabouts.proofs.look.Goals as goal

pub returns-then-call-ge-ACTIVATIONS : goal.returns-then-call-ge-ACTIVATIONS
returns-then-call-ge-ACTIVATIONS c =
    outside-calls _ _ _ _ c.if-call-ge-ACTIVATIONS.true

pub returns-then-wide-call : goal.returns-then-wide-call
returns-then-wide-call c =
    ended-call _ _ _ _ c.wide.ensures.0 c.if-wide-call.true

pub returns-then-place-ge-CELLS : goal.returns-then-place-ge-CELLS
returns-then-place-ge-CELLS c =
    outside-frame _ _ _ _ c.wide.ensures.0 c.if-call-ge-ACTIVATIONS.false c.if-wide-call.false c.if-place-ge-CELLS.true

pub returns : goal.returns
returns c =
    looked _ _ _ _ c.wide.ensures.0 c.if-call-ge-ACTIVATIONS.false c.if-wide-call.false c.if-place-ge-CELLS.false c.cell-value.ensures.0
