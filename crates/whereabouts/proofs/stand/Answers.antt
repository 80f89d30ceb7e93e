-- `whereabouts::stand`: nowhere, or by the numbers that the activation on top and its frame tell.
use mathlib.Core.Path.{◌∙◌}
use Rattle.whereabouts.proofs.Shown.{no-depth, too-deep, no-frame, not_live, by-numbers}
use Rattle.whereabouts.proofs.stand.Goals as goal

pub returns-then-depth-eq0 : goal.returns-then-depth-eq0
returns-then-depth-eq0 c =
    λ n. no-depth _ _ n c.wide-depth.ensures.0 c.if-depth-eq0.true

pub returns-then-depth-gt-ACTIVATIONS : goal.returns-then-depth-gt-ACTIVATIONS
returns-then-depth-gt-ACTIVATIONS c =
    λ n. too-deep _ _ n c.wide-depth.ensures.0 c.if-depth-gt-ACTIVATIONS.true

pub returns-then-k-ge-ACTIVATIONS : goal.returns-then-k-ge-ACTIVATIONS
returns-then-k-ge-ACTIVATIONS c =
    λ n. no-frame _ _ n c.wide-depth.ensures.0 c.if-depth-eq0.false c.if-depth-gt-ACTIVATIONS.false c.activation-top.ensures c.wide-k.ensures.0 c.if-k-ge-ACTIVATIONS.true

pub returns-then-wide-k : goal.returns-then-wide-k
returns-then-wide-k c =
    λ n. not_live _ _ n c.wide-depth.ensures.0 c.if-depth-eq0.false c.if-depth-gt-ACTIVATIONS.false c.activation-top.ensures c.wide-k.ensures.0
    c.wide.ensures.0 c.if-wide-k.true

pub returns : goal.returns
returns c =
    λ n. c.spot.ensures ∙ by-numbers _ _ n c.wide-depth.ensures.0 c.if-depth-eq0.false c.if-depth-gt-ACTIVATIONS.false
    c.activation-top.ensures c.wide-k.ensures.0 c.wide.ensures.0 c.if-k-ge-ACTIVATIONS.false c.if-wide-k.false
