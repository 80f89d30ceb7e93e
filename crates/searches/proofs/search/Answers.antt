use Rattle.searches.proofs.Observed.{no-depth, too-deep, not_live, live-looks}
use Rattle.acts.proofs.Delayed.{live-from}
use Rattle.searches.proofs.search.Goals as goal

pub returns-then-depth-eq0 : goal.returns-then-depth-eq0
returns-then-depth-eq0 c =
    no-depth _ _ _ c.wide-depth.ensures.0 c.if-depth-eq0.true

pub returns-then-depth-gt-ACTIVATIONS : goal.returns-then-depth-gt-ACTIVATIONS
returns-then-depth-gt-ACTIVATIONS c =
    too-deep _ _ _ c.wide-depth.ensures.0 c.if-depth-gt-ACTIVATIONS.true

pub looks_in-requires : goal.looks_in-requires
looks_in-requires c =
    (live-from _ _ _ c.is_live.ensures c.if-is_live.true).0

pub returns-then-is_live : goal.returns-then-is_live
returns-then-is_live c =
    live-looks _ _ _ c.wide-depth.ensures.0 c.if-depth-eq0.false c.if-depth-gt-ACTIVATIONS.false c.activation-top.ensures c.wide-k.ensures.0 _ c.is_live.ensures _
    c.if-is_live.true c.looks_in.ensures

pub returns-else-is_live : goal.returns-else-is_live
returns-else-is_live c =
    not_live _ _ _ c.wide-depth.ensures.0 c.if-depth-eq0.false c.if-depth-gt-ACTIVATIONS.false c.activation-top.ensures c.wide-k.ensures.0 _ c.is_live.ensures c.if-is_live.false
