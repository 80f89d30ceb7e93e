use Rattle.searches.proofs.Observed.{at_other, at-dispatch}
use mathlib.Core.Path.{◌∙◌}
use Rattle.searches.proofs.looks_at.Goals as goal

pub returns-then-wide-ne-DISPATCH : goal.returns-then-wide-ne-DISPATCH
returns-then-wide-ne-DISPATCH c =
    at_other _ _ _ _ _ _ (c.wide.ensures.0 ∙ c.byte-kind.ensures) c.if-wide-ne-DISPATCH.true

pub returns : goal.returns
returns c =
    at-dispatch _ _ _ _ _ _ (c.wide.ensures.0 ∙ c.byte-kind.ensures) _ c.if-wide-ne-DISPATCH.false c.place_at.ensures c.looks.ensures
