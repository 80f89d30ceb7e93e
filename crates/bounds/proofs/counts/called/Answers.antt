use Rattle.bounds.proofs.Ahead.{found_at, missing_at, called-missing, called-open, called-listed}
use Rattle.bounds.proofs.Caps.{max-back}
use mathlib.Core.Path.{◌∙◌}
use Rattle.bounds.proofs.counts.called.Goals as goal

pub returns-in_default : goal.returns-in_default
returns-in_default c =
    called-missing _ _ c.field-f.ensures.0 c.field-w.ensures.0 (missing_at _ _ _ c.version.ensures c.in_default.is)

pub returns-then-n-eq0 : goal.returns-then-n-eq0
returns-then-n-eq0 c =
    called-open _ _ c.field-f.ensures.0 c.field-w.ensures.0 _ (found_at _ _ _ c.version.ensures _ c.in-Some.is) c.kept-n.ensures c.if-n-eq0.true

pub returns-else-n-eq0 : goal.returns-else-n-eq0
returns-else-n-eq0 c =
    called-listed _ _ c.field-f.ensures.0 c.field-w.ensures.0 _ (found_at _ _ _ c.version.ensures _ c.in-Some.is)
    c.kept-n.ensures c.if-n-eq0.false (c.max.ensures ∙ max-back _ _)
