use mathlib.Core.Path.{sym, ap, ◌∙◌}
use Rattle.bounds.proofs.Ahead.{reaches-call, reaches-dispatch, most-plain}
use Rattle.bounds.specs.Counts.{most}
use Rattle.bounds.proofs.counts.reach.Goals as goal

pub returns-in-33 : goal.returns-in-33
returns-in-33 c =
    c.called.ensures ∙ ap (most _ 1) (sym (reaches-call _ _ _ _ (sym c.kind_at.ensures ∙ c.in-33.is)))

pub returns-in-34 : goal.returns-in-34
returns-in-34 c =
    c.dispatched.ensures ∙ ap (most _ 1) (sym (reaches-dispatch _ _ _ _ (sym c.kind_at.ensures ∙ c.in-34.is)))

pub returns-in_default : goal.returns-in_default
returns-in_default c =
    most-plain _ _ _ _ _ (λ e. c.in_default.in_default-own.rest.0.1 (c.kind_at.ensures ∙ e)) (λ e. c.in_default.in_default-own.rest.1 (c.kind_at.ensures ∙ e))
