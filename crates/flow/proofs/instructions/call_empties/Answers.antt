-- `flow::instructions::call_empties`: a version that is looked up stands at its place.
use Rattle.flow.proofs.Listed.{none_named, call-missing, call-found}
use mathlib.Core.Option.{Option-elim}
use mathlib.Core.Path.{sym, ◌∙◌}
use Rattle.flow.proofs.instructions.call_empties.Goals as goal

pub returns-in_default : goal.returns-in_default
unfolding Option-elim
returns-in_default c =
    rw (call-missing _ _ c.field-f.ensures.0 c.field-w.ensures.0 (sym c.version.ensures ∙ c.in_default.is)) none_named

pub returns : goal.returns
unfolding Option-elim
returns c =
    rw (call-found _ _ c.field-f.ensures.0 c.field-w.ensures.0 _ (sym c.version.ensures ∙ c.in-Some.is)) c.given_owned.ensures
