-- `flow::question10::version_flows`: the body's action, if it is allowed, within the parameters.
use Rattle.flow.specs.Masks.{flowed}
use Rattle.rules.specs.Flows.{flows}
use Rattle.layout.proofs.Bools.{found_some, found_none}
use mathlib.Core.Path.{sym, ap, ◌∙◌}
use Rattle.flow.proofs.question10.version_flows.Goals as goal

pub returns-in_default : goal.returns-in_default
unfolding flows flowed
returns-in_default c =
    sym (found_none _ (sym c.body_action.ensures ∙ ap flowed c.in_default.is))

pub returns : goal.returns
unfolding flows flowed
returns c =
    c.below.ensures ∙ rw c.parameters.ensures.0 (sym (found_some _ (sym c.body_action.ensures ∙ ap flowed c.in-Some.is)))
