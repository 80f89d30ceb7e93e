-- `flow::question10::flows_at`: only a VERSION is asked.
use Rattle.program.proofs.Passes.{asked-version, asked-anywhere}
use mathlib.Core.Path.{refl, sym, ◌∙◌}
use Rattle.flow.proofs.question10.flows_at.Goals as goal

pub returns-then-kind_at-eq-VERSION : goal.returns-then-kind_at-eq-VERSION
returns-then-kind_at-eq-VERSION c =
    c.version_flows.ensures ∙ sym (asked-version _ _ _ _ c.kind_at.ensures c.if-kind_at-eq-VERSION.true)

pub returns-else-kind_at-eq-VERSION : goal.returns-else-kind_at-eq-VERSION
returns-else-kind_at-eq-VERSION c =
    sym (asked-anywhere _ _ _ _ c.kind_at.ensures c.if-kind_at-eq-VERSION.false (λ v n. refl) (λ v n. refl))
