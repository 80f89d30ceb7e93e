-- `changes::kept_at`: only a VERSION is asked, and passes where it has no live frame.
use Rattle.machine.proofs.Changes.{asked-live, asked-idle}
use Rattle.program.proofs.Passes.{asked-version, asked-anywhere}
use mathlib.Core.Path.{refl, sym, ◌∙◌}
use Rattle.changes.proofs.kept_at.Goals as goal

pub returns-then-kind_at-ne-VERSION : goal.returns-then-kind_at-ne-VERSION
returns-then-kind_at-ne-VERSION c =
    sym (asked-anywhere _ _ _ _ c.kind_at.ensures c.if-kind_at-ne-VERSION.true (λ v n. refl) (λ v n. refl))

pub returns-then-is_live : goal.returns-then-is_live
returns-then-is_live c =
    let live = sym c.is_live.ensures ∙ c.if-is_live.true in
    let asks = asked-live _ _ _ _ _ _ c.field-f.ensures.0 c.field-w.ensures.0 live in
    c.same_in.ensures ∙ sym (asked-version _ _ _ _ c.kind_at.ensures c.if-kind_at-ne-VERSION.false ∙ asks)

pub returns-else-is_live : goal.returns-else-is_live
returns-else-is_live c =
    let idle = sym c.is_live.ensures ∙ c.if-is_live.false in
    let asks = asked-idle _ _ _ _ _ _ c.field-f.ensures.0 c.field-w.ensures.0 idle in
    sym (asked-version _ _ _ _ c.kind_at.ensures c.if-kind_at-ne-VERSION.false ∙ asks)
