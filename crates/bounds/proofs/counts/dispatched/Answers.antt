use Rattle.bounds.proofs.Ahead.{found_at, missing_at, from-missing, from-passed, from-open, from_more, from_last}
use Rattle.bounds.proofs.Caps.{max-greater}
use mathlib.Core.Path.{refl, sym, ◌∙◌}
use Rattle.bounds.proofs.counts.dispatched.Goals as goal

pub loop-w-init : goal.loop-w-init
loop-w-init c =
    (c.field-f.ensures.0, rw (← c.field-f.ensures.0) refl)

pub returns-then-n-eq0 : goal.returns-then-n-eq0
returns-then-n-eq0 c =
    sym (c.loop-w.invariant.1
    ∙ from-open _ _ _ _ _ _ c.loop-w-test.true _ (found_at _ _ _ c.version.ensures _ c.in-Some.is)
    (sym c.allows.ensures ∙ c.if-not-allows.false) c.kept-n.ensures c.if-n-eq0.true)

pub loop-w-preserved : goal.loop-w-preserved
loop-w-preserved c = (
  c.loop-w.invariant.0,
  c.loop-w.invariant.1
      ∙ from_more _ _ _ _ _ _ c.loop-w-test.true _
      (found_at _ _ _ c.version.ensures _ c.in-Some.is) (sym c.allows.ensures ∙ c.if-not-allows.false)
      c.kept-n.ensures c.if-n-eq0.false (c.max-greatest.ensures ∙ max-greater _ _),
)

pub loop-w-preserved-then-not-allows : goal.loop-w-preserved-then-not-allows
loop-w-preserved-then-not-allows c = (
  c.loop-w.invariant.0,
  c.loop-w.invariant.1
      ∙ from-passed _ _ _ _ _ _ c.loop-w-test.true _ (found_at _ _ _ c.version.ensures _ c.in-Some.is) (sym c.allows.ensures ∙ c.if-not-allows.true),
)

pub loop-w-preserved-in_default : goal.loop-w-preserved-in_default
loop-w-preserved-in_default c =
    (c.loop-w.invariant.0, c.loop-w.invariant.1 ∙ from-missing _ _ _ _ _ _ c.loop-w-test.true (missing_at _ _ _ c.version.ensures c.in_default.is))

pub returns : goal.returns
returns c =
    sym (c.loop-w.invariant.1 ∙ from_last _ _ _ _ _ _ c.loop-w-test.false)
