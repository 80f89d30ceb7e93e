use mathlib.Core.Path.{sym, ◌∙◌}
use Rattle.bounds.proofs.Pairs.{allows-above, allows-unlike, allows-other, allows-outside, allows-marked}
use Rattle.bounds.proofs.signatures.allows.Goals as goal

pub returns-then-not-not_above : goal.returns-then-not-not_above
returns-then-not-not_above c =
    allows-above _ _ _ _ _ _ (sym c.not_above.ensures ∙ c.if-not-not_above.true)

pub returns-then-not-same_ownerships : goal.returns-then-not-same_ownerships
returns-then-not-same_ownerships c =
    allows-unlike _ _ _ _ _ _ (sym c.not_above.ensures ∙ c.if-not-not_above.false) (sym c.same_ownerships.ensures ∙ c.if-not-same_ownerships.true)

pub returns-then-t-u : goal.returns-then-t-u
returns-then-t-u c =
    allows-other _ _ _ _ _ _ (sym c.not_above.ensures ∙ c.if-not-not_above.false)
    (sym c.same_ownerships.ensures ∙ c.if-not-same_ownerships.false) c.field-t.ensures.0 c.field-u.ensures.0 c.if-t-u.true

pub returns-then-not-is_within : goal.returns-then-not-is_within
returns-then-not-is_within c =
    allows-outside _ _ _ _ _ _ (sym c.not_above.ensures ∙ c.if-not-not_above.false)
    (sym c.same_ownerships.ensures ∙ c.if-not-same_ownerships.false) c.field-t.ensures.0 c.field-u.ensures.0 c.if-t-u.false
    (sym c.is_within.ensures ∙ c.if-not-is_within.true)

pub returns : goal.returns
returns c =
    allows-marked _ _ _ _ _ _ (sym c.not_above.ensures ∙ c.if-not-not_above.false)
    (sym c.same_ownerships.ensures ∙ c.if-not-same_ownerships.false) c.field-t.ensures.0
    c.field-u.ensures.0 c.if-t-u.false (sym c.is_within.ensures ∙ c.if-not-is_within.false) c.mark.ensures.0 c.field.ensures.0
