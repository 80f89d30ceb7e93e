-- `flow::actions::follow`: each condition of "then" is one test, and the result goes set by set.
use Rattle.rules.specs.Actions.{◌then◌, clash, joined}
use Rattle.flow.specs.Masks.{flowed}
use mathlib.Core.Path.{sym, ◌∙◌}
use Rattle.flow.proofs.actions.follow.Goals as goal

pub returns-then-meets : goal.returns-then-meets
unfolding flowed ◌then◌ clash
returns-then-meets c =
    simp (sym c.meets.ensures ∙ c.if-meets.true)

pub returns-then-meets-2 : goal.returns-then-meets-2
unfolding flowed ◌then◌ clash
returns-then-meets-2 c =
    simp (sym c.meets.ensures ∙ c.if-meets.false, sym c.meets-2.ensures ∙ c.if-meets-2.true)

pub returns-then-meets-3 : goal.returns-then-meets-3
unfolding flowed ◌then◌ clash
returns-then-meets-3 c =
    simp (sym c.meets.ensures ∙ c.if-meets.false, sym c.meets-2.ensures ∙ c.if-meets-2.false, sym c.meets-3.ensures ∙ c.if-meets-3.true)

pub returns-then-meets-4 : goal.returns-then-meets-4
unfolding flowed ◌then◌ clash
returns-then-meets-4 c =
    simp (
      sym c.meets.ensures ∙ c.if-meets.false,
      sym c.meets-2.ensures ∙ c.if-meets-2.false,
      sym c.meets-3.ensures
          ∙ c.if-meets-3.false,
      sym c.meets-4.ensures ∙ c.if-meets-4.true,
    )

pub returns : goal.returns
unfolding flowed ◌then◌ clash joined
returns c =
    simp (
      sym c.meets.ensures ∙ c.if-meets.false,
      sym c.meets-2.ensures
          ∙ c.if-meets-2.false,
      sym c.meets-3.ensures ∙ c.if-meets-3.false,
      sym c.meets-4.ensures
          ∙ c.if-meets-4.false,
      c.union.ensures,
      c.difference.ensures,
      c.union-2.ensures,
      c.difference-2.ensures,
      c.union-3.ensures,
      c.union-4.ensures,
    )
