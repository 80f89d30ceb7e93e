-- `begin::is_of`: by the argument's kind.
use mathlib.Core.Path.{ap, sym, ◌∙◌}
use Rattle.rules.specs.Types.{kind_of, within}
use Rattle.begin.specs.Arguments.{kind}
use Rattle.begin.proofs.is_of.Goals as goal

pub returns-in-Integer : goal.returns-in-Integer
unfolding kind kind_of
returns-in-Integer c =
    c.is_within.ensures ∙ ap (λ a. within (kind a) (kind_of c.args.t)) (sym c.in-Integer.is)

pub returns-in-Vector : goal.returns-in-Vector
unfolding kind kind_of
returns-in-Vector c =
    c.is_within-in-Vector.ensures ∙ ap (λ a. within (kind a) (kind_of c.args.t)) (sym c.in-Vector.is)
