-- `typing::arguments::occurrences`: the registers that an iterator gives are those of the arguments.
use Rattle.std.proofs.Common.{rules, tests, ◌∙◌, ap, inl, arith, length}
use Rattle.std.specs.Prelude.{eqb}
use Rattle.std.proofs.lemmas.Iterator.Consumers.{YieldsList-at, YieldsList-from_filter, count_from_yields_List}
use Rattle.layout.proofs.Fields.{yields-fields, left_of, length-every}
use Rattle.typing.specs.Calls.{arguments_at}
use Rattle.typing.proofs.Pairs.{count-registers}
use Rattle.typing.proofs.arguments.occurrences.Goals as goal

pub count-requires-clause-fits : goal.count-requires-clause-fits
count-requires-clause-fits c =
    let e = ap length (ap left_of c.filter.ensures.source ∙ c.of.ensures) ∙ length-every _ _ _ _ in
    inl (omega (arith, e, c.requires.n))

pub returns : goal.returns
unfolding arguments_at
returns c =
    count_from_yields_List c.filter.result _ c.count.ensures.ran
    (YieldsList-from_filter _ (λ x. eqb x c.args.r) (YieldsList-at c.filter.ensures.source (yields-fields c.of.result _ c.of.ensures)) c.filter.ensures.closure (λ x b q k. search (rules, tests)))
    ∙ count-registers _ _ _ _ _ _ _
