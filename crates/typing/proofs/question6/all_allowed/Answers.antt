-- `typing::question6::all_allowed`: the fields that an iterator gives are those of the question.
use Rattle.std.proofs.Common.{rules, tests, ◌∙◌, ap, arith, length, inl}
use Rattle.std.proofs.lemmas.Iterator.Search.{all_from_yields_List}
use Rattle.std.proofs.lemmas.Iterator.Consumers.{YieldsList-at, YieldsList-from_enumerate}
use Rattle.rules.specs.Questions.{type_allowed}
use Rattle.layout.proofs.Fields.{yields-fields, all_from-same, left_of, length-every}
use Rattle.typing.proofs.question6.all_allowed.Goals as goal

pub all-requires-clause-can : goal.all-requires-clause-can
all-requires-clause-can c =
    let e = ap length (ap left_of c.enumerate.ensures.source ∙ c.of.ensures) ∙ length-every _ _ _ _ in
    (tt, tt, inl (omega (arith, c.enumerate.ensures.count, e, c.requires)))

pub returns : goal.returns
returns c =
    all_from_yields_List (λ p. type_allowed c.args.parameters p.0 p.1) c.all.new.self _ c.all.result c.all.ensures.ran
    (YieldsList-from_enumerate (YieldsList-at c.enumerate.ensures.source (yields-fields c.of.result _ c.of.ensures)) c.enumerate.ensures.count) (λ x b q k. search (rules, tests))
    ∙ all_from-same _ 0 _
