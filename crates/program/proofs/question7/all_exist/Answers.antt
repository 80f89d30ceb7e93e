-- `program::question7::all_exist`: the fields that an iterator gives are those of the question.
use Rattle.std.proofs.Common.{rules, tests, ◌∙◌, sym, ap}
use Rattle.std.specs.Prelude.{ltb}
use Rattle.std.proofs.lemmas.Iterator.Search.{all_from_yields_List}
use Rattle.layout.specs.Records.{body_at}
use Rattle.layout.proofs.Fields.{yields-fields, all-same}
use Rattle.program.proofs.question7.all_exist.Goals as goal

pub returns : goal.returns
returns c =
    all_from_yields_List (λ x. ltb x c.args.registers) c.all.new.self _ c.all.result c.all.ensures.ran (yields-fields c.of.result _ c.of.ensures) (λ x b q k. search (rules, tests)) ∙ all-same _ _
