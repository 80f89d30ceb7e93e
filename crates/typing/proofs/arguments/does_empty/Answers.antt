-- `typing::arguments::does_empty`: the types that an iterator gives are those of the arguments.
use Rattle.std.proofs.Common.{rules, tests, ◌∙◌, sym}
use Rattle.std.proofs.lemmas.Iterator.Search.{any_from_yields_List}
use Rattle.layout.proofs.Fields.{yields-fields}
use Rattle.rules.specs.Types.{is_owned, ownership_of}
use Rattle.typing.specs.Calls.{arguments_at}
use Rattle.typing.proofs.Pairs.{any-types}
use Rattle.typing.proofs.arguments.does_empty.Goals as goal

pub returns : goal.returns
unfolding arguments_at is_owned ownership_of
returns c =
    any_from_yields_List is_owned c.any.new.self _ c.any.result c.any.ensures.ran (yields-fields c.of.result _ c.of.ensures) (λ x b q k. search (rules, tests)) ∙ any-types _ _ _ _ _ _ _
