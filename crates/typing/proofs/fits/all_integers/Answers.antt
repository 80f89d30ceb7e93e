-- `typing::fits::all_integers`: the fields that an iterator gives are those of the question.
use Rattle.std.proofs.Common.{rules, tests, ◌∙◌}
use Rattle.std.proofs.lemmas.Iterator.Search.{all_from_yields_List}
use Rattle.program.specs.Places.{version_at}
use Rattle.rules.specs.Types.{is_integer, kind_of}
use Rattle.rules.specs.Fits.{integer}
use Rattle.layout.proofs.Fields.{yields-fields, all-same}
use Rattle.typing.proofs.fits.all_integers.Goals as goal

pub returns : goal.returns
unfolding is_integer kind_of
returns c =
    all_from_yields_List (integer (version_at c.args.image.now c.args.v)) c.all.new.self _ c.all.result c.all.ensures.ran (yields-fields c.of.result _ c.of.ensures) (λ x b q k. search (rules, tests)) ∙ all-same _ _
