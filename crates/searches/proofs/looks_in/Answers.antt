use Rattle.std.specs.Prelude.{Some}
use mathlib.Core.Path.{ap, ◌∙◌}
use Rattle.searches.proofs.Observed.{in-nothing, in-no-block, in-line, in_end, in-outside}
use Rattle.searches.proofs.looks_in.Goals as goal

pub returns-in_default : goal.returns-in_default
returns-in_default c =
    in-nothing _ _ _ _ _ _ c.version.ensures c.in_default.is

pub returns-in_default-block : goal.returns-in_default-block
returns-in_default-block c =
    in-no-block _ _ _ _ _ _ c.version.ensures c.in-Some.is _ c.block.ensures c.in_default-block.is

pub returns-in-Line : goal.returns-in-Line
returns-in-Line c =
    in-line _ _ _ _ _ _ c.version.ensures c.in-Some.is _ c.block.ensures
    c.in-Some-block.is _ c.next.ensures (c.in-Some-next.is ∙ ap Some c.in-Line.is) _ c.looks_at.ensures

pub returns-in-End : goal.returns-in-End
returns-in-End c =
    in_end _ _ _ _ _ _ c.version.ensures c.in-Some.is _ c.block.ensures c.in-Some-block.is _ c.next.ensures
    (c.in-Some-next.is ∙ ap Some c.in-End.is)

pub returns-in_default-next : goal.returns-in_default-next
returns-in_default-next c =
    in-outside _ _ _ _ _ _ c.version.ensures c.in-Some.is _ c.block.ensures c.in-Some-block.is _ c.next.ensures
    c.in_default-next.is
