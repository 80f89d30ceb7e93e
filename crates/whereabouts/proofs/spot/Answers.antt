-- `whereabouts::spot`: by the look-ups of the version, the block and what is next there.
use Rattle.std.specs.Prelude.{Some}
use Rattle.whereabouts.proofs.Shown.{no-version, no_block, spot-outside, spot-end, spot-line}
use mathlib.Core.Path.{ap, ◌∙◌}
use Rattle.whereabouts.proofs.spot.Goals as goal

pub returns-in_err-k : goal.returns-in_err-k
returns-in_err-k c =
    c.from_residual.ensures ∙ no-version _ _ _ _ _ _ (c.version.ensures _) c.in_err-k.was

pub returns-in_err-i : goal.returns-in_err-i
returns-in_err-i c =
    c.from_residual-in_err-i.ensures ∙ no_block _ _ _ _ _ _ (c.version.ensures _) _ c.in_ok-k.was _ c.block.ensures c.in_err-i.was

pub returns-in_err-next : goal.returns-in_err-next
returns-in_err-next c =
    c.from_residual-in_err-next.ensures ∙ spot-outside _ _ _ _ _ _ (c.version.ensures _) _ c.in_ok-k.was _ c.block.ensures _ c.in_ok-i.was _ (c.next.ensures _)
    c.in_err-next.was

pub returns-in-End : goal.returns-in-End
returns-in-End c =
    spot-end _ _ _ _ _ _ (c.version.ensures _) _ c.in_ok-k.was _ c.block.ensures _ c.in_ok-i.was _
    (c.next.ensures _) (c.in_ok-next.was ∙ ap Some c.in-End.is) c.offset-at.ensures

pub returns-in-Line : goal.returns-in-Line
returns-in-Line c =
    spot-line _ _ _ _ _ _ (c.version.ensures _) _ c.in_ok-k.was _ c.block.ensures _ c.in_ok-i.was _
    (c.next.ensures _) (c.in_ok-next.was ∙ ap Some c.in-Line.is) c.offset-at-in-Line.ensures
