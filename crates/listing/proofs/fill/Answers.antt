use Rattle.listing.proofs.Gathering.{fill-begun, fill_done, fill_one}
use mathlib.Core.Path.{◌∙◌}
use mir.Facts.{to_z-of_z}
use borrow.Author.Rules.{rules}
use mir.Syntax.{w64}
use Rattle.listing.proofs.fill.Goals as goal

pub loop-j-init : goal.loop-j-init
loop-j-init c =
    fill-begun _ _ _ _ c.requires.0 c.requires.1 c.requires.2 c.requires.4.numbers

pub loop-j-preserved : goal.loop-j-preserved
loop-j-preserved c =
    fill_one _ _ _ _ c.requires.0 c.requires.1 c.requires.2 _ _
    c.loop-j.invariant c.loop-j-test.true (to_z-of_z {w = w64} (search rules) ∙ c.pick.ensures)

pub overflow_cast-bytes : goal.overflow_cast-bytes
overflow_cast-bytes c =
    let q = c.requires.3 in search rules

pub returns : goal.returns
returns c =
    fill_done _ _ _ _ c.requires.0 c.requires.1 c.requires.2 _ _ c.loop-j.invariant _ _
    c.loop-j-test.false c.requires.4
