use mir.Syntax.{w64}
use mir.Val.{SFits}
use mir.Facts.{to_z-of_z}
use Rattle.turning.proofs.Looking.{lit-as}
use borrow.Author.Rules.{rules}
use Rattle.turning.proofs.lits.Goals as goal

pub returns : goal.returns
returns c =
    let x : SFits w64 c.literal-i.result = search rules in
    let g = rw (to_z-of_z x) at c.lit.ensures in
    lit-as _ _ _ _ _ _ _ c.byte-d.ensures c.literal-i.ensures g
