use mir.Val.{Fits}
use mir.Syntax.{w16}
use mathlib.Core.List.{[]}
use Rattle.turning.proofs.Locating.{lost-by, lost-version, lost-block, stands-there, numbered}
use borrow.Author.Rules.{rules}
use Rattle.turning.proofs.framed.Goals as goal

pub returns-in_default : goal.returns-in_default
returns-in_default c =
    lost-by _ _ _ _ _ c.nowhere.ensures (lost-version _ _ _ _ _ _ c.requires
    (c.version.ensures _) c.in_default.is)

pub returns-in_default-block : goal.returns-in_default-block
returns-in_default-block c =
    lost-by _ _ _ _ _ c.nowhere-in_default-block.ensures (lost-block _ _ _ _ _ _ c.requires
    (c.version.ensures _) _ c.in-Some.is
    c.block.ensures c.in_default-block.is)

pub returns : goal.returns
returns c =
    let q = numbered [] _ _ _ _ (c.version.ensures [])
    c.in-Some.is in
    let f : Fits w16 c.in-Some-block.i = search rules in
    stands-there _ _ _ _ _ _ c.requires
    (c.version.ensures _) _ c.in-Some.is
    c.block.ensures _ c.in-Some-block.is q.0 q.1 c.wide.ensures.0 c.lines-n.ensures.0
    f.fits c.wide.ensures.1
