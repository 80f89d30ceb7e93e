use mathlib.Core.Path.{sym, ◌∙◌}
use mir.Facts.{to_z-of_z}
use mir.Syntax.{w64}
use mir.Val.{SFits}
use Rattle.ending.proofs.Runs.{empty-stays, integer-done, outside-stays, promise-stays, vector-done}
use borrow.Author.Rules.{rules}
use Rattle.ending.proofs.end_run.Goals as goal

pub returns-then-v-ge64 : goal.returns-then-v-ge64
returns-then-v-ge64 c =
    outside-stays _ _ (sym c.cell.ensures.0 ∙ c.in-Vector.is) c.wide-v.ensures.0 c.if-v-ge64.true

pub end_vector-requires : goal.end_vector-requires
end_vector-requires c =
    (c.if-v-ge64.false, c.requires.2)

pub returns-in-Empty : goal.returns-in-Empty
returns-in-Empty c =
    empty-stays _ _ (sym c.cell.ensures.0 ∙ c.in-Empty.is)

pub returns-in-Integer : goal.returns-in-Integer
returns-in-Integer c =
    let s : SFits w64 c.in-Integer.z = search rules in
    let g = rw (to_z-of_z s) at c.end_integer.ensures in
    integer-done _ _ _ _ g.1 (sym c.cell.ensures.0 ∙ c.in-Integer.is) g.0

pub returns-else-v-ge64 : goal.returns-else-v-ge64
returns-else-v-ge64 c =
    vector-done _ _ _ _ c.end_vector.ensures.1 (sym c.cell.ensures.0 ∙
    c.in-Vector.is) c.wide-v.ensures.0 c.if-v-ge64.false
    c.end_vector.ensures.0

pub returns-in-Promise : goal.returns-in-Promise
returns-in-Promise c =
    promise-stays _ _ (sym c.cell.ensures.0 ∙ c.in-Promise.is)
