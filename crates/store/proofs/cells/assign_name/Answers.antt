use Rattle.store.proofs.Frames.{name_in, name_out}
use Rattle.store.specs.Acts.{Does}
use Rattle.machine.specs.Try.{◌>>=◌}
use Rattle.machine.specs.States.{name, is_set}
use Rattle.store.specs.Answers.{end_of}
use mathlib.Core.Path.{refl, sym, ◌∙◌}
use mir.Facts.{to_z-of_z}
use mir.Syntax.{w64}
use mir.Val.{SFits}
use borrow.Author.Rules.{rules}
use Rattle.store.proofs.cells.assign_name.Goals as goal

pub returns-then-e-ge8 : goal.returns-then-e-ge8
unfolding Does name ◌>>=◌
returns-then-e-ge8 c =
    ((rw (name_out _ _ _ _ c.if-e-ge8.true) refl, refl, refl), c.requires.0)

pub returns-in-Empty : goal.returns-in-Empty
unfolding Does name is_set ◌>>=◌ end_of
returns-in-Empty c = (
  (
    rw (
      name_in c.args.bytes.now c.args.numbers.now _ _
          c.if-e-ge8.false,
      sym c.cell.ensures.0 ∙ c.in-Empty.is,
    ) refl,
    refl,
    refl,
  ),
  c.requires.0,
)

pub returns-in-Integer : goal.returns-in-Integer
unfolding name is_set ◌>>=◌
returns-in-Integer c =
    let s : SFits w64 c.in-Integer.z = search rules in
    let g = rw (to_z-of_z s) at c.assign_integer.ensures in
    let e = sym c.cell.ensures.0 ∙ c.in-Integer.is in (
      rw (
        name_in c.args.bytes.now
            c.args.numbers.now _ _
            c.if-e-ge8.false,
        e,
      ) g.0,
      g.1,
    )

pub returns-in-Vector : goal.returns-in-Vector
unfolding name is_set ◌>>=◌
returns-in-Vector c =
    let e = sym c.cell.ensures.0 ∙ c.in-Vector.is in (
      rw (
        name_in c.args.bytes.now
            c.args.numbers.now _ _
            c.if-e-ge8.false,
        e,
      ) (rw e at c.assign_cell.ensures.0),
      c.assign_cell.ensures.1,
    )

pub returns-in-Promise : goal.returns-in-Promise
unfolding Does name is_set ◌>>=◌
returns-in-Promise c = (
  (
    rw (
      name_in c.args.bytes.now c.args.numbers.now _ _
          c.if-e-ge8.false,
      sym c.cell.ensures.0 ∙ c.in-Promise.is,
    ) refl,
    refl,
    refl,
  ),
  c.requires.0,
)
