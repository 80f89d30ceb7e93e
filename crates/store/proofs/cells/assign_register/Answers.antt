use Rattle.store.proofs.Frames.{register-in, register-out}
use Rattle.store.specs.Acts.{Does}
use Rattle.machine.specs.Try.{◌>>=◌}
use Rattle.machine.specs.States.{value, full}
use mathlib.Core.Path.{refl, sym, ◌∙◌}
use mir.Facts.{to_z-of_z}
use mir.Syntax.{w64}
use mir.Val.{SFits}
use borrow.Author.Rules.{rules}
use Rattle.store.proofs.cells.assign_register.Goals as goal

pub returns-then-e-ge16 : goal.returns-then-e-ge16
unfolding Does value ◌>>=◌
returns-then-e-ge16 c =
    ((rw (register-out _ _ _ _ c.if-e-ge16.true) refl, refl, refl), c.requires.0)

pub returns-in-Empty : goal.returns-in-Empty
unfolding Does value full ◌>>=◌
returns-in-Empty c = (
  (
    rw (
      register-in c.args.bytes.now c.args.numbers.now _ _
          c.if-e-ge16.false,
      sym c.cell.ensures.0 ∙ c.in-Empty.is,
    ) refl,
    refl,
    refl,
  ),
  c.requires.0,
)

pub returns-in-Integer : goal.returns-in-Integer
unfolding value full ◌>>=◌
returns-in-Integer c =
    let s : SFits w64 c.in-Integer.z = search rules in
    let g = rw (to_z-of_z s) at c.assign_integer.ensures in
    let e = sym c.cell.ensures.0 ∙ c.in-Integer.is in (
      rw (
        register-in c.args.bytes.now
            c.args.numbers.now _ _
            c.if-e-ge16.false,
        e,
      ) g.0,
      g.1,
    )

pub returns-in-Vector : goal.returns-in-Vector
unfolding value full ◌>>=◌
returns-in-Vector c =
    let e = sym c.cell.ensures.0 ∙ c.in-Vector.is in (
      rw (
        register-in c.args.bytes.now
            c.args.numbers.now _ _
            c.if-e-ge16.false,
        e,
      ) (rw e at c.assign_cell.ensures.0),
      c.assign_cell.ensures.1,
    )

pub returns-in-Promise : goal.returns-in-Promise
unfolding value full ◌>>=◌
returns-in-Promise c =
    let e = sym c.cell.ensures.0 ∙ c.in-Promise.is in (
      rw (
        register-in c.args.bytes.now
            c.args.numbers.now _ _
            c.if-e-ge16.false,
        e,
      ) (rw e at c.assign_cell-in-Promise.ensures.0),
      c.assign_cell-in-Promise.ensures.1,
    )
