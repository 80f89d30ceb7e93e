use Rattle.acts.proofs.Answers.{stays, by, whole_is, whole-stuck}
use Rattle.machine.specs.Steps.{execute_to}
use Rattle.machine.specs.Try.{◌>>=◌}
use mathlib.Core.Path.{refl}
use mir.Val.{SFits}
use mir.Syntax.{w64}
use mir.Facts.{to_z-of_z}
use borrow.Author.Rules.{rules}
use Rattle.acts.proofs.select.Goals as goal

pub returns-in_default : goal.returns-in_default
unfolding execute_to ◌>>=◌
returns-in_default c =
    (λ P W. stays _ _ (rw (whole-stuck c.integer.ensures c.in_default.is) refl), c.requires.0)

pub returns-in_default-integer : goal.returns-in_default-integer
unfolding execute_to ◌>>=◌
returns-in_default-integer c = (
  λ P W. stays _ _ (rw (
    whole_is c.integer.ensures
        c.in-Some.is,
    whole-stuck c.integer-2.ensures c.in_default-integer.is,
  ) refl),
  c.requires.0,
)

pub returns-in_default-integer-2 : goal.returns-in_default-integer-2
unfolding execute_to ◌>>=◌
returns-in_default-integer-2 c = (
  λ P W. stays _ _ (rw (
    whole_is c.integer.ensures
        c.in-Some.is,
    whole_is
        c.integer-2.ensures c.in-Some-integer.is,
    whole-stuck
        c.integer-3.ensures c.in_default-integer-2.is,
  ) refl),
  c.requires.0,
)

pub assign_integer-requires : goal.assign_integer-requires
assign_integer-requires c =
    c.requires

pub returns : goal.returns
unfolding execute_to ◌>>=◌
returns c =
    let sz : SFits w64
    c.in-Some.z = search rules in
    let sx : SFits w64 c.in-Some-integer.x = search rules in
    let sy : SFits w64 c.in-Some-integer-2.y = search rules in
    let ss : SFits w64 c.select.result = search rules in
    let e = rw (to_z-of_z sz, to_z-of_z sx, to_z-of_z sy) at c.select.ensures in
    let g = rw (to_z-of_z ss, e) at c.assign_integer.ensures in (
      λ P W. by _ _ _ _ _
          (rw (
            whole_is
                c.integer.ensures
                c.in-Some.is,
            whole_is
                c.integer-2.ensures
                c.in-Some-integer.is,
            whole_is
                c.integer-3.ensures c.in-Some-integer-2.is,
          ) refl) g.0,
      g.1,
    )
