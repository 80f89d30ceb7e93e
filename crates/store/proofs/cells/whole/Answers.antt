use mir.Syntax.{w64}
use mir.Facts.{to_z-of_z}
use mathlib.Core.Path.{refl, ap}
use Rattle.machine.specs.Try.{got}
use Rattle.machine.specs.States.{an_integer}
use Rattle.store.specs.Answers.{whole_of}
use borrow.Author.Rules.{rules}
use Rattle.store.proofs.cells.whole.Goals as goal

pub returns-in-Empty : goal.returns-in-Empty
unfolding whole_of an_integer
returns-in-Empty c =
    rw c.in-Empty.is refl

pub returns-in-Integer : goal.returns-in-Integer
unfolding whole_of an_integer
returns-in-Integer c =
    rw c.in-Integer.is (ap got (to_z-of_z {w = w64} (search rules)))

pub returns-in-Vector : goal.returns-in-Vector
unfolding whole_of an_integer
returns-in-Vector c =
    rw c.in-Vector.is refl

pub returns-in-Promise : goal.returns-in-Promise
unfolding whole_of an_integer
returns-in-Promise c =
    rw c.in-Promise.is refl
