use mir.Syntax.{w8}
use mir.Val.{Fits}
use native.Mathlib.Omega.{arith}
use Rattle.store.specs.Acts.{Narrow}
use Rattle.store.specs.Answers.{found_of}
use Rattle.machine.specs.States.{a_promise}
use mathlib.Core.Path.{refl}
use borrow.Author.Rules.{rules}
use Rattle.store.proofs.cells.promise_of.Goals as goal

pub returns-in-Empty : goal.returns-in-Empty
unfolding found_of a_promise Narrow
returns-in-Empty c =
    (rw c.in-Empty.is refl, omega arith)

pub returns-in-Integer : goal.returns-in-Integer
unfolding found_of a_promise Narrow
returns-in-Integer c =
    (rw c.in-Integer.is refl, omega arith)

pub returns-in-Vector : goal.returns-in-Vector
unfolding found_of a_promise Narrow
returns-in-Vector c =
    (rw c.in-Vector.is refl, omega arith)

pub returns-in-Promise : goal.returns-in-Promise
unfolding found_of a_promise Narrow
returns-in-Promise c =
    let f : Fits w8 c.in-Promise.p = search rules in
    (rw c.in-Promise.is refl, omega arith)
