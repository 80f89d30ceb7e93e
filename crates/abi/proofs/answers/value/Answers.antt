-- `abi::answers::value`: by the value.
use Rattle.abi.specs.Looks.{value_numbers}
use mir.Facts.{to_z-of_z}
use mir.Syntax.{w64}
use mir.Val.{SFits}
use borrow.Author.Rules.{rules}
use Rattle.abi.proofs.answers.value.Goals as goal

pub returns-in-Empty : goal.returns-in-Empty
unfolding value_numbers
returns-in-Empty c =
    rw c.in-Empty.is

pub returns-in-Integer : goal.returns-in-Integer
unfolding value_numbers
returns-in-Integer c =
    let s : SFits w64 c.in-Integer.z = search rules in
    rw (to_z-of_z s, c.in-Integer.is)

pub returns-in-Vector : goal.returns-in-Vector
unfolding value_numbers
returns-in-Vector c =
    rw c.in-Vector.is

pub returns-in-Promise : goal.returns-in-Promise
unfolding value_numbers
returns-in-Promise c =
    rw c.in-Promise.is
