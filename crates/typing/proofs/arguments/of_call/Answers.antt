-- `typing::arguments::of_call`: as many arguments as there are parameters, registers and operands.
use Rattle.typing.specs.Calls.{call_of}
use lib.Dec.{lit<}
use native.Mathlib.Omega.{arith}
use Rattle.typing.proofs.arguments.of_call.Goals as goal

pub returns : goal.returns
unfolding call_of
returns c =
    (simp (c.lesser-2.ensures.0, c.lesser.ensures.0, c.field-parameters.ensures.0, c.field-registers.ensures.0, c.field.ensures.0), record { types = lit< tt; registers = lit< tt; step = lit< tt; n = omega (arith, c.lesser-2.ensures.1, c.field-parameters.ensures.1) })
