-- `watches::row`: a register of the topmost call, or none.
use mathlib.Core.Path.{◌∙◌}
use native.Mathlib.Omega.{arith}
use Rattle.watches.proofs.Records.{frame-inside, none-shown, past-shown, register-shown}
use Rattle.watches.proofs.row.Goals as goal

pub returns-in_default : goal.returns-in_default
returns-in_default c =
    c.plain.ensures ∙ none-shown _ _ _ _ c.topmost.ensures _ c.in_default.is

pub returns-then-n-r : goal.returns-then-n-r
returns-then-n-r c =
    c.plain-then-n-r.ensures ∙ past-shown _ _ _ _ c.topmost.ensures _ c.in-Some.is c.registers.ensures (c.wide-n.ensures.0 ∙ c.most.ensures.0) c.if-n-r.true

pub overflow_cast-r : goal.overflow_cast-r
overflow_cast-r c =
    omega (arith, c.if-n-r.false, c.wide-n.ensures.1)

pub cell-value-requires : goal.cell-value-requires
cell-value-requires c = (
  frame-inside c.args.image.now _ _ c.args.numbers.now c.topmost.ensures
      c.args.r c.in-Some.is,
  omega (arith, c.if-n-r.false, c.wide-n.ensures.0, c.most.ensures.1),
)

pub returns : goal.returns
returns c =
    register-shown _ _ _ _ c.topmost.ensures _ c.in-Some.is c.registers.ensures
    (c.wide-n.ensures.0 ∙ c.most.ensures.0) c.if-n-r.false c.type_of-declared.ensures c.cell-value.ensures.0 c.shown.ensures
