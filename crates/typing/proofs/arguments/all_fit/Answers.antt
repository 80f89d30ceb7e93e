use Rattle.typing.proofs.Pairs.{all-passed, all-failed, all_done}
use Rattle.typing.specs.Calls.{arguments_at}
use mathlib.Core.Path.{sym, ◌∙◌}
use native.Mathlib.Nat.{sub-zero}
use native.Mathlib.Omega.{arith}
use Rattle.typing.proofs.arguments.all_fit.Goals as goal

pub loop-i-init : goal.loop-i-init
unfolding arguments_at
loop-i-init c =
    (omega arith, omega (arith, c.requires.types), omega (arith, c.requires.registers), simp sub-zero)

pub argument_fits-requires : goal.argument_fits-requires
argument_fits-requires c =
    c.requires

pub overflow_add-k : goal.overflow_add-k
overflow_add-k c =
    omega (
      arith,
      c.requires.n,
      c.requires.step,
      c.requires.registers,
      c.requires.types,
      c.loop-i-test.true,
      c.loop-i.invariant.0,
      c.loop-i.invariant.1,
      c.loop-i.invariant.2,
    )

pub overflow_add-l : goal.overflow_add-l
overflow_add-l c =
    omega (
      arith,
      c.requires.n,
      c.requires.step,
      c.requires.registers,
      c.requires.types,
      c.loop-i-test.true,
      c.loop-i.invariant.0,
      c.loop-i.invariant.1,
      c.loop-i.invariant.2,
    )

pub loop-i-preserved : goal.loop-i-preserved
loop-i-preserved c = (
  omega (
    arith,
    c.requires.n,
    c.requires.step,
    c.requires.registers,
    c.requires.types,
    c.loop-i-test.true,
    c.loop-i.invariant.0,
    c.loop-i.invariant.1,
    c.loop-i.invariant.2,
  ),
  omega (
    arith,
    c.requires.n,
    c.requires.step,
    c.requires.registers,
    c.requires.types,
    c.loop-i-test.true,
    c.loop-i.invariant.0,
    c.loop-i.invariant.1,
    c.loop-i.invariant.2,
  ),
  omega (
    arith,
    c.requires.n,
    c.requires.step,
    c.requires.registers,
    c.requires.types,
    c.loop-i-test.true,
    c.loop-i.invariant.0,
    c.loop-i.invariant.1,
    c.loop-i.invariant.2,
  ),
  c.loop-i.invariant.3 ∙ all-passed _ _ _ _ _ _ _ _ c.loop-i-test.true (sym c.argument_fits.ensures ∙ c.if-not-argument_fits.false),
)

pub returns-then-not-argument_fits : goal.returns-then-not-argument_fits
returns-then-not-argument_fits c =
    sym (c.loop-i.invariant.3 ∙ all-failed _ _ _ _ _ _ _ _ c.loop-i-test.true (sym c.argument_fits.ensures ∙ c.if-not-argument_fits.true))

pub returns : goal.returns
returns c =
    sym (c.loop-i.invariant.3 ∙ all_done _ _ _ _ _ _ _ _ c.loop-i-test.false)
