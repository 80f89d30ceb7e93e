use Rattle.std.specs.Prelude.{Some}
use mathlib.Core.Path.{sym, ap, ◌∙◌}
use native.Mathlib.Omega.{arith}
use Rattle.begin.proofs.Filling.{going-none, going-nothing, going-integer, going-vector, going_end}
use borrow.Author.Rules.{rules}
use Rattle.begin.proofs.fits.Goals.{in-Integer, in-Vector}
use Rattle.begin.proofs.fits.Goals as goal

pub loop-i-init : goal.loop-i-init
loop-i-init c =
    (omega arith, omega arith, going-none _ _ c.parameters-n.ensures.0)

pub returns-in_default : goal.returns-in_default
returns-in_default c =
    going-nothing c.loop-i.invariant.2 c.loop-i-test.true c.type_of-t.ensures (sym c.matching.ensures ∙ c.in_default.is)

pub overflow_add-p : goal.overflow_add-p
overflow_add-p c =
    let t = going-integer c.loop-i.invariant.2 c.loop-i-test.true c.type_of-t.ensures (sym c.matching.ensures ∙ c.in-Some.is ∙ ap Some c.in-Integer.is) in search (rules, t.0)

pub overflow_add-p-in-Vector : goal.overflow_add-p-in-Vector
overflow_add-p-in-Vector c =
    let t = going-vector c.loop-i.invariant.2 c.loop-i-test.true c.type_of-t.ensures (sym c.matching.ensures ∙ c.in-Some.is ∙ ap Some c.in-Vector.is) in search (rules, t.0)

pub overflow_add-p-in-Vector-2 : goal.overflow_add-p-in-Vector-2
overflow_add-p-in-Vector-2 c =
    let t = going-vector c.loop-i.invariant.2 c.loop-i-test.true c.type_of-t.ensures (sym c.matching.ensures ∙ c.in-Some.is ∙ ap Some c.in-Vector.is) in search (rules, t.1)

pub loop-i-preserved : goal.loop-i-preserved
loop-i-preserved c =
    elim c.match-argument.branch [
      | in-Integer w ↦
          let t = going-integer c.loop-i.invariant.2 c.loop-i-test.true c.type_of-t.ensures (sym c.matching.ensures ∙ c.in-Some.is ∙ ap Some w.in-Integer.is) in
          rw w.p-is (t.0, omega arith, t.1)
      | in-Vector w ↦
          let t = going-vector c.loop-i.invariant.2 c.loop-i-test.true c.type_of-t.ensures (sym c.matching.ensures ∙ c.in-Some.is ∙ ap Some w.in-Vector.is) in
          rw w.p-is (omega (arith, t.1), omega arith, t.2)
    ]

pub returns : goal.returns
returns c =
    going_end c.loop-i.invariant.2 c.loop-i-test.false
