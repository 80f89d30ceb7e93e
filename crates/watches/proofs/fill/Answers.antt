-- `fills` says how many records are written, whatever the numbers of the state are.
use Rattle.std.proofs.Common.{List, ◌≡◌, arith, refl, ap, ◌∙◌}
use Rattle.std.proofs.Math.ListN.{set}
use Rattle.machine.specs.States.{over}
use Rattle.machine.specs.declared.Row.{Row}
use Rattle.watches.proofs.Filling.{next-written, all-written}
use Rattle.watches.proofs.fill.Goals as goal

pub loop-i-init : goal.loop-i-init
unfolding over
loop-i-init c = (refl, omega arith)

pub loop-i-preserved : goal.loop-i-preserved
loop-i-preserved c = (
  ap (λ (rows : List Row). set rows c.loop-i.i c.row.result) c.loop-i.invariant.0
      ∙ next-written _ _ _ _ _ c.loop-i-test.true (c.fills-k.ensures.0 c.args.numbers.now) c.row.ensures,
  omega arith,
)

pub returns : goal.returns
returns c =
    let e = c.fills-k.ensures.0 c.args.numbers.now in
    let last : c.loop-i.i ≡ c.fills-k.result = omega arith in
    (e, c.loop-i.invariant.0 ∙ all-written _ _ _ _ _ last e)
