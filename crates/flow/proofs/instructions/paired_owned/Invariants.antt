-- `flow::instructions::paired_owned`: the loop goes along the pairs, and gathers those of owned types.
use Prim.Native.Nat.{◌-◌, ◌≤◌}
use Rattle.flow.proofs.Listed.{Gathers, pair_owned}
use Rattle.rules.specs.Actions.{emptied}
use Rattle.layout.specs.Records.{body_at, ◌!◌}
use Rattle.program.specs.Program.{arguments}
use Rattle.flow.proofs.instructions.paired_owned.Given as goal

abbrev pub invariant-loop-i : goal.invariant-loop-i
invariant-loop-i l = (l.i ≤ l.n) × Gathers (emptied (arguments (body_at l.image l.p) 5 (body_at l.image l.p ! 4))) l.registers (pair_owned l.image l.p l.i)
