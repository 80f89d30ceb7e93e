-- `flow::instructions::given_owned`: the loop goes along parameters and registers side by side, and gathers those of owned types.
use Prim.Native.Nat.{◌-◌, ◌≤◌}
use Rattle.flow.proofs.Listed.{Gathers, call_owned}
use Rattle.rules.specs.Actions.{emptied}
use Rattle.layout.specs.Records.{body_at, fields, ◌!◌}
use Rattle.program.specs.Places.{version_at}
use Rattle.program.specs.Program.{given}
use Rattle.flow.proofs.instructions.given_owned.Given as goal

abbrev pub invariant-loop-i : goal.invariant-loop-i
invariant-loop-i l = (l.i ≤ l.n) × Gathers (emptied (given (version_at l.image l.c) (fields (body_at l.image l.p) 4 (body_at l.image l.p ! 3)))) l.registers (call_owned l.image l.c l.p l.i)
