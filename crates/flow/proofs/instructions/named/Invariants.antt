-- `flow::instructions::named`: the loop goes along the fields: those it passed are gathered, those ahead are left.
use Rattle.flow.proofs.Listed.{Gathers}
use Rattle.layout.specs.Records.{body_at, every}
use Rattle.layout.proofs.Fields.{left_of}
use Rattle.flow.proofs.instructions.named.Given as goal

abbrev pub invariant-loop-r : goal.invariant-loop-r
invariant-loop-r l =
    goal.iterator-loop-r.can_next l.r-iterator
    × goal.iterator-loop-r.is_finite l.r-iterator
    × Gathers (every (body_at l.image l.p) l.from l.step l.n) l.registers (left_of l.r-iterator)
