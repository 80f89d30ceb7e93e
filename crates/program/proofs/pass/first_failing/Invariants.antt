-- `program::pass::first_failing`: what is left of each question that `asks` puts is put to what is seen from the next record on.
use Rattle.std.specs.Prelude.{◌≡◌, ℕ}
use Rattle.layout.specs.Records.{records}
use Rattle.layout.specs.Left.{left, spots}
use Rattle.program.specs.Program.{program}
use Rattle.program.specs.Search.{Question, first}
use Rattle.program.specs.Places.{Asks}
use Rattle.program.proofs.Passes.{Asking}
use Rattle.program.proofs.pass.first_failing.Given as goal

abbrev pub invariant-loop-record : goal.invariant-loop-record
invariant-loop-record g l =
    (goal.iterator-loop-record g).can_next l.record-iterator
    × (goal.iterator-loop-record g).is_finite l.record-iterator
    × goal.F-IsAlwaysCallable g l.asks
    × ((p : ℕ) × (left l.record-iterator ≡ spots l.image p)
    × ((q : Question) → Asks (goal.F-post g l.asks) q l.image → Asking q (first q (program (records l.image))) l.image p l.here))
