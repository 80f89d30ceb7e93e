use Rattle.std.proofs.Common.{◌≡◌, Option, ℕ, ◌<◌, length}
use Rattle.layout.specs.Left.{left, spots}
use Rattle.layout.specs.Records.{Rec, records, rest}
use Rattle.layout.specs.Scan.{Turns, along}
use Rattle.layout.proofs.records.along.Given as goal

abbrev pub invariant-loop-record : goal.invariant-loop-record
invariant-loop-record g l =
    (goal.iterator-loop-record g).can_next l.record-iterator
    × (goal.iterator-loop-record g).is_finite l.record-iterator
    × goal.F-IsAlwaysCallable g l.turn
    × ((q : ℕ) × (left l.record-iterator ≡ spots l.image q)
    × ((t : g.row.S.Denot → Rec → Option g.row.S.Denot) → Turns (goal.F-post g l.turn) t l.image → along t l.fn.start (records l.image) ≡ along t l.state (rest l.image q)))
