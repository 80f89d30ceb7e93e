-- Each round holds a byte more or counts a failure, and both have an end. What is held behind the first n places is what the reader gave.
use Rattle.std.proofs.Common.{length, ◌-◌, ◌≤◌, ◌≡◌, ◌+◌, take, drop}
use Rattle.std.specs.Io.KnownBytes.{Consumes}
use Rattle.fir_check.proofs.read_to_end.Given as goal

abbrev pub invariant-loop-held : goal.invariant-loop-held
invariant-loop-held g l = (length l.image ≡ length l.initial.image) × (l.held ≤ length l.image) × (l.failures ≤ 1000) × (l.n ≤ l.held)
    × (take l.n l.image ≡ take l.n l.initial.image) × Consumes (g.R.Read.remaining l.initial.input) (g.R.Read.remaining l.input) (drop l.n (take l.held l.image))

abbrev pub decreases-loop-held : goal.decreases-loop-held
decreases-loop-held g l = (length l.image - l.held) + (1000 - l.failures)
