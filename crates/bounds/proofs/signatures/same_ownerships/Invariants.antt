-- `bounds::signatures::same_ownerships`: what is left of the test is put to the pairs from i on.
use Rattle.bounds.proofs.Pairs.{ahead}
use Rattle.layout.specs.Records.{◌!◌, body_at}
use Rattle.machine.specs.Calls.{same_ownerships}
use Rattle.program.specs.Places.{version_at}
use Rattle.program.specs.Program.{arguments, parameter_types}
use lib.ListN.{length}
use mathlib.Core.Path.{◌≡◌}
use Rattle.bounds.proofs.signatures.same_ownerships.Given as goal

abbrev pub invariant-loop-i : goal.invariant-loop-i
invariant-loop-i l = (l.n ≡ body_at l.image l.at ! 4) × (l.n ≡ length (parameter_types (version_at l.image l.v))) × (same_ownerships (arguments (body_at l.image l.at) 5 (body_at l.image l.at ! 4)) (parameter_types (version_at l.image l.v)) ≡ ahead (body_at l.image l.at) (parameter_types (version_at l.image l.v)) l.n l.i)
