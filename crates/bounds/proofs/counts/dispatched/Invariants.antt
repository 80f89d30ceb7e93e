-- `bounds::counts::dispatched`: what is left of the greatest is put to the versions from w on.
use Rattle.bounds.specs.Bounds.{allows, fitting}
use Rattle.bounds.specs.Counts.{kept, most}
use Rattle.bounds.proofs.Ahead.{from}
use Rattle.layout.specs.Records.{◌!◌, body_at}
use Rattle.machine.specs.Begin.{program_of}
use Rattle.program.specs.Places.{version_at}
use Rattle.program.specs.Program.{arguments}
use mathlib.Core.Path.{◌≡◌}
use Rattle.bounds.proofs.counts.dispatched.Given as goal

abbrev pub invariant-loop-w : goal.invariant-loop-w
invariant-loop-w l = (l.f ≡ body_at l.tabled.image.now l.at ! 1)
    × (most (kept l.known) 1 (fitting (program_of l.tabled.image.now) (body_at l.tabled.image.now l.at ! 1) (allows (version_at l.tabled.image.now l.own).level (body_at l.tabled.image.now l.at ! 2) (body_at l.tabled.image.now l.at ! 3) (arguments (body_at l.tabled.image.now l.at) 5 (body_at l.tabled.image.now l.at ! 4))) 4 0)
    ≡ from (program_of l.tabled.image.now) l.known l.f (allows (version_at l.tabled.image.now l.own).level (body_at l.tabled.image.now l.at ! 2) (body_at l.tabled.image.now l.at ! 3) (arguments (body_at l.tabled.image.now l.at) 5 (body_at l.tabled.image.now l.at ! 4))) l.greatest l.w l.greatest l.w)
