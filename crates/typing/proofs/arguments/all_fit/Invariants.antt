-- `typing::arguments::all_fit`: the loop goes along the arguments, and what is left of the test is put to those from the fields k and l on.
use Prim.Native.Nat.{◌+◌, ◌*◌, ◌-◌, ◌≤◌}
use Rattle.layout.specs.Records.{body_at}
use Rattle.layout.specs.Tests.{all}
use Rattle.program.specs.Places.{version_at}
use Rattle.typing.specs.Calls.{pairs, arguments_at}
use Rattle.rules.specs.Fits.{fits_argument}
use mathlib.Core.Path.{◌≡◌}
use Rattle.typing.proofs.arguments.all_fit.Given as goal

abbrev pub invariant-loop-i : goal.invariant-loop-i
invariant-loop-i l = (l.i ≤ l.n) × (l.k ≤ 256 * (l.i + 1)) × (l.l ≤ 256 * (l.i + 1)) × (all (fits_argument (version_at l.image l.v) (arguments_at l.image l.p l.call)) (arguments_at l.image l.p l.call) ≡ all (fits_argument (version_at l.image l.v) (arguments_at l.image l.p l.call)) (pairs (body_at l.image l.call.place) l.k (body_at l.image l.p) l.l l.step (l.n - l.i)))
