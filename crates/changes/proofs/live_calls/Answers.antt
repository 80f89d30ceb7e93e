-- `changes::live_calls`: by the count of frames.
use Rattle.changes.proofs.Owners.{min-live}
use mathlib.Core.Path.{◌∙◌}
use native.Mathlib.Omega.{arith}
use Rattle.changes.proofs.live_calls.Goals as goal

pub returns : goal.returns
returns c =
    (rw c.byte-n.ensures.0 at c.min.ensures ∙ min-live _, omega (arith, c.min.ensures))
