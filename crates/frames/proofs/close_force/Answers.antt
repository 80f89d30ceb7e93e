use Rattle.frames.proofs.Closing.{force-closed-by, force-some}
use native.Mathlib.Omega.{arith}
use Rattle.frames.proofs.close_force.Goals as goal

pub overflow_sub-bytes : goal.overflow_sub-bytes
overflow_sub-bytes c =
    omega (arith, c.requires.1.depth)

pub overflow_sub-counts : goal.overflow_sub-counts
overflow_sub-counts c =
    omega (
      arith,
      force-some c.requires.0 c.wide.ensures.0 c.requires.1
          (omega (arith, c.wide.ensures.0, c.wide.ensures.1)),
    )

pub returns : goal.returns
returns c =
    force-closed-by c.requires.0 c.wide.ensures.0 c.requires.1
    (omega (arith, c.wide.ensures.0, c.wide.ensures.1))
