use Rattle.frames.proofs.Closing.{call-closed, held-newest}
use native.Mathlib.Omega.{arith}
use Rattle.frames.proofs.close_call.Goals as goal

pub overflow_sub-wide : goal.overflow_sub-wide
overflow_sub-wide c =
    omega (arith, c.wide.ensures.0, c.requires.1.calls)

pub drop_frame-requires : goal.drop_frame-requires
drop_frame-requires c = (
  omega (arith, c.wide.ensures.0, c.requires.1.calls, c.requires.1.few),
  held-newest
      c.requires.0 c.requires.1 c.wide.ensures.0,
)

pub overflow_sub-bytes : goal.overflow_sub-bytes
overflow_sub-bytes c =
    omega (arith, c.requires.1.calls)

pub overflow_sub-bytes-2 : goal.overflow_sub-bytes-2
overflow_sub-bytes-2 c =
    omega (arith, c.requires.1.depth)

pub returns : goal.returns
returns c =
    call-closed c.requires.0 c.requires.1 c.wide.ensures.0
    c.drop_frame.ensures
