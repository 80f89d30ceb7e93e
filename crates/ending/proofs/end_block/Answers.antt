use Rattle.ending.specs.Ends.{ended_by}
use Rattle.ending.proofs.Answered.{comes-by, forcing-is, opener-is}
use native.Mathlib.Omega.{arith}
use mathlib.Core.Path.{ap}
use Rattle.ending.proofs.end_block.Goals as goal

pub overflow_sub-depth : goal.overflow_sub-depth
overflow_sub-depth c =
    omega (arith, c.wide-depth.ensures.0, c.requires.1.depth)

pub activation-top-requires : goal.activation-top-requires
activation-top-requires c =
    omega (arith, c.wide-depth.ensures.0, c.requires.1.depth, c.requires.1.low)

pub end_call-requires : goal.end_call-requires
end_call-requires c = (
  c.requires.0,
  c.requires.1,
  opener-is _
      c.wide-depth.ensures.0 c.activation-top.ensures
      c.in-Call.is,
)

pub end_force-requires : goal.end_force-requires
end_force-requires c = (
  c.requires.0,
  c.requires.1.few,
  forcing-is _
      c.wide-depth.ensures.0 c.activation-top.ensures
      c.requires.1 c.in-Force.is,
)

pub returns-in-Call : goal.returns-in-Call
returns-in-Call c =
    let e = opener-is _ c.wide-depth.ensures.0 c.activation-top.ensures
    c.in-Call.is in (
      λ P W T. comes-by _ _ _ _ _ (ap (ended_by P W c.args.bytes.now
          c.args.numbers.now _ _) e) (c.end_call.ensures.0 P W (T e)),
      c.end_call.ensures.1,
    )

pub returns-in-Force : goal.returns-in-Force
returns-in-Force c =
    let e = opener-is _ c.wide-depth.ensures.0
    c.activation-top.ensures c.in-Force.is in (
      λ P W T. comes-by _ _ _ _ _ (ap (ended_by P W c.args.bytes.now
          c.args.numbers.now _ _) e) (c.end_force.ensures.0 P W),
      c.end_force.ensures.1,
    )
