use Rattle.turning.proofs.Turning.{stored-by}
use Prim.Native.Nat.{◌+◌, ◌-◌}
use Rattle.turning.specs.Standing.{onward}
use Rattle.turning.proofs.store_next.Goals as goal

pub returns : goal.returns
unfolding onward
returns c =
    stored-by c.args.bytes.now
    (c.args.spot.next + c.args.behind - (c.args.spot.block + 1))
    c.wide-depth.ensures.0
