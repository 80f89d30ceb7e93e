use Rattle.integers.proofs.Signs.{minus-one-bits}
use Rattle.integers.proofs.is_minus_one.Goals as goal

pub returns : goal.returns
returns c =
    minus-one-bits _ c.ranges.z
