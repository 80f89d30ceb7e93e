-- `integers::is_zero`: 0 is the number whose bits are all 0.
use Rattle.integers.proofs.Signs.{zero_bits}
use Rattle.integers.proofs.is_zero.Goals as goal

pub returns : goal.returns
returns c = zero_bits _ c.ranges.z
