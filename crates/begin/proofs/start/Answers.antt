-- `begin::start`: blank arrays, the one call, then its arguments.
use Rattle.begin.specs.Arrays.{blank_bytes, blank_numbers, first_bytes, first_numbers, open_bytes}
use Rattle.begin.proofs.start.Goals as goal

pub returns : goal.returns
unfolding first_bytes first_numbers open_bytes blank_bytes blank_numbers
returns c =
    c.fill.ensures
