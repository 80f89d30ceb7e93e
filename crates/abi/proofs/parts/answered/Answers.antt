-- `abi::parts::answered`: what is said with the steps, and what is left for the buffer.
use Rattle.abi.proofs.Pausing.{answered-by}
use Rattle.abi.proofs.parts.answered.Goals as goal

pub returns : goal.returns
returns c =
    (answered-by _ _ _ c.said-said.ensures c.taken.ensures, c.leave.ensures)
