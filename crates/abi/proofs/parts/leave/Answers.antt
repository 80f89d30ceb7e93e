-- `abi::parts::leave`: only a run that has ended leaves items.
use Rattle.running.specs.Budgets.{answer_of}
use Rattle.machine.specs.Runs.{written}
use Rattle.abi.proofs.Pausing.{items_left}
use Rattle.abi.proofs.Delivering.{over_none}
use Rattle.abi.proofs.parts.leave.Goals as goal

pub returns-in-Steps : goal.returns-in-Steps
unfolding answer_of written
returns-in-Steps c =
    rw c.in-Steps.is (over_none _)

pub returns-in-Ended : goal.returns-in-Ended
returns-in-Ended c =
    rw (c.in-Ended.is, items_left) c.deliver.ensures

pub returns-in-Stuck : goal.returns-in-Stuck
unfolding answer_of written
returns-in-Stuck c =
    rw c.in-Stuck.is (over_none _)
