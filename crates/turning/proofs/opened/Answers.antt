use mathlib.Core.Path.{sym, ap}
use Rattle.turning.specs.Turning.{opened_of}
use Rattle.turning.proofs.opened.Goals as goal

pub returns-in-On : goal.returns-in-On
unfolding opened_of
returns-in-On c =
    sym (ap opened_of c.in-On.is)

pub returns-in-Stuck : goal.returns-in-Stuck
unfolding opened_of
returns-in-Stuck c =
    sym (ap opened_of c.in-Stuck.is)

pub returns-in-Stop : goal.returns-in-Stop
unfolding opened_of
returns-in-Stop c =
    sym (ap opened_of c.in-Stop.is)
