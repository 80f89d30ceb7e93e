use mathlib.Core.Path.{sym, ap}
use Rattle.turning.specs.Turning.{turn_of}
use Rattle.turning.proofs.turned.Goals as goal

pub returns-in-On : goal.returns-in-On
unfolding turn_of
returns-in-On c =
    sym (ap turn_of c.in-On.is)

pub returns-in-Stuck : goal.returns-in-Stuck
unfolding turn_of
returns-in-Stuck c =
    sym (ap turn_of c.in-Stuck.is)

pub returns-in-Stop : goal.returns-in-Stop
unfolding turn_of
returns-in-Stop c =
    sym (ap turn_of c.in-Stop.is)
