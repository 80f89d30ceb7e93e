-- `machine::Frame::refers_to`: the registers, then the names.
use mathlib.Core.Path.{sym, ◌∙◌}
use Rattle.machine.specs.States.{refers}
use Rattle.machine.proofs.Frame.refers_to.Goals as goal

pub returns-then-holds : goal.returns-then-holds
unfolding refers
returns-then-holds c = rw (sym c.holds.ensures ∙ c.if-holds.true) c.if-holds.true

pub returns-else-holds : goal.returns-else-holds
unfolding refers
returns-else-holds c = rw (sym c.holds.ensures ∙ c.if-holds.false) c.holds-else-holds.ensures
