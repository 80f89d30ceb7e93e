-- `bounds::order::list_bounded`: the rows so far, and what is left of the list, come to the same.
use Rattle.bounds.proofs.Filling.{Filled}
use Rattle.bounds.proofs.order.list_bounded.Given as goal

abbrev pub invariant-loop-row : goal.invariant-loop-row
invariant-loop-row l = Filled l.tabled.image.now l.initial.numbers l.initial.steps l.known l.numbers l.steps l.places l.sums l.row
