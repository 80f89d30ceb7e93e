-- `bounds::order::list_rest`: what is left of the rows is put to the places from k on.
use Rattle.bounds.proofs.Writing.{Rest}
use Rattle.bounds.proofs.order.list_rest.Given as goal

abbrev pub invariant-loop-k : goal.invariant-loop-k
invariant-loop-k l = Rest l.tabled.image.now l.known l.initial.numbers l.initial.steps l.from l.numbers l.steps l.row l.k
