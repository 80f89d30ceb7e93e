-- `bounds::order::next_free`: what is left of the search is put to the places from k on.
use Rattle.bounds.specs.Counts.{Ready, first_place, free_at}
use Prim.Native.Nat.{◌-◌}
use mathlib.Core.Path.{◌≡◌}
use Rattle.bounds.proofs.order.next_free.Given as goal

abbrev pub invariant-loop-k : goal.invariant-loop-k
invariant-loop-k l = Ready l.tabled.image.now l.known l.places l.sums × (first_place (free_at l.tabled.image.now l.known) 128 0 ≡ first_place (free_at l.tabled.image.now l.known) (128 - l.k) l.k)
