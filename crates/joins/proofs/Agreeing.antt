-- 02, 13: bounds of 12) agree as well: the claims hold.
use Rattle.std.specs.Prelude.{Ok}
use mathlib.Core.Path.{◌≡◌, sym, ap, subst}
use mathlib.Core.List.{List, ◌++◌}
use mathlib.Core.Option.{none}
use mathlib.Core.Bool.{true}
use Prim.Native.Nat.{ℕ, ◌+◌, ◌≤◌}
use native.Mathlib.Nat.{zero-add}
use lib.ListN.{length}
use borrow.Author.Tests.{leb-true}
use Rattle.layout.specs.Bounds.{FUNCTIONS}
use Rattle.layout.proofs.Bools.{and_both}
use Rattle.program.specs.Program.{Program, find_version}
use Rattle.checker.specs.Verdicts.{verdict_of}
use Rattle.checker.proofs.Accepted.{passed}
use Rattle.machine.specs.Begin.{program_of}
use Rattle.joins.specs.Shifted.{shift_program}
use Rattle.joins.specs.Alongside.{Carries, Closed}
use Rattle.joins.specs.Joins.{functions_in, joined, in_bounds}
use Rattle.joins.specs.Agreed.{bound_found, bound_at, SameBounds, BoundsAgree}
use Rattle.joins.proofs.Together.{Below, carries-first, carries-second, find-high}
use Rattle.joins.proofs.Joining.{below-image, closed-image, joined-program, taken}
use Rattle.joins.proofs.Listed.{bounds-first, bounds-second, report-joined}

module _ (a b : List ℕ) (n m room : ℕ) (va : verdict_of a ≡ Ok n) (vb : verdict_of b ≡ Ok m) (h : in_bounds a b room ≡ true) where
  abbrev k : ℕ
  k = functions_in a

  abbrev l : ℕ
  l = functions_in b

  abbrev o : ℕ
  o = length a

  abbrev P : Program
  P = program_of a

  abbrev Q : Program
  Q = program_of b

  abbrev J : Program
  J = program_of (joined a b)

  split : J ≡ P ++ shift_program k o Q
  split = joined-program a b n m room va vb h

  below-a : Below k P
  below-a = below-image a n (passed a n va)

  below-b : Below l Q
  below-b = below-image b m (passed b m vb)

  closed-a : Closed k P
  closed-a = closed-image a n (passed a n va)

  closed-b : Closed l Q
  closed-b = closed-image b m (passed b m vb)

  first-in : Carries 0 0 k P J
  first-in = subst (Carries 0 0 k P) (sym split) (carries-first k l o P Q below-a below-b)

  second-in : Carries k o l Q J
  second-in = subst (Carries k o l Q) (sym split) (carries-second k l o P Q below-a below-b)

  high : (f w : ℕ) → k + l ≤ f → find_version J f w ≡ none
  high f w g = subst (λ (R : Program). find_version R f w ≡ none) (sym split) (find-high k l o P Q below-a below-b f w g)

  few : k + l ≤ FUNCTIONS
  unfolding in_bounds
  few = leb-true _ _ (and_both _ _ (and_both _ _ h).1).0

  same-bounds : SameBounds a b
  unfolding bound_found
  same-bounds = record {
    first = λ f w g. subst (λ (i : ℕ). bound_at (joined a b) i w ≡ bound_at a f w) (zero-add f) (bounds-first k l o P Q J first-in closed-a below-a second-in closed-b below-b high few f w g);
    second = bounds-second k l o P Q J first-in closed-a below-a second-in closed-b below-b high few;
    others = λ f w g. ap (bound_found J) (high f w g);
    order = report-joined k l o P Q J first-in closed-a below-a second-in closed-b below-b high few;
  }

-- THE LAW
pub bounds-agree : BoundsAgree
unfolding BoundsAgree
bounds-agree a b room n e = let t = taken a b room n e in same-bounds a b t.first_count t.second-count room t.first t.second t.inside
