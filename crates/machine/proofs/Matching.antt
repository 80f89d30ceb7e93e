-- Arguments against parameters: kinds and ownerships, place by place.
use mathlib.Core.Path.{◌≡◌, refl, ap}
use mathlib.Core.List.{List, [], ◌∷◌}
use mathlib.Core.Option.{some}
use mathlib.Core.Bool.{true, false≢true}
use Prim.Native.Nat.{ℕ, zero, suc}
use native.Mathlib.Omega.{arith}
use lib.ListN.{length, get_elem?}
use borrow.Author.Tests.{eqb-true, eq-eqb}
use Rattle.layout.specs.Tests.{◌and◌}
use Rattle.layout.proofs.Bools.{and_both}
use Rattle.program.specs.Program.{Argument, beside}
use Rattle.rules.specs.Types.{kind_of, ownership_of, is_owned, within}
use Rattle.rules.specs.Actions.{emptied as freed}
use Rattle.machine.specs.Calls.{matching, same_ownerships}
use Rattle.machine.specs.Steps.{registers_of}

-- each kind against that of its parameter
pub matching-all : (ks ts : List ℕ) → length ks ≡ length ts → ((j k t : ℕ) → get_elem? ks j ≡ some k → get_elem? ts j ≡ some t → within k (kind_of t) ≡ true) → matching ks ts ≡ true
unfolding matching ◌and◌
matching-all [] [] e h = refl
matching-all [] (t ∷ ts) e h = absurd (omega arith)
matching-all (k ∷ ks) [] e h = absurd (omega arith)
matching-all (k ∷ ks) (t ∷ ts) e h = rw (h 0 k t refl refl) (matching-all ks ts (omega arith) (λ j x y f g. h (suc j) x y f g))

pub matching-at : (ks ts : List ℕ) → matching ks ts ≡ true → (j k t : ℕ) → get_elem? ks j ≡ some k → get_elem? ts j ≡ some t → within k (kind_of t) ≡ true
unfolding matching
matching-at [] [] h j k t e f = let z : ◌≡◌ {A = ℕ} 0 1 = cc in absurd (omega arith)
matching-at [] (u ∷ ts) h j k t e f = absurd (false≢true h)
matching-at (x ∷ ks) [] h j k t e f = absurd (false≢true h)
matching-at (x ∷ ks) (u ∷ ts) h zero k t e f = let p : x ≡ k = cc in let q : u ≡ t = cc in rw (← p, ← q) (and_both _ _ h).0
matching-at (x ∷ ks) (u ∷ ts) h (suc j) k t e f = matching-at ks ts (and_both _ _ h).1 j k t e f

-- the same ownerships, place by place
pub same_length : (call : List Argument) (ts : List ℕ) → same_ownerships call ts ≡ true → length call ≡ length ts
unfolding same_ownerships
same_length [] [] h = refl
same_length [] (t ∷ ts) h = absurd (false≢true h)
same_length (x ∷ call) [] h = absurd (false≢true h)
same_length (x ∷ call) (t ∷ ts) h = ap suc (same_length call ts (and_both _ _ h).1)

pub same_at : (call : List Argument) (ts : List ℕ) → same_ownerships call ts ≡ true → (j : ℕ) (x : Argument) (t : ℕ) → get_elem? call j ≡ some x → get_elem? ts j ≡ some t → ownership_of x.type ≡ ownership_of t
unfolding same_ownerships
same_at [] [] h j x t e f = let z : ◌≡◌ {A = ℕ} 0 1 = cc in absurd (omega arith)
same_at [] (u ∷ ts) h j x t e f = absurd (false≢true h)
same_at (y ∷ call) [] h j x t e f = absurd (false≢true h)
same_at (y ∷ call) (u ∷ ts) h zero x t e f = let p : y ≡ x = cc in let q : u ≡ t = cc in rw (← p, ← q) (eqb-true _ _ (and_both _ _ h).0)
same_at (y ∷ call) (u ∷ ts) h (suc j) x t e f = same_at call ts (and_both _ _ h).1 j x t e f

-- and the same registers are emptied
pub same-freed : (call : List Argument) (ts : List ℕ) → same_ownerships call ts ≡ true → freed call ≡ freed (beside ts (registers_of call))
unfolding same_ownerships freed beside is_owned
same-freed [] [] h = refl
same-freed [] (t ∷ ts) h = absurd (false≢true h)
same-freed (x ∷ call) [] h = absurd (false≢true h)
same-freed (x ∷ call) (t ∷ ts) h = rw (eqb-true (ownership_of x.type) (ownership_of t) (and_both _ _ h).0, same-freed call ts (and_both _ _ h).1) refl

-- a call's own types have their own ownerships
pub same_beside : (ts rs : List ℕ) → length rs ≡ length ts → (same_ownerships (beside ts rs) ts ≡ true) × (registers_of (beside ts rs) ≡ rs)
unfolding same_ownerships beside ◌and◌
same_beside [] [] e = (refl, refl)
same_beside [] (r ∷ rs) e = absurd (omega arith)
same_beside (t ∷ ts) [] e = absurd (omega arith)
same_beside (t ∷ ts) (r ∷ rs) e = let i = same_beside ts rs (omega arith) in (rw (eq-eqb (ownership_of t) (ownership_of t) refl) i.0, ap (λ z. r ∷ z) i.1)
