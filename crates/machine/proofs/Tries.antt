-- Lines of a rule: a look-up and a write by number, and what was found.
use mathlib.Core.Path.{◌≡◌, refl, ap}
use mathlib.Core.List.{List}
use mathlib.Core.Option.{Option, none, some}
use mathlib.Core.Bool.{Bool, true, false}
use Prim.Native.Nat.{ℕ, ◌<◌}
use native.Mathlib.Omega.{arith}
use lib.ListN.{length, get_or, get_elem?, set}
use lib.Dec.{ltb}
use borrow.Author.Tests.{lt-ltb, ltb-true}
use Rattle.layout.proofs.Lists.{get-some}
use Rattle.machine.specs.Try.{got, stuck, ◌>>◌, at, put, or_stuck, stuck_unless}

pub at_some : {A : Type 0} (xs : List A) (i : ℕ) (x : A) → get_elem? xs i ≡ some x → at xs i ≡ got x
unfolding at or_stuck
at_some xs i x h = rw h

pub at_none : {A : Type 0} (xs : List A) (i : ℕ) → get_elem? xs i ≡ none → at xs i ≡ stuck
unfolding at or_stuck
at_none xs i h = rw h

pub at_in : {A : Type 0} (xs : List A) (i : ℕ) (d : A) → i < length xs → at xs i ≡ got (get_or xs i d)
at_in xs i d h = at_some xs i (get_or xs i d) (get-some xs i d h)

pub put_in : {A : Type 0} (xs : List A) (i : ℕ) (x : A) → i < length xs → put xs i x ≡ got (set xs i x)
unfolding put stuck_unless ◌>>◌
put_in xs i x h = rw (lt-ltb i (length xs) h)

-- a place that was there
pub put-there : {A : Type 0} (xs ys : List A) (i : ℕ) (x : A) → put xs i x ≡ got ys → (i < length xs) × (set xs i x ≡ ys)
unfolding put stuck_unless ◌>>◌
put-there xs ys i x e = go (ltb i (length xs)) refl e
  where
    go : (b : Bool) → ltb i (length xs) ≡ b → (stuck_unless b >> got (set xs i x)) ≡ got ys → (i < length xs) × (set xs i x ≡ ys)
    go true l q = (ltb-true i (length xs) l, cc)
    go false l q = let z : ◌≡◌ {A = ℕ} 0 1 = cc in absurd (omega arith)

-- what was found
pub or-stuck : {A : Type 0} (o : Option A) (x : A) → or_stuck o ≡ got x → o ≡ some x
unfolding or_stuck
or-stuck none x e = let z : ◌≡◌ {A = ℕ} 0 1 = cc in absurd (omega arith)
or-stuck (some y) x e = let q : y ≡ x = cc in ap some q
