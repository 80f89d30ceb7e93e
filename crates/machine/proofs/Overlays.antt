-- A list laid over another, from its place 0 on.
use mathlib.Core.Path.{◌≡◌, refl, ap}
use mathlib.Core.List.{List, [], ◌∷◌}
use Prim.Native.Nat.{ℕ, zero, suc, ◌≤◌, ◌<◌}
use native.Mathlib.Omega.{arith}
use lib.ListN.{length, get_or, get_elem?, set, take}
use Rattle.machine.specs.States.{over}

pub length_over : {A : Type 0} (xs ys : List A) → length (over xs ys) ≡ length ys
unfolding over
length_over [] ys = refl
length_over (x ∷ xs) [] = refl
length_over (x ∷ xs) (y ∷ ys) = ap suc (length_over xs ys)

-- what is laid there
pub over-in : {A : Type 0} (xs ys : List A) (k : ℕ) → length xs ≤ length ys → k < length xs → get_elem? (over xs ys) k ≡ get_elem? xs k
unfolding over
over-in [] ys k l h = absurd (omega arith)
over-in (x ∷ xs) [] k l h = absurd (omega arith)
over-in (x ∷ xs) (y ∷ ys) zero l h = refl
over-in (x ∷ xs) (y ∷ ys) (suc k) l h = over-in xs ys k (omega arith) (omega arith)

-- what lies behind it stays
pub over-past : {A : Type 0} (xs ys : List A) (k : ℕ) → length xs ≤ k → get_elem? (over xs ys) k ≡ get_elem? ys k
unfolding over
over-past [] ys k h = refl
over-past (x ∷ xs) [] k h = refl
over-past (x ∷ xs) (y ∷ ys) zero h = absurd (omega arith)
over-past (x ∷ xs) (y ∷ ys) (suc k) h = over-past xs ys k (omega arith)

-- the next item is one store
pub over-next : {A : Type 0} (xs ys : List A) (j : ℕ) (d : A) → j < length xs → set (over (take j xs) ys) j (get_or xs j d) ≡ over (take (suc j) xs) ys
unfolding over
over-next [] ys j d h = absurd (omega (arith, h))
over-next (x ∷ xs) [] zero d h = refl
over-next (x ∷ xs) (y ∷ ys) zero d h = refl
over-next (x ∷ xs) [] (suc j) d h = refl
over-next (x ∷ xs) (y ∷ ys) (suc j) d h = ap (λ l. x ∷ l) (over-next xs ys j d (omega (arith, h)))
