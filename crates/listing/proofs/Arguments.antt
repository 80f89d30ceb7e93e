-- Values put one after the other.
use mathlib.Core.Path.{◌≡◌, refl, ap}
use mathlib.Core.List.{List, [], ◌∷◌, ◌++◌, map}
use Prim.Native.Nat.{ℕ, zero, suc, ◌≤◌}
use native.Mathlib.Nat.{not-suc-le-zero, le_of_suc-le-suc}
use lib.ListN.{length, set, take}
use Rattle.machine.specs.States.{over}

pub map-append : {A B : Type 0} (f : A → B) (l m : List A) → map f (l ++ m) ≡ map f l ++ map f m
map-append f [] m = refl
map-append f (x ∷ l) m = ap (λ r. f x ∷ r) (map-append f l m)

pub set_twice : {A : Type 0} (l : List A) (i : ℕ) (x y : A) → set (set l i x) i y ≡ set l i y
set_twice [] i x y = refl
set_twice (z ∷ l) zero x y = refl
set_twice (z ∷ l) (suc i) x y = ap (λ m. z ∷ m) (set_twice l i x y)

-- one more value in front
pub over-next : {A : Type 0} (xs ys : List A) (x : A) → set (over xs ys) (length xs) x ≡ over (xs ++ (x ∷ [])) ys
unfolding over
over-next [] [] x = refl
over-next [] (y ∷ ys) x = refl
over-next (z ∷ xs) [] x = refl
over-next (z ∷ xs) (y ∷ ys) x = ap (λ l. z ∷ l) (over-next xs ys x)

-- values behind the last place go nowhere
pub over-most : {A : Type 0} (xs ys : List A) (m : ℕ) → length ys ≤ m → over (take m xs) ys ≡ over xs ys
unfolding over
over-most [] ys zero h = refl
over-most [] ys (suc m) h = refl
over-most (x ∷ xs) [] zero h = refl
over-most (x ∷ xs) [] (suc m) h = refl
over-most (x ∷ xs) (y ∷ ys) zero h = absurd (not-suc-le-zero h)
over-most (x ∷ xs) (y ∷ ys) (suc m) h = ap (λ l. x ∷ l) (over-most xs ys m (le_of_suc-le-suc h))

pub take-map : {A B : Type 0} (f : A → B) (l : List A) (m : ℕ) → take m (map f l) ≡ map f (take m l)
take-map f [] zero = refl
take-map f [] (suc m) = refl
take-map f (x ∷ l) zero = refl
take-map f (x ∷ l) (suc m) = ap (λ r. f x ∷ r) (take-map f l m)

pub length-map : {A B : Type 0} (f : A → B) (l : List A) → length (map f l) ≡ length l
length-map f [] = refl
length-map f (x ∷ l) = ap suc (length-map f l)

pub length-take : {A : Type 0} (l : List A) (i : ℕ) → i ≤ length l → length (take i l) ≡ i
length-take [] zero h = refl
length-take [] (suc i) h = absurd (not-suc-le-zero h)
length-take (x ∷ l) zero h = refl
length-take (x ∷ l) (suc i) h = ap suc (length-take l i (le_of_suc-le-suc h))
