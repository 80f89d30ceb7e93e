-- Flow: register sets, of any size. A set of k registers says of each of them, from 0 on, whether it is in.
use Rattle.std.specs.Prelude.{List, [], ◌∷◌, map, Bool, true, false, cond, not, ◌&&◌, ◌||◌, ℕ, zero, suc, ◌+◌, ◌/◌, ◌%◌, drop, get_or, replicate, eqb}

-- a register set: of each register, from 0 on, whether it is in
abbrev pub Set : Type 0
Set = List Bool

-- is r in it? Where a set ends, nothing is in
unfoldable pub has : Set → ℕ → Bool
has s r = get_or s r false

-- of k registers, none
unfoldable pub empty : ℕ → Set
empty k = replicate k false

-- of k registers, r alone; none where r is not one of them
unfoldable pub only : ℕ → ℕ → Set
only zero r = []
only (suc k) zero = true ∷ empty k
only (suc k) (suc r) = false ∷ only k r

-- register by register
unfoldable pub both : (Bool → Bool → Bool) → Set → Set → Set
both f [] t = map (f false) t
both f (a ∷ s) [] = map (λ x. f x false) (a ∷ s)
both f (a ∷ s) (b ∷ t) = f a b ∷ both f s t

-- Flow, ∪: in one or the other
infixl 60 ◌∪◌
abbrev pub ◌∪◌ : Set → Set → Set
s ∪ t = both ◌||◌ s t

-- Flow, −: in the first but not in the second
infixl 60 ◌∖◌
abbrev pub ◌∖◌ : Set → Set → Set
s ∖ t = both (λ a b. a && not b) s t

-- Flow, ∩: in one and in the other
infixl 60 ◌∩◌
abbrev pub ◌∩◌ : Set → Set → Set
s ∩ t = both ◌&&◌ s t

-- of k registers, those of a list
unfoldable pub those : ℕ → List ℕ → Set
those k [] = empty k
those k (r ∷ rs) = only k r ∪ those k rs

-- is any in?
unfoldable pub inhabited : Set → Bool
inhabited [] = false
inhabited (b ∷ s) = b || inhabited s

-- is a register in both?
abbrev pub meets : Set → Set → Bool
meets s t = inhabited (both ◌&&◌ s t)

-- does it lie within the first n registers?
abbrev pub below : ℕ → Set → Bool
below n s = not (inhabited (drop n s))

-- how many are in
unfoldable pub size : Set → ℕ
size [] = 0
size (b ∷ s) = cond b 1 0 + size s

-- the set of k registers that a mask is: its k lowest binary digits
unfoldable pub set_of : ℕ → ℕ → Set
set_of zero m = []
set_of (suc k) m = eqb (m % 2) 1 ∷ set_of k (m / 2)
