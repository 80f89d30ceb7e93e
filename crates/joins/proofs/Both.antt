-- Two parts of steps that come to the same, up to a relation of their results.
use mathlib.Core.Path.{◌≡◌, refl, sym, ap}
use mathlib.Core.List.{List, [], ◌∷◌, map}
use mathlib.Core.Option.{some}
use Prim.Native.Nat.{ℕ, zero, suc}
use lib.ListN.{get_elem?}
use Rattle.machine.specs.Try.{Try, got, stuck, stop, ◌>>=◌, ◌>>◌, at, or_stuck}

-- both have results, in R; or both are stuck; or both stop with the same end
unfoldable pub Both : {A B : Type 0} → (A → B → Type 0) → Try A → Try B → Type 0
Both R (got a) (got b) = R a b
Both R (got a) stuck = ⊥
Both R (got a) (stop e) = ⊥
Both R stuck (got b) = ⊥
Both R stuck stuck = Unit {0}
Both R stuck (stop e) = ⊥
Both R (stop e) (got b) = ⊥
Both R (stop e) stuck = ⊥
Both R (stop e) (stop f) = e ≡ f

-- the line `x ← t`
pub both-then : {A B C D : Type 0} (S : C → D → Type 0) (R : A → B → Type 0) (t : Try A) (u : Try B) (f : A → Try C) (g : B → Try D) → Both R t u → ((a : A) (b : B) → R a b → Both S (f a) (g b)) → Both S (t >>= f) (u >>= g)
unfolding ◌>>=◌ Both
both-then S R (got a) (got b) f g h k = k a b h
both-then S R (got a) stuck f g h k = absurd h
both-then S R (got a) (stop e) f g h k = absurd h
both-then S R stuck (got b) f g h k = absurd h
both-then S R stuck stuck f g h k = tt
both-then S R stuck (stop e) f g h k = absurd h
both-then S R (stop e) (got b) f g h k = absurd h
both-then S R (stop e) stuck f g h k = absurd h
both-then S R (stop e) (stop x) f g h k = h

-- where t is the same
pub both-same : {A C D : Type 0} (S : C → D → Type 0) (t : Try A) (f : A → Try C) (g : A → Try D) → ((a : A) → Both S (f a) (g a)) → Both S (t >>= f) (t >>= g)
unfolding ◌>>=◌ Both
both-same S (got a) f g k = k a
both-same S stuck f g k = tt
both-same S (stop e) f g k = refl

-- the line `t`
pub both-next : {A C D : Type 0} (S : C → D → Type 0) (t : Try A) (u : Try C) (v : Try D) → ((a : A) → t ≡ got a → Both S u v) → Both S (t >> u) (t >> v)
unfolding ◌>>◌ Both
both-next S (got a) u v k = k a refl
both-next S stuck u v k = tt
both-next S (stop e) u v k = refl

-- the line `t`, where its parts are related
pub both-line : {A B C D : Type 0} (S : C → D → Type 0) (R : A → B → Type 0) (t : Try A) (t' : Try B) (u : Try C) (v : Try D) → Both R t t' → Both S u v → Both S (t >> u) (t' >> v)
unfolding ◌>>◌ Both
both-line S R (got a) (got b) f g h k = k
both-line S R (got a) stuck f g h k = absurd h
both-line S R (got a) (stop e) f g h k = absurd h
both-line S R stuck (got b) f g h k = absurd h
both-line S R stuck stuck f g h k = tt
both-line S R stuck (stop e) f g h k = absurd h
both-line S R (stop e) (got b) f g h k = absurd h
both-line S R (stop e) stuck f g h k = absurd h
both-line S R (stop e) (stop x) f g h k = h

-- what comes to the same by an equation
pub both_refl : {A : Type 0} (t : Try A) → Both (λ (a b : A). b ≡ a) t t
unfolding Both
both_refl (got a) = refl
both_refl stuck = tt
both_refl (stop e) = refl

pub both-eq : {A : Type 0} (t u : Try A) → Both (λ (a b : A). b ≡ a) t u → u ≡ t
unfolding Both
both-eq (got a) (got b) h = ap got h
both-eq (got a) stuck h = absurd h
both-eq (got a) (stop e) h = absurd h
both-eq stuck (got b) h = absurd h
both-eq stuck stuck h = refl
both-eq stuck (stop e) h = absurd h
both-eq (stop e) (got b) h = absurd h
both-eq (stop e) stuck h = absurd h
both-eq (stop e) (stop x) h = ap stop (sym h)

-- a look-up in a list, and in the list of images
pub at_map : {A B : Type 0} (f : A → B) (xs : List A) (i : ℕ) → Both (λ (a : A) (b : B). b ≡ f a) (at xs i) (at (map f xs) i)
unfolding at or_stuck Both
at_map f [] i = tt
at_map f (x ∷ xs) zero = refl
at_map f (x ∷ xs) (suc i) = at_map f xs i

pub at-map-in : {A B : Type 0} (f : A → B) (xs : List A) (i : ℕ) → Both (λ (a : A) (b : B). (get_elem? xs i ≡ some a) × (b ≡ f a)) (at xs i) (at (map f xs) i)
unfolding at or_stuck Both
at-map-in f [] i = tt
at-map-in f (x ∷ xs) zero = (refl, refl)
at-map-in f (x ∷ xs) (suc i) = at-map-in f xs i
