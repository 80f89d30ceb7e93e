-- Sets of any size, register by register.
use mathlib.Core.Path.{◌≡◌, refl, sym, ap, ap₂, ◌∙◌}
use mathlib.Core.List.{[], ◌∷◌, map}
use mathlib.Core.Bool.{Bool, true, false, ◌||◌, or-false, or_assoc, true≢false}
use Prim.Native.Nat.{ℕ, zero, suc}
use Rattle.sets.specs.Sets.{Set, has, both, inhabited, ◌∪◌}

has-map : (f : Bool → Bool) → f false ≡ false → (s : Set) (r : ℕ) → has (map f s) r ≡ f (has s r)
unfolding has
has-map f h [] r = sym h
has-map f h (a ∷ s) zero = refl
has-map f h (a ∷ s) (suc r) = has-map f h s r

-- an operation that puts nothing where nothing is goes register by register, whatever the sets' sizes
pub has_both : (f : Bool → Bool → Bool) → f false false ≡ false → (s t : Set) (r : ℕ) → has (both f s t) r ≡ f (has s r) (has t r)
unfolding has both
has_both f h [] t r = has-map (f false) h t r
has_both f h (a ∷ s) [] r = has-map (λ x. f x false) h (a ∷ s) r
has_both f h (a ∷ s) (b ∷ t) zero = refl
has_both f h (a ∷ s) (b ∷ t) (suc r) = has_both f h s t r

-- no register is in a set that none is in
pub has-none : (s : Set) → inhabited s ≡ false → (r : ℕ) → has s r ≡ false
unfolding has inhabited
has-none [] h r = refl
has-none (true ∷ s) h r = absurd (true≢false h)
has-none (false ∷ s) h zero = refl
has-none (false ∷ s) h (suc r) = has-none s h r

-- unions, in any order

pub none_left : (t : Set) → map (◌||◌ false) t ≡ t
none_left [] = refl
none_left (b ∷ t) = ap (λ (l : Set). b ∷ l) (none_left t)

pub none_right : (s : Set) → map (λ x. x || false) s ≡ s
none_right [] = refl
none_right (a ∷ s) = ap₂ ◌∷◌ (or-false a) (none_right s)

pub union_assoc : (s t u : Set) → (s ∪ t) ∪ u ≡ s ∪ (t ∪ u)
unfolding both
union_assoc [] t u = rw (none_left t, none_left (t ∪ u))
union_assoc (a ∷ s) [] u = rw (none_left u) (ap (λ (l : Set). l ∪ u) (none_right (a ∷ s)))
union_assoc (a ∷ s) (b ∷ t) [] = none_right ((a || b) ∷ (s ∪ t)) ∙ ap (λ (l : Set). (a ∷ s) ∪ l) (sym (none_right (b ∷ t)))
union_assoc (a ∷ s) (b ∷ t) (c ∷ u) = ap₂ ◌∷◌ (or_assoc a b c) (union_assoc s t u)
