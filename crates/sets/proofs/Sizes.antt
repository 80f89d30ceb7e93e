-- Sets of at least k registers: nothing is added where none is, and nothing is taken away where none is in both.
use mathlib.Core.Path.{◌≡◌, refl, sym, ap, ap₂, ◌∙◌}
use mathlib.Core.List.{[], ◌∷◌, map}
use mathlib.Core.Bool.{Bool, true, false, not, ◌&&◌, ◌||◌, or-false, true≢false}
use Prim.Native.Nat.{ℕ, zero, suc, ◌≤◌}
use native.Mathlib.Omega.{arith}
use lib.ListN.{length}
use Rattle.sets.specs.Sets.{Set, has, empty, only, both, those, inhabited, meets, ◌∪◌, ◌∖◌}
use Rattle.sets.proofs.Members.{has_both, has-none, none_left, none_right}

length-mapped : (f : Bool → Bool) (s : Set) → length (map f s) ≡ length s
length-mapped f [] = refl
length-mapped f (a ∷ s) = ap suc (length-mapped f s)

-- what is made of two sets is as long as each
pub both_first : (f : Bool → Bool → Bool) (s t : Set) → length s ≤ length (both f s t)
unfolding both
both_first f [] t = omega arith
both_first f (a ∷ s) [] = omega (arith, length-mapped (λ x. f x false) s)
both_first f (a ∷ s) (b ∷ t) = omega (arith, both_first f s t)

pub both-second : (f : Bool → Bool → Bool) (s t : Set) → length t ≤ length (both f s t)
unfolding both
both-second f [] t = omega (arith, length-mapped (f false) t)
both-second f (a ∷ s) [] = omega arith
both-second f (a ∷ s) (b ∷ t) = omega (arith, both-second f s t)

pub length_none : (k : ℕ) → length (empty k) ≡ k
unfolding empty
length_none zero = refl
length_none (suc k) = ap suc (length_none k)

length_both : (f : Bool → Bool → Bool) (s t : Set) → length s ≡ length t → length (both f s t) ≡ length t
unfolding both
length_both f [] t e = length-mapped (f false) t
length_both f (a ∷ s) [] e = ap suc (length-mapped (λ x. f x false) s) ∙ e
length_both f (a ∷ s) (b ∷ t) e = ap suc (length_both f s t (omega (arith, e)))

length-only : (k r : ℕ) → length (only k r) ≡ k
unfolding only
length-only zero r = refl
length-only (suc k) zero = ap suc (length_none k)
length-only (suc k) (suc r) = ap suc (length-only k r)

pub length-those : (k : ℕ) (rs : _) → length (those k rs) ≡ k
unfolding those
length-those k [] = length_none k
length-those k (r ∷ rs) = length_both ◌||◌ (only k r) (those k rs) (length-only k r ∙ sym (length-those k rs)) ∙ length-those k rs

-- nothing is added

pub union-none : (k : ℕ) (s : Set) → k ≤ length s → s ∪ empty k ≡ s
unfolding both empty
union-none zero [] h = refl
union-none zero (a ∷ s) h = none_right (a ∷ s)
union-none (suc k) [] h = absurd (omega (arith, h))
union-none (suc k) (a ∷ s) h = ap₂ ◌∷◌ (or-false a) (union-none k s (omega (arith, h)))

pub none-union : (k : ℕ) (s : Set) → k ≤ length s → empty k ∪ s ≡ s
unfolding both empty
none-union zero s h = none_left s
none-union (suc k) [] h = absurd (omega (arith, h))
none-union (suc k) (a ∷ s) h = ap (λ (l : Set). a ∷ l) (none-union k s (omega (arith, h)))

-- nothing is taken away

left_in : (a b : Bool) → (a && b) ≡ false → (a && not b) ≡ a
left_in true true h = absurd (true≢false h)
left_in true false h = refl
left_in false b h = refl

neither : (a b : Bool) → (a || b) ≡ false → (a ≡ false) × (b ≡ false)
neither true b h = absurd (true≢false h)
neither false b h = (refl, h)

all_left : (s : Set) → map (λ x. x && not false) s ≡ s
all_left [] = refl
all_left (true ∷ s) = ap (λ (l : Set). true ∷ l) (all_left s)
all_left (false ∷ s) = ap (λ (l : Set). false ∷ l) (all_left s)

pub apart-minus : (s t : Set) → length t ≤ length s → meets s t ≡ false → s ∖ t ≡ s
unfolding both inhabited
apart-minus [] [] l h = refl
apart-minus [] (b ∷ t) l h = absurd (omega (arith, l))
apart-minus (a ∷ s) [] l h = all_left (a ∷ s)
apart-minus (a ∷ s) (b ∷ t) l h =
    let x = neither (a && b) (meets s t) h in
    ap₂ ◌∷◌ (left_in a b x.0) (apart-minus s t (omega (arith, l)) x.1)

-- what meets neither of two sets does not meet both together

none_in : (s : Set) → ((r : ℕ) → has s r ≡ false) → inhabited s ≡ false
unfolding has inhabited
none_in [] h = refl
none_in (true ∷ s) h = absurd (true≢false (h 0))
none_in (false ∷ s) h = none_in s (λ r. h (suc r))

pub meets-union : (s t u : Set) → meets s u ≡ false → meets t u ≡ false → meets (s ∪ t) u ≡ false
meets-union s t u p q = none_in (both ◌&&◌ (s ∪ t) u) (λ r. has_both ◌&&◌ refl (s ∪ t) u r ∙ ap (λ (x : Bool). x && has u r) (has_both ◌||◌ refl s t r) ∙ go (has s r) (has t r) (has u r) (at s p r) (at t q r))
  where
    at : (x : Set) → meets x u ≡ false → (r : ℕ) → (has x r && has u r) ≡ false
    at x e r = sym (has_both ◌&&◌ refl x u r) ∙ has-none (both ◌&&◌ x u) e r

    go : (a b c : Bool) → (a && c) ≡ false → (b && c) ≡ false → ((a || b) && c) ≡ false
    go true b c e f = e
    go false b c e f = f
