-- The vectors that count in the first state of a run are those of its arguments.
use mathlib.Core.Path.{◌≡◌, refl, sym, ap, ◌∙◌}
use mathlib.Core.Logic.{◌⊎◌, inl, inr}
use mathlib.Core.List.{List, [], ◌∷◌, map}
use mathlib.Core.Bool.{Bool, true, false, cond, true≢false, false≢true, ◌||◌}
use Prim.Native.Nat.{ℕ, zero, suc, ◌+◌, ◌-◌, ◌≤◌, ◌<◌}
use native.Mathlib.Omega.{arith}
use lib.ListN.{length, replicate}
use lib.Dec.{eqb, ltb}
use borrow.Author.Tests.{eqb-true, eqb-false, ltb-true, ltb-false}
use Rattle.layout.specs.Bounds.{REGISTERS, NAMES}
use Rattle.layout.specs.Tests.{any}
use Rattle.program.specs.Program.{Version}
use Rattle.rules.proofs.Follows.{or-either}
use Rattle.machine.specs.States.{VECTORS, place, over, is_vector, refers, held, vector_counts, live_frames}
use Rattle.machine.specs.Calls.{frame_for}
use Rattle.machine.specs.Begin.{Given, integer, vector, values_of, vectors_of, first_state}
use Rattle.machine.specs.Allowed.{counting, vectors_in}
use Rattle.machine.specs.declared.Place.{Place}
use Rattle.machine.specs.declared.Value.{Value}
use Rattle.runs.specs.Company.{StartNeeds}

-- ---- the values of the arguments

-- a vector among them has a place from n on
values-in : (v : ℕ) (xs : List Given) (n : ℕ) → any (is_vector v) (values_of xs n) ≡ true → (n ≤ v) × (v < n + length (vectors_of xs))
unfolding any values_of vectors_of is_vector
values-in v [] n h = absurd (false≢true h)
values-in v (integer z ∷ xs) n h = values-in v xs n h
values-in v (vector ys ∷ xs) n h = go (or-either (eqb v n) (any (is_vector v) (values_of xs (suc n))) h) (values-in v xs (suc n))
  where
    go : (eqb v n ≡ true) ⊎ (any (is_vector v) (values_of xs (suc n)) ≡ true) → (any (is_vector v) (values_of xs (suc n)) ≡ true → (suc n ≤ v) × (v < suc n + length (vectors_of xs))) → (n ≤ v) × (v < n + suc (length (vectors_of xs)))
    go (inl e) ih = (omega (arith, eqb-true v n e), omega (arith, eqb-true v n e))
    go (inr e) ih = let t = ih e in (omega (arith, t.0), omega (arith, t.1))

-- and each such place is one of them
values-all : (v : ℕ) (xs : List Given) (n : ℕ) → n ≤ v → v < n + length (vectors_of xs) → any (is_vector v) (values_of xs n) ≡ true
unfolding any values_of vectors_of is_vector
values-all v [] n l m = absurd (omega arith)
values-all v (integer z ∷ xs) n l m = values-all v xs n l m
values-all v (vector ys ∷ xs) n l m = go (eqb v n) refl (values-all v xs (suc n))
  where
    go : (b : Bool) → eqb v n ≡ b → (suc n ≤ v → v < suc n + length (vectors_of xs) → any (is_vector v) (values_of xs (suc n)) ≡ true) → (b || any (is_vector v) (values_of xs (suc n))) ≡ true
    go true e ih = refl
    go false e ih = ih (not_same (eqb-false v n e)) (omega (arith, m))
      where
        not_same : (v ≡ n → ⊥) → suc n ≤ v
        not_same d = omega (arith, l, d)

values-are : (v : ℕ) (xs : List Given) → any (is_vector v) (values_of xs 0) ≡ ltb v (length (vectors_of xs))
values-are v xs = go (ltb v (length (vectors_of xs))) refl (any (is_vector v) (values_of xs 0)) refl
  where
    go : (b : Bool) → ltb v (length (vectors_of xs)) ≡ b → (a : Bool) → any (is_vector v) (values_of xs 0) ≡ a → a ≡ b
    go true e true q = refl
    go true e false q = absurd (true≢false (sym (values-all v xs 0 (omega arith) (omega (arith, ltb-true v (length (vectors_of xs)) e))) ∙ q))
    go false e true q = let t = values-in v xs 0 q in absurd (omega (arith, t.1, ltb-false v (length (vectors_of xs)) e))
    go false e false q = refl

length-values : (xs : List Given) (n : ℕ) → length (values_of xs n) ≡ length xs
unfolding values_of
length-values [] n = refl
length-values (integer z ∷ xs) n = ap suc (length-values xs n)
length-values (vector ys ∷ xs) n = ap suc (length-values xs (suc n))

-- ---- in the registers of the first frame

any-empty : (v n : ℕ) → any (λ (c : Place). is_vector v c.value) (replicate n (place Value.Empty)) ≡ false
unfolding any is_vector
any-empty v zero = refl
any-empty v (suc n) = any-empty v n

any-placed : (v : ℕ) (vs : List Value) (n : ℕ) → length vs ≤ n → any (λ (c : Place). is_vector v c.value) (over (map place vs) (replicate n (place Value.Empty))) ≡ any (is_vector v) vs
unfolding any over
any-placed v [] n h = any-empty v n
any-placed v (x ∷ vs) zero h = absurd (omega arith)
any-placed v (x ∷ vs) (suc n) h = ap (λ (b : Bool). is_vector v x || b) (any-placed v vs n (omega arith))

or-false : (a : Bool) → (a || false) ≡ a
or-false true = refl
or-false false = refl

first-counts : (W : Version) (xs : List Given) (v : ℕ) → length xs ≤ REGISTERS → vector_counts (first_state (frame_for W (values_of xs 0) ∷ []) (vectors_of xs)) v ≡ ltb v (length (vectors_of xs))
unfolding vector_counts held live_frames first_state frame_for refers any over
first-counts W xs v h =
    or-false _ ∙ ap (λ (b : Bool). any (λ (c : Place). is_vector v c.value) (over (map place (values_of xs 0)) (replicate REGISTERS (place Value.Empty))) || b) (any-empty v NAMES) ∙ or-false _
    ∙ any-placed v (values_of xs 0) REGISTERS (omega (arith, h, length-values xs 0)) ∙ values-are v xs

-- ---- counted

counting-same : (c d : ℕ → Bool) → ((v : ℕ) → c v ≡ d v) → (n i : ℕ) → counting c n i ≡ counting d n i
unfolding counting
counting-same c d h zero i = refl
counting-same c d h (suc n) i = let t = counting-same c d h n (suc i) in ap (λ (b : Bool). cond b 1 0 + counting c n (suc i)) (h i) ∙ ap (λ (m : ℕ). cond (d i) 1 0 + m) t

counting-below : (m n i : ℕ) → m ≤ i + n → counting (λ (v : ℕ). ltb v m) n i ≡ m - i
unfolding counting
counting-below m zero i h = omega arith
counting-below m (suc n) i h = go (ltb i m) refl (counting-below m n (suc i) (omega arith))
  where
    go : (b : Bool) → ltb i m ≡ b → counting (λ (v : ℕ). ltb v m) n (suc i) ≡ m - suc i → cond b 1 0 + counting (λ (v : ℕ). ltb v m) n (suc i) ≡ m - i
    go true e t = omega (arith, t, ltb-true i m e)
    go false e t = omega (arith, t, ltb-false i m e)

few-vectors : (xs : List Given) → length (vectors_of xs) ≤ length xs
unfolding vectors_of
few-vectors [] = omega arith
few-vectors (integer z ∷ xs) = let t = few-vectors xs in omega (arith, t)
few-vectors (vector ys ∷ xs) = let t = few-vectors xs in omega (arith, t)

minus-none : (n : ℕ) → n - 0 ≡ n
minus-none n = omega arith

-- THE LAW: what a start needs
pub start-needs : StartNeeds
unfolding StartNeeds vectors_in
start-needs W xs h =
    counting-same (vector_counts (first_state (frame_for W (values_of xs 0) ∷ []) (vectors_of xs))) (λ (v : ℕ). ltb v (length (vectors_of xs))) (λ v. first-counts W xs v h) VECTORS 0
    ∙ counting-below (length (vectors_of xs)) VECTORS 0 (omega (arith, few-vectors xs, h)) ∙ minus-none (length (vectors_of xs))
