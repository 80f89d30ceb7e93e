-- Capped sums: a bound of capped bounds, capped, is the bound capped, and it reads the same.
use mathlib.Core.Path.{◌≡◌, refl, sym, ap, ◌∙◌}
use mathlib.Core.Logic.{◌⊎◌, inl, inr}
use mathlib.Core.List.{List, [], ◌∷◌}
use mathlib.Core.Bool.{cond}
use Prim.Native.Nat.{ℕ, suc, min, max, ◌+◌, ◌≤◌, ◌<◌}
use native.Mathlib.Decide.{dec_lt}
use native.Mathlib.Omega.{arith}
use lib.Dec.{ltb}
use borrow.Author.Tests.{lt-ltb, le-ltb}
use Rattle.program.specs.Program.{Instr, Line, Block, Version, Program}
use Rattle.bounds.specs.Bounds.{reaches, greater, largest, steps_at, steps_to, steps_in, steps_of, Bound, MOST, reads}
use Rattle.bounds.specs.Sums.{LIMIT, cap}

-- what a capped number is
pub data Capped (n : ℕ) : Type 0 where
  whole : n < LIMIT → cap n ≡ n → Capped n
  full : LIMIT ≤ n → cap n ≡ LIMIT → Capped n

pub capped : (n : ℕ) → Capped n
unfolding cap
capped n = go (dec_lt n LIMIT)
  where
    go : Dec (n < LIMIT) → Capped n
    go (yes h) = whole h (rw (lt-ltb n LIMIT h) refl)
    go (no h) = full (omega arith) (rw (le-ltb n LIMIT (omega arith)) refl)

-- equal where both are at the limit or beyond, or the same
cap-same : (m n : ℕ) → (m ≡ n) ⊎ ((LIMIT ≤ m) × (LIMIT ≤ n)) → cap m ≡ cap n
cap-same m n (inl e) = ap cap e
cap-same m n (inr h) = go (capped m) (capped n)
  where
    go : Capped m → Capped n → cap m ≡ cap n
    go (whole a p) b = absurd (omega (arith, a, h.0))
    go (full a p) (whole b q) = absurd (omega (arith, b, h.1))
    go (full a p) (full b q) = p ∙ sym q

pub cap-sum : (a b : ℕ) → cap (cap a + cap b) ≡ cap (a + b)
cap-sum a b = go (capped a) (capped b)
  where
    go : Capped a → Capped b → cap (cap a + cap b) ≡ cap (a + b)
    go (whole x p) (whole y q) = rw (p, q) refl
    go (whole x p) (full y q) = cap-same (cap a + cap b) (a + b) (inr (omega (arith, q), omega (arith, y)))
    go (full x p) (whole y q) = cap-same (cap a + cap b) (a + b) (inr (omega (arith, p), omega (arith, x)))
    go (full x p) (full y q) = cap-same (cap a + cap b) (a + b) (inr (omega (arith, p), omega (arith, x)))

pub cap-twice : (n : ℕ) → cap (cap n) ≡ cap n
cap-twice n = go (capped n)
  where
    go : Capped n → cap (cap n) ≡ cap n
    go (whole x p) = ap cap p
    go (full x p) = cap-same (cap n) n (inr (omega (arith, p), x))

cap-greater : (a b : ℕ) → greater (cap a) (cap b) ≡ cap (greater a b)
unfolding greater
cap-greater a b = go (capped a) (capped b) (dec_lt a b)
  where
    go : Capped a → Capped b → Dec (a < b) → cond (ltb (cap a) (cap b)) (cap b) (cap a) ≡ cap (cond (ltb a b) b a)
    go (whole x p) (whole y q) (yes h) = rw (lt-ltb (cap a) (cap b) (omega (arith, p, q)), lt-ltb a b h) refl
    go (whole x p) (full y q) (yes h) = rw (lt-ltb (cap a) (cap b) (omega (arith, p, q)), lt-ltb a b h) refl
    go (full x p) (whole y q) (yes h) = absurd (omega (arith, x, y))
    go (full x p) (full y q) (yes h) = rw (le-ltb (cap a) (cap b) (omega (arith, p, q)), lt-ltb a b h) (p ∙ sym q)
    go c d (no h) = rw (le-ltb (cap a) (cap b) (lower c d), le-ltb a b (omega arith)) refl
      where
        lower : Capped a → Capped b → cap b ≤ cap a
        lower (whole x p) (whole y q) = omega (arith, p, q)
        lower (whole x p) (full y q) = absurd (omega (arith, x, y))
        lower (full x p) (whole y q) = omega (arith, p, q, y)
        lower (full x p) (full y q) = omega (arith, p, q)

pub cap-largest : (bound : Version → ℕ) (vs : List Version) → largest (λ v. cap (bound v)) vs ≡ cap (largest bound vs)
unfolding largest
cap-largest bound [] = refl-zero
  where
    refl-zero : 0 ≡ cap 0
    refl-zero = go (capped 0)
      where
        go : Capped 0 → 0 ≡ cap 0
        go (whole x p) = sym p
        go (full x p) = absurd (omega arith)
cap-largest bound (v ∷ vs) = ap (greater (cap (bound v))) (cap-largest bound vs) ∙ cap-greater (bound v) (largest bound vs)

module _ (P : Program) (bound : Version → ℕ) (v : Version) where
  cap-at : (i : Instr) → cap (steps_at P (λ u. cap (bound u)) v i) ≡ cap (steps_at P bound v i)
  unfolding steps_at
  cap-at i = ap (λ (n : ℕ). cap (suc n)) (cap-largest bound (reaches P v i)) ∙ go (capped (largest bound (reaches P v i)))
    where
      go : Capped (largest bound (reaches P v i)) → cap (suc (cap (largest bound (reaches P v i)))) ≡ cap (suc (largest bound (reaches P v i)))
      go (whole x p) = ap (λ (n : ℕ). cap (suc n)) p
      go (full x p) = cap-same _ _ (inr (omega (arith, p), omega (arith, x)))

  cap-to : (ls : List Line) → cap (steps_to (steps_at P (λ u. cap (bound u)) v) ls) ≡ cap (steps_to (steps_at P bound v) ls)
  unfolding steps_to
  cap-to [] = refl
  cap-to (l ∷ ls) =
      sym (cap-sum (steps_at P (λ u. cap (bound u)) v l.does) (steps_to (steps_at P (λ u. cap (bound u)) v) ls))
      ∙ ap (λ (n : ℕ). cap (n + cap (steps_to (steps_at P (λ u. cap (bound u)) v) ls))) (cap-at l.does)
      ∙ ap (λ (n : ℕ). cap (cap (steps_at P bound v l.does) + n)) (cap-to ls)
      ∙ cap-sum (steps_at P bound v l.does) (steps_to (steps_at P bound v) ls)

  cap-in : (bs : List Block) → cap (steps_in (steps_at P (λ u. cap (bound u)) v) bs) ≡ cap (steps_in (steps_at P bound v) bs)
  unfolding steps_in
  cap-in [] = refl
  cap-in (b ∷ bs) =
      sym (cap-sum (steps_to (steps_at P (λ u. cap (bound u)) v) b.code) (steps_in (steps_at P (λ u. cap (bound u)) v) bs))
      ∙ ap (λ (n : ℕ). cap (n + cap (steps_in (steps_at P (λ u. cap (bound u)) v) bs))) (cap-to b.code)
      ∙ ap (λ (n : ℕ). cap (cap (steps_to (steps_at P bound v) b.code) + n)) (cap-in bs)
      ∙ cap-sum (steps_to (steps_at P bound v) b.code) (steps_in (steps_at P bound v) bs)

  -- THE LAW: capped bounds make the capped bound
  pub cap-steps : cap (steps_of P (λ u. cap (bound u)) v) ≡ cap (steps_of P bound v)
  unfolding steps_of
  cap-steps = cap-in v.blocks

-- and it reads the same
pub cap-reads : (n : ℕ) → reads (cap n) ≡ reads n
unfolding reads
cap-reads n = go (capped n)
  where
    go : Capped n → cond (ltb MOST (cap n)) Bound.large (Bound.steps (cap n)) ≡ cond (ltb MOST n) Bound.large (Bound.steps n)
    go (whole x p) = rw p refl
    go (full x p) = rw (lt-ltb MOST (cap n) (omega (arith, p)), lt-ltb MOST n (omega (arith, x))) refl

-- ---- as the code makes them, by the library's lesser and greater

pub min-cap : (n : ℕ) → min n LIMIT ≡ cap n
min-cap n = go (capped n)
  where
    go : Capped n → min n LIMIT ≡ cap n
    go (whole h e) = omega (arith, h, e)
    go (full h e) = omega (arith, h, e)

pub max-greater : (a b : ℕ) → max a b ≡ greater a b
unfolding greater
max-greater a b = go (dec_lt a b)
  where
    go : Dec (a < b) → max a b ≡ cond (ltb a b) b a
    go (yes h) = rw (lt-ltb a b h) (omega (arith, h))
    go (no h) = let l : b ≤ a = omega arith in rw (le-ltb a b l) (omega (arith, l))

pub max-back : (a b : ℕ) → max b a ≡ greater a b
max-back a b = let e : max b a ≡ max a b = omega arith in e ∙ max-greater a b
