-- Laws of the quotient that is rounded toward minus infinity: how the one toward zero makes it, and that it stays in range.
use Prim.Native.Nat.{ℕ, zero, suc, ◌/◌, ◌≤◌, zero-le}
use mathlib.Core.Path.{◌≡◌, refl, sym, ap}
use mathlib.Core.Bool.{true, false, false≢true}
use native.Mathlib.Omega.{arith}
use native.Mathlib.Nat.{add-zero, div-le_self, div-eq_of_lt, div-lt_self, div-one, zero-lt-suc}
use lib.IntN.{ℤ, pos, negsuc, neg_ℤ, ◌+ℤ◌, ◌-ℤ◌}
use lib.Signed.{mag, lt_z, quot_z}
use mir.Syntax.{Width}
use mir.Val.{SFits}
use borrow.Author.Tests.{ltb-true, ltb-false, lt-ltb, le-ltb}
use Rattle.machine.specs.Values.{is_zero, floored}
use Rattle.integers.specs.Computed.{is_minus_one}

-- ---- signs

pub is_below : (x : ℤ) → lt_z x (pos 0) ≡ true → (a : ℕ) × (x ≡ negsuc a)
is_below (pos a) e = absurd (omega (arith, ltb-true a 0 e))
is_below (negsuc a) e = (a, refl)

pub is-above : (x : ℤ) → lt_z (pos 0) x ≡ true → (a : ℕ) × (x ≡ pos (suc a))
is-above (pos zero) e = absurd (omega (arith, ltb-true 0 0 e))
is-above (pos (suc a)) e = (a, refl)
is-above (negsuc a) e = absurd (false≢true e)

pub not-below : (x : ℤ) → lt_z x (pos 0) ≡ false → (a : ℕ) × (x ≡ pos a)
not-below (pos a) e = (a, refl)
not-below (negsuc a) e = absurd (false≢true (sym e))

pub not-above : (x : ℤ) → lt_z (pos 0) x ≡ false → is_zero x ≡ false → (a : ℕ) × (x ≡ negsuc a)
unfolding is_zero
not-above (pos zero) e z = let w : ◌≡◌ {A = ℕ} 0 1 = cc in absurd (omega arith)
not-above (pos (suc a)) e z = absurd (omega (arith, ltb-false 0 (suc a) e))
not-above (negsuc a) e z = (a, refl)

pub is-zero : (x : ℤ) → lt_z x (pos 0) ≡ false → lt_z (pos 0) x ≡ false → x ≡ pos 0
is-zero (pos zero) e h = refl
is-zero (pos (suc a)) e h = absurd (omega (arith, ltb-false 0 (suc a) h))
is-zero (negsuc a) e h = absurd (false≢true (sym e))

-- ---- one more and one less

below-neg : (n : ℕ) → neg_ℤ (pos n) -ℤ pos 1 ≡ negsuc n
below-neg zero = refl
below-neg (suc n) = ap (λ (k : ℕ). negsuc (suc k)) (add-zero n)

up : (a : ℕ) → negsuc a +ℤ pos 1 ≡ neg_ℤ (pos a)
up zero = refl
up (suc a) = rw (lt-ltb 1 (suc (suc a)) (omega arith)) (ap negsuc (omega arith))

down : (a : ℕ) → pos (suc a) -ℤ pos 1 ≡ pos a
down a = rw (le-ltb (suc a) 1 (omega arith)) (ap pos (omega arith))

zero-by : (b : ℕ) → 0 / b ≡ 0
zero-by zero = refl
zero-by (suc b) = div-eq_of_lt (zero-lt-suc b)

quot-neg : (a b : ℕ) → quot_z (neg_ℤ (pos a)) (pos b) ≡ neg_ℤ (pos (a / b))
quot-neg zero b = rw (zero-by b) refl
quot-neg (suc a) b = refl

-- ---- by the signs: where they differ, the number next to x toward zero has a quotient toward zero that is one more

pub floor-up : (x y : ℤ) → lt_z x (pos 0) ≡ true → lt_z (pos 0) y ≡ true → quot_z (x +ℤ pos 1) y -ℤ pos 1 ≡ floored x y
unfolding floored
floor-up x y e h =
    let a = is_below x e in
    let b = is-above y h in
    rw (a.1, b.1, up a.0, quot-neg a.0 (suc b.0)) (below-neg (a.0 / suc b.0))

pub floor-down : (x y : ℤ) → lt_z (pos 0) x ≡ true → lt_z y (pos 0) ≡ true → quot_z (x -ℤ pos 1) y -ℤ pos 1 ≡ floored x y
unfolding floored
floor-down x y e h =
    let a = is-above x e in
    let b = is_below y h in
    rw (a.1, b.1, down a.0) (below-neg (a.0 / suc b.0))

pub floor-below : (x y : ℤ) → lt_z x (pos 0) ≡ true → lt_z (pos 0) y ≡ false → is_zero y ≡ false → quot_z x y ≡ floored x y
unfolding floored
floor-below x y e h z = rw ((is_below x e).1, (not-above y h z).1) refl

pub floor-above : (x y : ℤ) → lt_z x (pos 0) ≡ false → lt_z y (pos 0) ≡ false → quot_z x y ≡ floored x y
unfolding floored
floor-above x y e h = rw ((not-below x e).1, (not-below y h).1) refl

zero-floored : (y : ℤ) → pos 0 ≡ floored (pos 0) y
unfolding floored
zero-floored (pos b) = rw (zero-by b) refl
zero-floored (negsuc b) = rw (zero-by (suc b)) refl

pub floor-zero : (x y : ℤ) → lt_z x (pos 0) ≡ false → lt_z (pos 0) x ≡ false → pos 0 ≡ floored x y
floor-zero x y e h = rw (is-zero x e h) (zero-floored y)

-- ---- ranges: all of them are no further from 0 than x

floor-mag : (x y : ℤ) → is_minus_one y ≡ false → mag (floored x y) ≤ mag x
unfolding floored is_minus_one
floor-mag (pos a) (pos b) e = div-le_self a b
floor-mag (pos zero) (negsuc b) e = rw (zero-by (suc b)) zero-le
floor-mag (pos (suc a)) (negsuc b) e = omega (arith, div-le_self a (suc b))
floor-mag (negsuc a) (pos b) e = div-le_self a b
floor-mag (negsuc a) (negsuc zero) e = absurd (false≢true (sym e))
floor-mag (negsuc a) (negsuc (suc b)) e = omega (arith, div-lt_self (zero-lt-suc a) (halves b))
  where
    halves : (b : ℕ) → 2 ≤ suc (suc b)
    halves b = omega arith

neg-mag : (n : ℕ) → mag (neg_ℤ (pos n)) ≤ n
neg-mag zero = zero-le
neg-mag (suc n) = omega arith

up-mag : (x : ℤ) → lt_z x (pos 0) ≡ true → mag (x +ℤ pos 1) ≤ mag x
up-mag x e = let a = is_below x e in rw (a.1, up a.0) (neg-mag a.0)

down-mag : (x : ℤ) → lt_z (pos 0) x ≡ true → mag (x -ℤ pos 1) ≤ mag x
down-mag x e = let a = is-above x e in rw (a.1, down a.0) (omega arith)

quot-up-mag : (x y : ℤ) → lt_z x (pos 0) ≡ true → lt_z (pos 0) y ≡ true → mag (quot_z (x +ℤ pos 1) y) ≤ mag x
quot-up-mag x y e h =
    let a = is_below x e in
    let b = is-above y h in
    rw (a.1, b.1, up a.0, quot-neg a.0 (suc b.0)) (omega (arith, neg-mag (a.0 / suc b.0), div-le_self a.0 (suc b.0)))

quot-down-mag : (x y : ℤ) → lt_z (pos 0) x ≡ true → lt_z y (pos 0) ≡ true → mag (quot_z (x -ℤ pos 1) y) ≤ mag x
quot-down-mag x y e h =
    let a = is-above x e in
    let b = is_below y h in
    rw (a.1, b.1, down a.0) (omega (arith, neg-mag (a.0 / suc b.0), div-le_self a.0 (suc b.0)))

-- ---- what is no further from 0 than x fits where x does

no-further : {w : Width} {x : ℤ} (z : ℤ) → SFits w x → mag z ≤ mag x → SFits w z
no-further z p h = record { sfits = omega (arith, p.sfits, h) }

pub floor-fits : {w : Width} {x : ℤ} (y : ℤ) → SFits w x → is_minus_one y ≡ false → SFits w (floored x y)
floor-fits {w} {x} y p m = no-further (floored x y) p (floor-mag x y m)

pub up_fits : {w : Width} {x : ℤ} → SFits w x → lt_z x (pos 0) ≡ true → SFits w (x +ℤ pos 1)
up_fits {w} {x} p e = no-further (x +ℤ pos 1) p (up-mag x e)

pub down_fits : {w : Width} {x : ℤ} → SFits w x → lt_z (pos 0) x ≡ true → SFits w (x -ℤ pos 1)
down_fits {w} {x} p e = no-further (x -ℤ pos 1) p (down-mag x e)

pub quot-up-fits : {w : Width} {x : ℤ} (y : ℤ) → SFits w x → lt_z x (pos 0) ≡ true → lt_z (pos 0) y ≡ true → SFits w (quot_z (x +ℤ pos 1) y)
quot-up-fits {w} {x} y p e h = no-further (quot_z (x +ℤ pos 1) y) p (quot-up-mag x y e h)

pub quot-down-fits : {w : Width} {x : ℤ} (y : ℤ) → SFits w x → lt_z (pos 0) x ≡ true → lt_z y (pos 0) ≡ true → SFits w (quot_z (x -ℤ pos 1) y)
quot-down-fits {w} {x} y p e h = no-further (quot_z (x -ℤ pos 1) y) p (quot-down-mag x y e h)

-- ---- by −1

pub negated : (x y : ℤ) → is_minus_one y ≡ true → pos 0 -ℤ x ≡ floored x y
unfolding floored is_minus_one
negated x (pos b) e = absurd (false≢true e)
negated x (negsuc (suc b)) e = absurd (false≢true e)
negated (pos zero) (negsuc zero) e = refl
negated (pos (suc a)) (negsuc zero) e = rw (div-one a, lt-ltb 0 (suc a) (omega arith)) (ap negsuc (omega arith))
negated (negsuc a) (negsuc zero) e = rw (div-one (suc a)) (ap pos (omega arith))
