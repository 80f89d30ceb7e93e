-- Type bytes: what their tests say.
use Rattle.std.specs.Prelude.{None, Some}
use mathlib.Core.Path.{◌≡◌, refl}
use mathlib.Core.Bool.{Bool, true, false, cond, ◌||◌}
use Prim.Native.Nat.{ℕ, ◌/◌, ◌≤◌, ◌<◌}
use native.Mathlib.Omega.{arith}
use lib.Dec.{eqb}
use borrow.Author.Tests.{eq-eqb, ne_eqb, eqb-false}
use Rattle.rules.specs.Types.{kind_of, ownership_of, is_owned, is_borrowed, is_vector}
use Rattle.layout.specs.Tests.{◌and◌}
use Rattle.layout.proofs.Bools.{and-true}
use Rattle.typing.specs.Calls.{owned_kind}

-- an ownership of 1 or 2
pub not-shared : (t : ℕ) → (t / 16 ≡ 0 → ⊥) → t / 16 < 3 → (is_owned t || is_borrowed t) ≡ true
unfolding ownership_of is_owned is_borrowed
not-shared t z h = go (eqb (t / 16) 1) refl
  where
    go : (b : Bool) → eqb (t / 16) 1 ≡ b → (b || eqb (t / 16) 2) ≡ true
    go true e = refl
    go false e = eq-eqb (t / 16) 2 (omega (arith, eqb-false (t / 16) 1 e))

-- an ownership that is none
pub no-ownership : (t : ℕ) → 3 ≤ t / 16 → (is_owned t || is_borrowed t) ≡ false
unfolding ownership_of is_owned is_borrowed
no-ownership t h = simp (ne_eqb (t / 16) 1 (omega arith), ne_eqb (t / 16) 2 (omega arith))

-- a type byte taken apart
owned-some : (t k : ℕ) → owned_kind t ≡ Some k → (is_owned t ≡ true) × (kind_of t ≡ k)
unfolding owned_kind
owned-some t k e = go (is_owned t) refl e
  where
    go : (b : Bool) → is_owned t ≡ b → cond b (Some (kind_of t)) None ≡ Some k → (is_owned t ≡ true) × (kind_of t ≡ k)
    go true x y = (x, cc)
    go false x y = let z : ◌≡◌ {A = ℕ} 0 1 = cc in absurd (omega arith)

owned-none : (t : ℕ) → owned_kind t ≡ None → is_owned t ≡ false
unfolding owned_kind
owned-none t e = go (is_owned t) refl e
  where
    go : (b : Bool) → is_owned t ≡ b → cond b (Some (kind_of t)) None ≡ None → is_owned t ≡ false
    go true x y = let z : ◌≡◌ {A = ℕ} 0 1 = cc in absurd (omega arith)
    go false x y = x

-- an owned vector, by its type taken apart
pub owned-vector : (t k : ℕ) → owned_kind t ≡ Some k → eqb k 3 ≡ (is_vector t and is_owned t)
unfolding is_vector
owned-vector t k e = let o = owned-some t k e in rw (o.0, and-true, o.1)

pub no-vector : (t : ℕ) → owned_kind t ≡ None → (is_vector t and is_owned t) ≡ false
unfolding ◌and◌
no-vector t e = rw (owned-none t e) (go (is_vector t))
  where
    go : (b : Bool) → (b and false) ≡ false
    go true = refl
    go false = refl
