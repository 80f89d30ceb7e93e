-- What the safety of a run rests on, of types and effects: laws that are cited, beside those of `Fitted` for each instruction. Of every rule `Judged` has computed rows.
use mathlib.Core.Path.{◌≡◌, refl}
use mathlib.Core.Logic.{◌⊎◌, inl, inr}
use mathlib.Core.Bool.{Bool, true, false, cond}
use Prim.Native.Nat.{ℕ, zero, suc, ◌<◌}
use native.Mathlib.Omega.{arith}
use lib.Dec.{eqb}
use borrow.Author.Tests.{eqb-true, ltb-true, not-true}
use Rattle.layout.specs.Tests.{◌and◌}
use Rattle.layout.proofs.Bools.{and_both}
use Rattle.program.specs.Program.{MOVE, FORCE, Block, Version, Program}
use Rattle.rules.specs.Types.{kind_of, is_shared, is_owned, is_borrowed, is_promise, within, return_type}
use Rattle.rules.specs.Fits.{type_of, declared_kind, integer, owned, fits, fits_result}
use Rattle.rules.specs.Effects.{reflective}
use Rattle.rules.proofs.Follows.{or-either}

-- ---- instructions

-- MOVE goes from a shared register to a shared one whose kind holds it
pub record Moves (v : Version) (d a : ℕ) : Type 0 where
  pub from : is_shared (type_of v a) ≡ true
  pub to : is_shared (type_of v d) ≡ true
  pub kind : within (declared_kind v a) (declared_kind v d) ≡ true

pub move-shared : (P : Program) (v : Version) (n d a : ℕ) → fits P v n (MOVE d a) ≡ true → Moves v d a
unfolding fits
move-shared P v n d a h = let t = and_both _ _ h in let u = and_both _ _ t.1 in record { from = t.0; to = u.0; kind = u.1 }

-- FORCE takes a promise; it is quiet only of kind 4
pub force-marked : (P : Program) (v : Version) (n d a : ℕ) → fits P v n (FORCE d a) ≡ true → (declared_kind v a ≡ 4) ⊎ ((declared_kind v a ≡ 5) × (reflective P v (FORCE d a) ≡ true))
unfolding fits is_promise reflective
force-marked P v n d a h = go (or-either (eqb (declared_kind v a) 4) (eqb (declared_kind v a) 5) (and_both _ _ h).0)
  where
    go : (eqb (declared_kind v a) 4 ≡ true) ⊎ (eqb (declared_kind v a) 5 ≡ true) → (declared_kind v a ≡ 4) ⊎ ((declared_kind v a ≡ 5) × (eqb (declared_kind v a) 5 ≡ true))
    go (inl e) = inl (eqb-true _ 4 e)
    go (inr e) = inr (eqb-true _ 5 e, e)

-- ---- returns and results

-- a return has kind 1, 2 or 3, so it carries no promise out of its frame
pub return-kinds : (t : ℕ) → return_type t ≡ true → (kind_of t ≡ 1) ⊎ (kind_of t ≡ 2) ⊎ (kind_of t ≡ 3)
unfolding return_type
return-kinds t h = let u = and_both _ _ (and_both _ _ h).1 in go (kind_of t) (ltb-true 0 _ u.0) (ltb-true _ 4 u.1)
  where
    go : (k : ℕ) → 0 < k → k < 4 → (k ≡ 1) ⊎ (k ≡ 2) ⊎ (k ≡ 3)
    go zero h g = absurd (omega arith)
    go (suc zero) h g = inl refl
    go (suc (suc zero)) h g = inr (inl refl)
    go (suc (suc (suc zero))) h g = inr (inr refl)
    go (suc (suc (suc (suc k)))) h g = absurd (omega arith)

-- a body's result lies within the return kind; it is owned if the return is, and never borrowed
pub record Yields (v : Version) (b : Block) : Type 0 where
  pub kind : within (declared_kind v b.result) (kind_of v.return) ≡ true
  pub own : is_owned v.return ≡ true → owned v b.result ≡ true
  pub lent : is_owned v.return ≡ false → is_borrowed (type_of v b.result) ≡ false

pub body-yields : (v : Version) (b : Block) → fits_result v 0 b ≡ true → Yields v b
unfolding fits_result
body-yields v b h = let t = and_both _ _ h in record { kind = t.0; own = λ o. rw o at t.1; lent = λ o. not-true _ (rw o at t.1) }

-- a promise block's result is an integer
pub promise-yields : (v : Version) (n : ℕ) (b : Block) → 0 < n → fits_result v n b ≡ true → integer v b.result ≡ true
unfolding fits_result
promise-yields v n b p h = go (eqb n 0) _ refl h
  where
    go : (t x : Bool) → eqb n 0 ≡ t → cond t x (integer v b.result) ≡ true → integer v b.result ≡ true
    go true x e g = absurd (omega (arith, eqb-true n 0 e))
    go false x e g = g
