-- A step in a wider range is that in a narrower one, but where the narrower one ends in UNDEF.
use mathlib.Core.Path.{◌≡◌, refl, ap}
use mathlib.Core.Logic.{◌⊎◌, inl, inr}
use mathlib.Core.Bool.{Bool, true, false, cond}
use Prim.Native.Nat.{ℕ, ◌≤◌}
use native.Mathlib.Omega.{arith}
use lib.IntN.{ℤ, ◌+ℤ◌, ◌-ℤ◌, ◌*ℤ◌}
use lib.Signed.{mag}
use lib.Dec.{eqb, ltb}
use borrow.Author.Tests.{ltb-true, lt-ltb}
use Rattle.layout.specs.Records.{choose}
use Rattle.program.specs.Program.{Instr, LIT, MOVE, USE, DUP, VEC, LEN, GET, SET, ARITH, SELECT, CAST, NAMED, STORE, PROM, FORCE, PEEK, POKE, CALL, DISPATCH, SKIP, Version, Program}
use Rattle.machine.specs.Try.{Try, got, stuck, stop, ◌>>=◌, ◌>>◌, end_unless}
use Rattle.machine.specs.Values.{floored, ranged_to, divided_to, arith_to}
use Rattle.machine.specs.States.{integer}
use Rattle.machine.specs.Steps.{Here, Position, instruction, block_end, outside, execute_to, proceed_to, advance_to, here, position_of}
use Rattle.machine.specs.declared.End.{End}
use Rattle.machine.specs.declared.Frame.{Frame}
use Rattle.machine.specs.declared.State.{State}

-- the same, but where the first is UNDEF
unfoldable pub OrUndef : {A : Type 0} → Try A → Try A → Type 0
OrUndef t u = (t ≡ u) ⊎ (t ≡ stop End.Undef)

-- then: go on from either
undef-bind : {A B : Type 0} (t u : Try A) (f : A → Try B) → OrUndef t u → OrUndef (t >>= f) (u >>= f)
unfolding OrUndef ◌>>=◌
undef-bind t u f (inl e) = inl (ap (λ v. v >>= f) e)
undef-bind t u f (inr e) = inr (rw e refl)

-- and after the same
undef-under : {A B : Type 0} (t : Try A) (f g : A → Try B) → ((a : A) → OrUndef (f a) (g a)) → OrUndef (t >>= f) (t >>= g)
unfolding OrUndef ◌>>=◌
undef-under (got a) f g h = h a
undef-under stuck f g h = inl refl
undef-under (stop e) f g h = inl refl

-- likewise, with no result
undef-then : {A B : Type 0} (t : Try A) (u v : Try B) → OrUndef u v → OrUndef (t >> u) (t >> v)
unfolding OrUndef ◌>>◌
undef-then (got a) u v h = h
undef-then stuck u v h = inl refl
undef-then (stop e) u v h = inl refl

-- by a test
undef-cond : {A : Type 0} (b : Bool) (t u v w : Try A) → OrUndef t v → OrUndef u w → OrUndef (cond b t u) (cond b v w)
undef-cond true t u v w p q = p
undef-cond false t u v w p q = q

-- what does not look at the range
same : {A : Type 0} (t : Try A) → OrUndef t t
unfolding OrUndef
same t = inl refl

module _ (R S : ℕ) (wide : R ≤ S) where
  -- a result in the narrower range is in the wider one
  ranged-wider : (z : ℤ) → OrUndef (ranged_to R z) (ranged_to S z)
  unfolding OrUndef ranged_to end_unless ◌>>◌
  ranged-wider z = go (ltb (mag z) R) refl
    where
      go : (b : Bool) → ltb (mag z) R ≡ b → OrUndef (ranged_to R z) (ranged_to S z)
      go true e = inl (rw (e, lt-ltb (mag z) S (omega (arith, wide, ltb-true (mag z) R e))) refl)
      go false e = inr (rw e refl)

  -- the operations
  arith-wider : (op : ℕ) (x y : ℤ) → OrUndef (arith_to R op x y) (arith_to S op x y)
  unfolding arith_to divided_to choose
  arith-wider op x y =
      undef-cond (eqb op 0) _ _ _ _ (ranged-wider (x +ℤ y))
      (undef-cond (eqb op 1) _ _ _ _ (ranged-wider (x -ℤ y))
      (undef-cond (eqb op 2) _ _ _ _ (ranged-wider (x *ℤ y))
      (undef-cond (eqb op 3) _ _ _ _ (undef-then _ _ _ (ranged-wider (floored x y)))
      (undef-cond (eqb op 4) _ _ _ _ (same _) (same _)))))

  module _ (P : Program) (s : State) where
    -- ARITH alone looks at the range
    execute-wider : (k : ℕ) (f : Frame) (W : Version) (i : Instr) → OrUndef (execute_to R P s k f W i) (execute_to S P s k f W i)
    unfolding execute_to
    execute-wider k f W (LIT d i) = same _
    execute-wider k f W (MOVE d a) = same _
    execute-wider k f W (USE d a) = same _
    execute-wider k f W (DUP d a) = same _
    execute-wider k f W (VEC d rs) = same _
    execute-wider k f W (LEN d a) = same _
    execute-wider k f W (GET d a i) = same _
    execute-wider k f W (SET a i e) = same _
    execute-wider k f W (ARITH d op a b) = undef-under (integer f a) _ _ (λ x. undef-under (integer f b) _ _ (λ y. undef-bind (arith_to R op x y) (arith_to S op x y) _ (arith-wider op x y)))
    execute-wider k f W (SELECT d c a b) = same _
    execute-wider k f W (CAST d a) = same _
    execute-wider k f W (NAMED d x) = same _
    execute-wider k f W (STORE x a) = same _
    execute-wider k f W (PROM d b) = same _
    execute-wider k f W (FORCE d a) = same _
    execute-wider k f W (PEEK d a x) = same _
    execute-wider k f W (POKE a x e) = same _
    execute-wider k f W (CALL d g w rs) = same _
    execute-wider k f W (DISPATCH d g m r ps) = same _
    execute-wider k f W (SKIP a n) = same _

  -- nor does a block end
  proceed-wider : (P : Program) (s : State) (h : Here) (p : Position) → OrUndef (proceed_to R P s h p) (proceed_to S P s h p)
  unfolding proceed_to
  proceed-wider P s h (instruction i) = execute-wider P _ _ _ _ i
  proceed-wider P s h block_end = same _
  proceed-wider P s h outside = same _

  -- one step of a run
  pub advance-wider : (P : Program) (s : State) → OrUndef (advance_to R P s) (advance_to S P s)
  unfolding advance_to
  advance-wider P s = undef-under (here P s) _ _ (λ h. proceed-wider P s h (position_of h))
