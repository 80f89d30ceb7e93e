-- A capped instruction as the code has it: only DUP and VEC differ, in where they look for a place.
use mathlib.Core.Path.{◌≡◌, refl}
use mathlib.Core.List.{List}
use mathlib.Core.Bool.{Bool, true, false, true≢false}
use Prim.Native.Nat.{ℕ}
use lib.IntN.{ℤ}
use lib.Dec.{leb}
use Rattle.layout.specs.Tests.{◌and◌}
use Rattle.program.specs.Program.{Instr, LIT, MOVE, USE, DUP, VEC, LEN, GET, SET, ARITH, SELECT, CAST, NAMED, STORE, PROM, FORCE, PEEK, POKE, CALL, DISPATCH, SKIP, Version, Program}
use Rattle.machine.specs.Try.{Try, got, stuck, stop, ◌>>=◌, at, each}
use Rattle.machine.specs.States.{integer, vector, free_vector, new_vector, with_vector, assign}
use Rattle.machine.specs.Steps.{execute, execute_to}
use Rattle.machine.specs.Allowed.{vectors_in, is_got, needs_vector, free_within, execute_with}
use Rattle.machine.specs.declared.End.{End}
use Rattle.machine.specs.declared.Frame.{Frame}
use Rattle.machine.specs.declared.State.{State}
use Rattle.machine.specs.declared.Value.{Value}
use Rattle.machine.specs.declared.Vector.{Vector}

-- VEC or DUP
unfoldable pub makes : Instr → Bool
makes (LIT d i) = false
makes (MOVE d a) = false
makes (USE d a) = false
makes (DUP d a) = true
makes (VEC d rs) = true
makes (LEN d a) = false
makes (GET d a i) = false
makes (SET a i e) = false
makes (ARITH d op a b) = false
makes (SELECT d c a b) = false
makes (CAST d a) = false
makes (NAMED d x) = false
makes (STORE x a) = false
makes (PROM d block) = false
makes (FORCE d a) = false
makes (PEEK d a x) = false
makes (POKE a x e) = false
makes (CALL d g w rs) = false
makes (DISPATCH d g mark ret pairs) = false
makes (SKIP a n) = false

-- a test between what is read and what is written
tested : {A C : Type 0} (o : Try A) (b : Bool) (e : End) (free : Try ℕ) (k : A → ℕ → Try C)
    → ◌≡◌ {A = Try C} (elim (is_got o and b) [ true ↦ stop e | false ↦ (o >>= λ (x : A). free >>= k x) ]) (o >>= λ (x : A). ◌>>=◌ {A = ℕ} (elim b [ true ↦ stop e | false ↦ free ]) (k x))
unfolding is_got ◌and◌ ◌>>=◌
tested (got a) true e free k = refl
tested (got a) false e free k = refl
tested stuck true e free k = refl
tested stuck false e free k = refl
tested (stop x) true e free k = refl
tested (stop x) false e free k = refl

tested-both : {A B C : Type 0} (o : Try A) (g : A → Try B) (b : Bool) (e : End) (free : Try ℕ) (k : B → ℕ → Try C)
    → ◌≡◌ {A = Try C} (elim (is_got (o >>= g) and b) [ true ↦ stop e | false ↦ (o >>= λ (x : A). g x >>= λ (y : B). free >>= k y) ]) (o >>= λ (x : A). g x >>= λ (y : B). ◌>>=◌ {A = ℕ} (elim b [ true ↦ stop e | false ↦ free ]) (k y))
unfolding is_got ◌and◌ ◌>>=◌
tested-both (got a) g b e free k = tested (g a) b e free k
tested-both stuck g true e free k = refl
tested-both stuck g false e free k = refl
tested-both (stop x) g true e free k = refl
tested-both (stop x) g false e free k = refl

module _ (most : ℕ) (P : Program) (s : State) (k : ℕ) (f : Frame) (W : Version) where
  -- DUP
  pub dup-within : (d a : ℕ) → execute_with most P s k f W (DUP d a) ≡ (vector f a >>= λ (v : ℕ). at s.vectors v >>= λ (w : Vector). free_within most s >>= λ (n : ℕ). assign (with_vector s n w) k d (Value.Vector n))
  unfolding execute_with needs_vector execute_to free_within
  dup-within d a = tested-both (vector f a) (λ (v : ℕ). at s.vectors v) (leb most (vectors_in s)) End.Vectors (free_vector s) (λ (w : Vector) (n : ℕ). assign (with_vector s n w) k d (Value.Vector n))

  -- VEC
  pub vec-within : (d : ℕ) (rs : List ℕ) → execute_with most P s k f W (VEC d rs) ≡ (each (integer f) rs >>= λ (xs : List ℤ). free_within most s >>= λ (n : ℕ). assign (with_vector s n (new_vector xs)) k d (Value.Vector n))
  unfolding execute_with needs_vector execute_to free_within
  vec-within d rs = tested (each (integer f) rs) (leb most (vectors_in s)) End.Vectors (free_vector s) (λ (xs : List ℤ) (n : ℕ). assign (with_vector s n (new_vector xs)) k d (Value.Vector n))

  -- all others
  pub own-within : (i : Instr) → makes i ≡ false → execute_with most P s k f W i ≡ execute P s k f W i
  unfolding execute_with needs_vector makes ◌and◌
  own-within (LIT d i) n = refl
  own-within (MOVE d a) n = refl
  own-within (USE d a) n = refl
  own-within (DUP d a) n = absurd (true≢false n)
  own-within (VEC d rs) n = absurd (true≢false n)
  own-within (LEN d a) n = refl
  own-within (GET d a i) n = refl
  own-within (SET a i e) n = refl
  own-within (ARITH d op a b) n = refl
  own-within (SELECT d c a b) n = refl
  own-within (CAST d a) n = refl
  own-within (NAMED d x) n = refl
  own-within (STORE x a) n = refl
  own-within (PROM d block) n = refl
  own-within (FORCE d a) n = refl
  own-within (PEEK d a x) n = refl
  own-within (POKE a x e) n = refl
  own-within (CALL d g w rs) n = refl
  own-within (DISPATCH d g mark ret pairs) n = refl
  own-within (SKIP a m) n = refl
