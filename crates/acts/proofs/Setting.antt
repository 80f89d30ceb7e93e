-- SET, by what its operands are.
use mathlib.Core.Path.{◌≡◌, refl, sym, ap, ◌∙◌}
use mathlib.Core.List.{List}
use mathlib.Core.Bool.{Bool, true, false}
use Prim.Native.Nat.{ℕ, ◌<◌}
use native.Mathlib.Omega.{arith}
use lib.IntN.{ℤ}
use lib.ListN.{length}
use lib.Dec.{eqb, ltb}
use borrow.Author.Tests.{eq-eqb, ne_eqb, ltb-true, ltb-false}
use Rattle.layout.specs.Records.{◌!◌}
use Rattle.program.specs.Program.{Program, Version, SET}
use Rattle.machine.specs.Try.{got, stuck, stop, ◌>>=◌, ◌>>◌, stuck_unless}
use Rattle.machine.specs.Steps.{execute, execute_to, alone}
use Rattle.machine.specs.States.{a_vector, integer, items_of, register, vector}
use Rattle.machine.specs.Values.{index}
use Rattle.machine.specs.declared.End.{End}
use Rattle.machine.specs.declared.Value.{Value}
use Rattle.store.specs.Store.{frame_in, state_in, vector_in, cell_in, Live}
use Rattle.store.specs.Acts.{with_item}
use Rattle.store.specs.Counts.{Counted}
use Rattle.store.proofs.Vectors.{vector-at}
use Rattle.store.proofs.Frames.{assign-in, frame-live, register-in, register-out}
use Rattle.store.proofs.Counting.{alone-count, vector-count}

-- a register that holds a vector
pub holds-vector : (b : List ℕ) (n : List ℤ) (k a v : ℕ) → vector (frame_in b n k) a ≡ got v → (a < 16) × (register (frame_in b n k) a ≡ got (Value.Vector v))
unfolding vector ◌>>=◌ a_vector
holds-vector b n k a v e = go (ltb a 16) refl
  where
    by : (u : Value) → a_vector u ≡ got v → u ≡ Value.Vector v
    by Value.Empty q = let z : ◌≡◌ {A = ℕ} 0 1 = cc in absurd (omega arith)
    by (Value.Integer x) q = let z : ◌≡◌ {A = ℕ} 0 1 = cc in absurd (omega arith)
    by (Value.Vector w) q = let z : w ≡ v = cc in ap Value.Vector z
    by (Value.Promise p) q = let z : ◌≡◌ {A = ℕ} 0 1 = cc in absurd (omega arith)

    go : (t : Bool) → ltb a 16 ≡ t → (a < 16) × (register (frame_in b n k) a ≡ got (Value.Vector v))
    go true q = let r = register-in b n k a (ltb-true _ _ q) in (ltb-true _ _ q, r ∙ ap got (by (cell_in b n k a) (rw r at e)))
    go false q = let r = register-out b n k a (ltb-false _ _ q) in let f = rw r at e in let z : ◌≡◌ {A = ℕ} 0 1 = cc in absurd (omega arith)

module _ (P : Program) (W : Version) (b : List ℕ) (n : List ℤ) (counts : List ℕ) (k a i e : ℕ) (L : Live b k) (C : Counted counts (state_in b n)) {v : ℕ}
    (p : vector (frame_in b n k) a ≡ got v) (q : v < 64) where
  alone-is : alone (state_in b n) k a v ≡ stuck_unless (eqb (counts ! v) 1)
  alone-is =
      let h = holds-vector b n k a v p in
      let t = assign-in b n k a Value.Empty L h.0 in
      alone-count (state_in b n) k a v (frame_in b n k) t.0 (frame-live b n k L) h.1 t.1 ∙ ap (λ m. stuck_unless (eqb m 1)) (sym (vector-count counts (state_in b n) C v (omega arith)))

  module _ {z x : ℤ} (r : integer (frame_in b n k) i ≡ got z) (s : integer (frame_in b n k) e ≡ got x) where
    pub shared : (counts ! v ≡ 1 → ⊥) → execute P (state_in b n) k (frame_in b n k) W (SET a i e) ≡ stuck
    unfolding execute_to ◌>>=◌ ◌>>◌ stuck_unless
    shared c = rw (p, vector-at b n _ q, r, s, alone-is, ne_eqb (counts ! v) 1 c) refl

    pub undef : counts ! v ≡ 1 → index z (length (items_of (vector_in b n v))) ≡ stop End.Undef → execute P (state_in b n) k (frame_in b n k) W (SET a i e) ≡ stop End.Undef
    unfolding execute_to ◌>>=◌ ◌>>◌ stuck_unless
    undef c t = rw (p, vector-at b n _ q, r, s, alone-is, eq-eqb (counts ! v) 1 c, t) refl

    pub replaced : {j : ℕ} → counts ! v ≡ 1 → index z (length (items_of (vector_in b n v))) ≡ got j → execute P (state_in b n) k (frame_in b n k) W (SET a i e) ≡ got
        (with_item (state_in b n) v (vector_in b n v) j x)
    unfolding execute_to ◌>>=◌ ◌>>◌ stuck_unless with_item
    replaced c t = rw (p, vector-at b n _ q, r, s, alone-is, eq-eqb (counts ! v) 1 c, t) refl
