-- The clauses of `execute` by what their operands are.
use mathlib.Core.Path.{◌≡◌, refl, ap, ◌∙◌}
use mathlib.Core.List.{List}
use Prim.Native.Nat.{ℕ, ◌+◌, ◌*◌, ◌≤◌, ◌<◌}
use native.Mathlib.Omega.{arith}
use lib.IntN.{ℤ, pos}
use lib.ListN.{get_or, length, set}
use borrow.Author.Tests.{eq-eqb, ne_eqb}
use Rattle.layout.specs.Records.{◌!◌}
use Rattle.program.specs.Program.{Program, Version, DUP, FORCE, GET, LEN, USE}
use Rattle.machine.specs.Try.{got, stuck, stop, ◌>>=◌, ◌>>◌, end_unless}
use Rattle.machine.specs.Allowed.{execute_with, free_within}
use Rattle.machine.specs.Steps.{execute, execute_to}
use Rattle.machine.proofs.Within.{dup-within}
use Rattle.machine.specs.States.{assign, integer, items_of, live_frames, promise, vector, with_vector}
use Rattle.machine.specs.Calls.{force, opened}
use Rattle.machine.specs.Values.{index}
use Rattle.machine.specs.declared.Cache.{Cache}
use Rattle.machine.specs.declared.End.{End}
use Rattle.machine.specs.declared.Opener.{Opener}
use Rattle.machine.specs.declared.Promise.{Promise}
use Rattle.machine.specs.declared.State.{State}
use Rattle.machine.specs.declared.Value.{Value}
use Rattle.machine.specs.declared.Vector.{Vector}
use Rattle.store.specs.Store.{CALLS, PLACES, frame_in, promise_in, state_in, value_of, vector_in, Live}
use Rattle.store.specs.Counts.{Counted, Ready}
use Rattle.store.proofs.Counting.{force-count}
use Rattle.store.proofs.Frames.{assign-out, assigned, frame-live, outside}
use Rattle.store.proofs.Puts.{put-place}
use Rattle.acts.proofs.Setting.{holds-vector}
use Rattle.store.proofs.Promises.{promise-at, promise-outside}
use Rattle.store.proofs.Vectors.{vector-at, vector-outside}

-- a vector written leaves the calls
pub vector-calls : (s t : State) (v : ℕ) (w : Vector) → t ≡ with_vector s v w → t.calls ≡ s.calls
unfolding with_vector
vector-calls s t v w e = ap (λ (s : State). s.calls) e

module _ (P : Program) (W : Version) (b : List ℕ) (n : List ℤ) (k d a : ℕ) where
  -- ---- vectors

  -- no such register to take it
  pub use-out : {c : List ℕ} {v : ℕ} → Ready b n c → Live b k → vector (frame_in b n k) a ≡ got v → 16 ≤ d → execute P (state_in b n) k (frame_in b n k) W (USE d a) ≡ stuck
  unfolding execute_to ◌>>=◌ value_of
  use-out {v = v} R L p l =
      let h = (holds-vector b n k a v p).0 in
      let Q = put-place b n k a R.bytes R.numbers (L.0, omega arith) 0 0 in
      let q = Q.bytes CALLS (λ z. omega (arith, L.0)) (λ z. omega (arith, L.0)) in
      rw (p, assigned Q L h) (assign-out (set (set b (32 * k + a) 0) (PLACES + 32 * k + a) 0) n k d (Value.Vector v) (L.0, omega (arith, q, L.1)) l)

  pub use-done : {v : ℕ} {t : State} → vector (frame_in b n k) a ≡ got v → assign (state_in b n) k a Value.Empty ≡ got t → execute P (state_in b n) k (frame_in b n k) W (USE d a) ≡ assign t k d
      (Value.Vector v)
  unfolding execute_to ◌>>=◌
  use-done p q = rw (p, q) refl

  module _ {v : ℕ} (p : vector (frame_in b n k) a ≡ got v) where
    pub len_out : 64 ≤ v → execute P (state_in b n) k (frame_in b n k) W (LEN d a) ≡ stuck
    unfolding execute_to ◌>>=◌
    len_out h = rw (p, vector-outside b n v h) refl

    module _ (h : v < 64) where
      pub len-done : {m : ℕ} → m ≡ length (items_of (vector_in b n v)) → execute P (state_in b n) k (frame_in b n k) W (LEN d a) ≡ assign (state_in b n) k d (Value.Integer (pos m))
      unfolding execute_to ◌>>=◌
      len-done e = rw (p, vector-at b n v h, e) refl

      pub get-done : (i : ℕ) {j : ℕ} {z y : ℤ} → integer (frame_in b n k) i ≡ got z → index z (length (items_of (vector_in b n v))) ≡ got j → y ≡ get_or (items_of (vector_in b n v)) j (pos 0)
          → execute P (state_in b n) k (frame_in b n k) W (GET d a i) ≡ assign (state_in b n) k d (Value.Integer y)
      unfolding execute_to ◌>>=◌
      get-done i r t e = rw (p, vector-at b n v h, r, t, e) refl

  -- ---- a vector for a run that may have `most`

  module _ (most : ℕ) where
    pub dup-stuck : vector (frame_in b n k) a ≡ stuck → execute_with most P (state_in b n) k (frame_in b n k) W (DUP d a) ≡ stuck
    unfolding ◌>>=◌
    dup-stuck p = dup-within most P (state_in b n) k (frame_in b n k) W d a ∙ rw p refl

    module _ {v : ℕ} (p : vector (frame_in b n k) a ≡ got v) where
      pub dup-out : 64 ≤ v → execute_with most P (state_in b n) k (frame_in b n k) W (DUP d a) ≡ stuck
      unfolding ◌>>=◌
      dup-out h = dup-within most P (state_in b n) k (frame_in b n k) W d a ∙ rw (p, vector-outside b n v h) refl

      module _ (h : v < 64) where
        pub dup-none : free_within most (state_in b n) ≡ stop End.Vectors → execute_with most P (state_in b n) k (frame_in b n k) W (DUP d a) ≡ stop End.Vectors
        unfolding ◌>>=◌
        dup-none f = dup-within most P (state_in b n) k (frame_in b n k) W d a ∙ rw (p, vector-at b n v h, f) refl

        pub dup-done : {w : ℕ} {t : State} → free_within most (state_in b n) ≡ got w → t ≡ with_vector (state_in b n) w (vector_in b n v) → execute_with most P (state_in b n) k (frame_in b n k) W
            (DUP d a) ≡ assign t k d (Value.Vector w)
        unfolding ◌>>=◌
        dup-done f e = dup-within most P (state_in b n) k (frame_in b n k) W d a ∙ rw (p, vector-at b n v h, f, e) refl

        pub dup-full : {w : ℕ} → free_within most (state_in b n) ≡ got w → Live b k → 16 ≤ d → execute_with most P (state_in b n) k (frame_in b n k) W (DUP d a) ≡ stuck
        unfolding ◌>>=◌ assign with_vector live_frames
        dup-full {w = w} f L l = dup-within most P (state_in b n) k (frame_in b n k) W d a ∙ rw (p, vector-at b n v h, f, frame-live b n k L, outside b n k d (Value.Vector w) l) refl

  -- ---- forces

  module _ {p : ℕ} (e : promise (frame_in b n k) a ≡ got p) where
    pub force-out : 64 ≤ p → execute P (state_in b n) k (frame_in b n k) W (FORCE d a) ≡ stuck
    unfolding execute_to ◌>>=◌
    force-out h = rw (e, promise-outside b n p h) refl

    module _ (h : p < 64) {q : Promise} (g : q ≡ promise_in b n p) where
      force-at : execute P (state_in b n) k (frame_in b n k) W (FORCE d a) ≡ force (state_in b n) k d p q q.cache
      unfolding execute_to ◌>>=◌
      force-at = rw (e, promise-at b n p h, g) refl

      pub force-cached : {z : ℤ} → q.cache ≡ Cache.Forced z → execute P (state_in b n) k (frame_in b n k) W (FORCE d a) ≡ assign (state_in b n) k d (Value.Integer z)
      unfolding force
      force-cached c = force-at ∙ ap (force (state_in b n) k d p q) c

      module _ (c : List ℕ) (C : Counted c (state_in b n)) (u : q.cache ≡ Cache.Unforced) where
        pub force-pending : (c ! (512 + p) ≡ 0 → ⊥) → execute P (state_in b n) k (frame_in b n k) W (FORCE d a) ≡ stop End.Undef
        unfolding force end_unless ◌>>◌
        force-pending x = force-at ∙ ap (force (state_in b n) k d p q) u ∙ rw (force-count c (state_in b n) C p (omega arith), ne_eqb (c ! (512 + p)) 0 x) refl

        pub force-opens : c ! (512 + p) ≡ 0 → execute P (state_in b n) k (frame_in b n k) W (FORCE d a) ≡ opened (state_in b n)
            (record { opener = Opener.Force p; d = d; frame = q.frame; block = q.block; next = 0 })
        unfolding force end_unless ◌>>◌
        force-opens x = force-at ∙ ap (force (state_in b n) k d p q) u ∙ rw (force-count c (state_in b n) C p (omega arith), eq-eqb (c ! (512 + p)) 0 x) refl
