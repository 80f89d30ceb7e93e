-- MOVE, CAST, PROM, PEEK and POKE, by what their operands are.
use mathlib.Core.Path.{◌≡◌, refl, sym, ap, ◌∙◌}
use mathlib.Core.List.{List, []}
use mathlib.Core.Bool.{Bool, true, false}
use Prim.Native.Nat.{ℕ, ◌≤◌, ◌<◌}
use native.Mathlib.Omega.{arith}
use lib.IntN.{ℤ}
use lib.ListN.{length}
use Rattle.layout.proofs.Lists.{get_none}
use Rattle.program.specs.Program.{Program, Version, Block, CAST, MOVE, PEEK, POKE, PROM}
use Rattle.rules.specs.Types.{kind_of, within}
use Rattle.machine.specs.Try.{Try, got, stuck, stop, ◌>>=◌, ◌>>◌, at, end_unless, stuck_unless}
use Rattle.machine.specs.Steps.{execute, execute_to}
use Rattle.machine.specs.States.{assign, free_promise, kind_in, live_frames, name, no_promise, plain, promise, register, store, value, with_promise}
use Rattle.machine.proofs.Tries.{at_in, at_none}
use Rattle.machine.specs.declared.End.{End}
use Rattle.machine.specs.declared.Promise.{Promise}
use Rattle.machine.specs.declared.State.{State}
use Rattle.machine.specs.declared.Value.{Value}
use Rattle.store.specs.Store.{frame_in, promise_in, state_in, Live}
use Rattle.store.specs.Acts.{assign_try, with_delay}
use Rattle.store.proofs.Frames.{frame-live, outside, register-goes}
use Rattle.store.proofs.Promises.{promise-at, promise-outside}
use Rattle.frames.specs.Frames.{Lives}
use Rattle.acts.specs.Typed.{typed_in}

-- ---- MOVE and CAST

module _ (P : Program) (W : Version) (b : List ℕ) (n : List ℤ) (k d a : ℕ) where
  pub move-by : execute P (state_in b n) k (frame_in b n k) W (MOVE d a) ≡
      (typed_in P W (state_in b n) (frame_in b n k) d a >>= λ t. stuck_unless t >> assign_try (state_in b n) k d (value (frame_in b n k) a))
  unfolding execute_to typed_in ◌>>=◌
  move-by = go (value (frame_in b n k) a)
    where
      last : (v : Value) (m : ℕ) (o : Try ℕ) → (o >>= λ t. stuck_unless (within m (kind_of t)) >> assign (state_in b n) k d v) ≡
          ((o >>= λ t. got (within m (kind_of t))) >>= λ t. stuck_unless t >> assign (state_in b n) k d v)
      last v m (got t) = refl
      last v m stuck = refl
      last v m (stop e) = refl

      kind : (v : Value) (o : Try ℕ) → (o >>= λ m. at W.types d >>= λ t. stuck_unless (within m (kind_of t)) >> assign (state_in b n) k d v) ≡
          ((o >>= λ m. at W.types d >>= λ t. got (within m (kind_of t))) >>= λ t. stuck_unless t >> assign (state_in b n) k d v)
      kind v (got m) = last v m (at W.types d)
      kind v stuck = refl
      kind v (stop e) = refl

      go : (o : Try Value) → (o >>= λ v. kind_in P (state_in b n) v >>= λ m. at W.types d >>= λ t. stuck_unless (within m (kind_of t)) >> assign (state_in b n) k d v) ≡
          ((o >>= λ v. kind_in P (state_in b n) v >>= λ m. at W.types d >>= λ t. got (within m (kind_of t))) >>= λ t. stuck_unless t >> (o >>= assign (state_in b n) k d))
      go (got v) = kind v (kind_in P (state_in b n) v)
      go stuck = refl
      go (stop e) = refl

  pub cast-by : execute P (state_in b n) k (frame_in b n k) W (CAST d a) ≡
      (typed_in P W (state_in b n) (frame_in b n k) d a >>= λ t. end_unless End.Undef t >> assign_try (state_in b n) k d (value (frame_in b n k) a))
  unfolding execute_to typed_in ◌>>=◌
  cast-by = go (value (frame_in b n k) a)
    where
      last : (v : Value) (m : ℕ) (o : Try ℕ) → (o >>= λ t. end_unless End.Undef (within m (kind_of t)) >> assign (state_in b n) k d v) ≡
          ((o >>= λ t. got (within m (kind_of t))) >>= λ t. end_unless End.Undef t >> assign (state_in b n) k d v)
      last v m (got t) = refl
      last v m stuck = refl
      last v m (stop e) = refl

      kind : (v : Value) (o : Try ℕ) → (o >>= λ m. at W.types d >>= λ t. end_unless End.Undef (within m (kind_of t)) >> assign (state_in b n) k d v) ≡
          ((o >>= λ m. at W.types d >>= λ t. got (within m (kind_of t))) >>= λ t. end_unless End.Undef t >> assign (state_in b n) k d v)
      kind v (got m) = last v m (at W.types d)
      kind v stuck = refl
      kind v (stop e) = refl

      go : (o : Try Value) → (o >>= λ v. kind_in P (state_in b n) v >>= λ m. at W.types d >>= λ t. end_unless End.Undef (within m (kind_of t)) >> assign (state_in b n) k d v) ≡
          ((o >>= λ v. kind_in P (state_in b n) v >>= λ m. at W.types d >>= λ t. got (within m (kind_of t))) >>= λ t. end_unless End.Undef t >> (o >>= assign (state_in b n) k d))
      go (got v) = kind v (kind_in P (state_in b n) v)
      go stuck = refl
      go (stop e) = refl

-- ---- PROM

-- a block, to look one up by
nothing : Block
nothing = record { at = 0; mark = 0; result = 0; code = [] }

module _ (P : Program) (W : Version) (b : List ℕ) (n : List ℤ) (k d l : ℕ) {m : ℕ} (e : length W.blocks ≡ m) where
  pub prom-out : m ≤ l → execute P (state_in b n) k (frame_in b n k) W (PROM d l) ≡ stuck
  unfolding execute_to ◌>>◌
  prom-out h = rw (at_none W.blocks l (get_none W.blocks l (omega arith))) refl

  module _ (h : l < m) where
    pub prom-none : free_promise (state_in b n) ≡ stop End.Promises → execute P (state_in b n) k (frame_in b n k) W (PROM d l) ≡ stop End.Promises
    unfolding execute_to ◌>>◌ ◌>>=◌
    prom-none f = rw (at_in W.blocks l nothing (omega arith), f) refl

    pub prom-full : {p : ℕ} → free_promise (state_in b n) ≡ got p → Live b k → 16 ≤ d → execute P (state_in b n) k (frame_in b n k) W (PROM d l) ≡ stuck
    unfolding execute_to ◌>>◌ ◌>>=◌ assign with_promise live_frames
    prom-full {p = p} f L g = rw (at_in W.blocks l nothing (omega arith), f, frame-live b n k L, outside b n k d (Value.Promise p) g) refl

    pub prom-done : {p : ℕ} {t : State} → free_promise (state_in b n) ≡ got p → t ≡ with_delay (state_in b n) p k l → execute P (state_in b n) k (frame_in b n k) W (PROM d l) ≡ assign t k d
        (Value.Promise p)
    unfolding execute_to ◌>>◌ ◌>>=◌ with_delay
    prom-done f g = rw (at_in W.blocks l nothing (omega arith), f, g) refl

pub delay-calls : (s t : State) (p k l : ℕ) → t ≡ with_delay s p k l → t.calls ≡ s.calls
unfolding with_delay with_promise
delay-calls s t p k l e = ap (λ (s : State). s.calls) e

-- ---- PEEK and POKE

-- no operand that is stored ends a run
plain-goes : (b : List ℕ) (n : List ℤ) (k r : ℕ) (e : End) → plain (frame_in b n k) r ≡ stop e → ⊥
unfolding plain ◌>>=◌ no_promise
plain-goes b n k r e h = go (register (frame_in b n k) r) refl h
  where
    by : (v : Value) → no_promise v ≡ stop e → ⊥
    by Value.Empty q = let z : ◌≡◌ {A = ℕ} 0 1 = cc in omega arith
    by (Value.Integer x) q = let z : ◌≡◌ {A = ℕ} 0 1 = cc in omega arith
    by (Value.Vector x) q = let z : ◌≡◌ {A = ℕ} 0 1 = cc in omega arith
    by (Value.Promise x) q = let z : ◌≡◌ {A = ℕ} 0 1 = cc in omega arith

    go : (o : Try Value) → register (frame_in b n k) r ≡ o → (o >>= no_promise) ≡ stop e → ⊥
    go (got v) q h = by v h
    go stuck q h = let z : ◌≡◌ {A = ℕ} 0 1 = cc in omega arith
    go (stop x) q h = register-goes b n k r x q

module _ (P : Program) (W : Version) (b : List ℕ) (n : List ℤ) (k a x : ℕ) {p : ℕ} (e : promise (frame_in b n k) a ≡ got p) where
  pub peek-out : (d : ℕ) → 64 ≤ p → execute P (state_in b n) k (frame_in b n k) W (PEEK d a x) ≡ stuck
  unfolding execute_to ◌>>=◌
  peek-out d h = rw (e, promise-outside b n p h) refl

  pub poke-out : (r : ℕ) → 64 ≤ p → execute P (state_in b n) k (frame_in b n k) W (POKE a x r) ≡ stuck
  unfolding execute_to ◌>>=◌
  poke-out r h = rw (e, promise-outside b n p h) refl

  module _ (h : p < 64) {q : Promise} (g : q ≡ promise_in b n p) {j : ℕ} (w : j ≡ q.frame) (t : Bool) (L : Lives t b j) where
    frame_is : (promise_in b n p).frame ≡ j
    frame_is = ap (λ (q : Promise). q.frame) (sym g) ∙ sym w

    pub peek-gone : (d : ℕ) → t ≡ false → execute P (state_in b n) k (frame_in b n k) W (PEEK d a x) ≡ stuck
    unfolding execute_to ◌>>=◌ Lives
    peek-gone d f = let M = rw f at L in rw (e, promise-at b n p h, frame_is, M n) refl

    pub peek-done : (d : ℕ) → t ≡ true → execute P (state_in b n) k (frame_in b n k) W (PEEK d a x) ≡ (name (frame_in b n j) x >>= assign (state_in b n) k d)
    unfolding execute_to ◌>>=◌ Lives
    peek-done d f = let M = rw f at L in rw (e, promise-at b n p h, frame_is, frame-live b n j M) refl

    pub poke-done : (r : ℕ) → execute P (state_in b n) k (frame_in b n k) W (POKE a x r) ≡ (plain (frame_in b n k) r >>= store (state_in b n) j x)
    unfolding execute_to ◌>>=◌
    poke-done r = rw (e, promise-at b n p h, frame_is) refl

    pub poke-gone : (r : ℕ) → t ≡ false → execute P (state_in b n) k (frame_in b n k) W (POKE a x r) ≡ stuck
    unfolding Lives ◌>>=◌ store
    poke-gone r f = let M = rw f at L in poke-done r ∙ go (M n) (plain (frame_in b n k) r) refl
      where
        go : at (live_frames (state_in b n)) j ≡ stuck → (o : Try Value) → plain (frame_in b n k) r ≡ o → (o >>= store (state_in b n) j x) ≡ stuck
        go m (got v) c = rw m refl
        go m stuck c = refl
        go m (stop y) c = absurd (plain-goes b n k r y c)

pub live-from : (t : Bool) (b : List ℕ) (j : ℕ) → Lives t b j → t ≡ true → Live b j
unfolding Lives
live-from t b j L e = rw e at L
