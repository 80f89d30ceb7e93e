-- A force that ends, by what its parts answered.
use mathlib.Core.Path.{◌≡◌, refl, sym, ap, ◌∙◌}
use mathlib.Core.List.{List}
use mathlib.Core.Bool.{Bool, false}
use mathlib.Core.Option.{some}
use Prim.Native.Nat.{ℕ, ◌-◌, ◌≤◌, ◌<◌}
use native.Mathlib.Omega.{arith}
use lib.IntN.{ℤ}
use lib.ListN.{get_elem?}
use borrow.Author.Tests.{le-ltb, lt-ltb}
use Rattle.layout.specs.Records.{◌!◌}
use Rattle.program.specs.Program.{Program, Version}
use Rattle.machine.specs.Try.{Try, got, stuck, stop, ◌>>=◌, ◌>>◌, at, or_stuck, stuck_unless}
use Rattle.machine.specs.Calls.{back, finish}
use Rattle.machine.specs.States.{an_integer, assign, full, integer, live_frames, register, value, with_promise, with_stack}
use Rattle.machine.specs.declared.Activation.{Activation}
use Rattle.machine.specs.declared.Frame.{Frame}
use Rattle.machine.specs.declared.Opener.{Opener}
use Rattle.machine.specs.declared.State.{State}
use Rattle.machine.specs.declared.Value.{Value}
use Rattle.store.proofs.Lists.{get_elem?-up_to}
use Rattle.store.specs.Store.{CALLS, DEPTH, activation_in, frame_in, promise_in, state_in, Live}
use Rattle.store.specs.Acts.{with_cache}
use Rattle.store.proofs.Frames.{frame-live, outside, register-goes}
use Rattle.store.proofs.Promises.{promise-at, promise-outside}
use Rattle.frames.specs.Frames.{Forcing, Lives, with_less}
use Rattle.ending.specs.Ends.{ended_by}

-- ---- what stays

-- the activations and calls of arrays that stand for a state with something cached
module _ (b b' : List ℕ) (n n' : List ℤ) (p : ℕ) (z : ℤ) (e : state_in b' n' ≡ with_cache (state_in b n) p (promise_in b n p) z) where
  activations-same : (i : ℕ) → i < 32 → activation_in b' i ≡ activation_in b i
  unfolding with_cache with_promise state_in
  activations-same i h =
      let l = ap (λ (s : State). s.activations) e in
      let x = get_elem?-up_to (activation_in b') 32 i h in
      let y = get_elem?-up_to (activation_in b) 32 i h in
      let q : some (activation_in b' i) ≡ some (activation_in b i) = sym x ∙ ap (λ us. get_elem? us i) l ∙ y in
      cc

  depth_same : b' ! DEPTH ≡ b ! DEPTH
  unfolding with_cache with_promise state_in
  depth_same = ap (λ (s : State). s.depth) e

  calls_same : b' ! CALLS ≡ b ! CALLS
  unfolding with_cache with_promise state_in
  calls_same = ap (λ (s : State). s.calls) e

  pub forcing-still : {q : ℕ} → Forcing b q → Forcing b' q
  forcing-still F =
      let a = F.depth in
      let l = F.low in
      let d = depth_same in
      record {
        depth = omega arith;
        low = omega arith;
        opener = ap (λ i. (activation_in b' (i - 1)).opener) d ∙ ap (λ (a : Activation). a.opener)
            (activations-same (b ! DEPTH - 1) (omega arith)) ∙ F.opener;
      }

  pub live-less : (b'' : List ℕ) {k : ℕ} → state_in b'' n' ≡ with_less (state_in b' n') (b' ! CALLS) → Live b k → Live b'' k
  unfolding with_less with_stack state_in
  live-less b'' f L = let g : b'' ! CALLS ≡ b' ! CALLS = ap (λ (s : State). s.calls) f in let h = calls_same in (L.0, omega (arith, L.1, g, h))

-- the register that waits
pub waits : (b : List ℕ) {m : ℕ} {a : Activation} → m ≡ b ! DEPTH → a ≡ activation_in b (m - 1) → a.d ≡ (activation_in b (b ! DEPTH - 1)).d
waits b e f = ap (λ (a : Activation). a.d) f ∙ ap (λ i. (activation_in b (i - 1)).d) e

-- ---- the result

-- an integer is an operand
value-is : (f : Frame) (r : ℕ) (z : ℤ) → integer f r ≡ got z → value f r ≡ got (Value.Integer z)
unfolding integer value ◌>>=◌ an_integer full
value-is f r z e = go (register f r) e
  where
    by : (v : Value) → an_integer v ≡ got z → full v ≡ got (Value.Integer z)
    by Value.Empty q = cc
    by (Value.Integer x) q = let h : x ≡ z = cc in ap (λ y. got (Value.Integer y)) h
    by (Value.Vector x) q = cc
    by (Value.Promise x) q = cc

    go : (o : Try Value) → (o >>= an_integer) ≡ got z → (o >>= full) ≡ got (Value.Integer z)
    go (got v) q = by v q
    go stuck q = cc
    go (stop x) q = cc

module _ (P : Program) (W : Version) (b : List ℕ) (n : List ℤ) (k r p : ℕ) where
  -- what the end of the force comes to
  abbrev pub ended : Try State
  ended = ended_by P W b n k r (Opener.Force p)

  pub none-ends : integer (frame_in b n k) r ≡ stuck → ended ≡ stuck
  unfolding integer value ◌>>=◌ finish an_integer full
  none-ends e = go (register (frame_in b n k) r) refl e
    where
      by : (v : Value) → an_integer v ≡ stuck → (full v >>= λ v. finish P (state_in b n) (activation_in b (b ! DEPTH - 1)) W v (Opener.Force p)) ≡ stuck
      by Value.Empty q = refl
      by (Value.Integer x) q = cc
      by (Value.Vector x) q = refl
      by (Value.Promise x) q = refl

      go : (o : Try Value) → register (frame_in b n k) r ≡ o → (o >>= an_integer) ≡ stuck →
          ((o >>= full) >>= λ v. finish P (state_in b n) (activation_in b (b ! DEPTH - 1)) W v (Opener.Force p)) ≡ stuck
      go (got v) q h = by v h
      go stuck q h = refl
      go (stop x) q h = absurd (register-goes b n k r x q)

  module _ {z : ℤ} (e : integer (frame_in b n k) r ≡ got z) {q : ℕ} (w : q ≡ p) where
    pub out-ends : 64 ≤ q → ended ≡ stuck
    unfolding ◌>>=◌ finish an_integer
    out-ends h = rw (value-is (frame_in b n k) r z e, promise-outside b n p (omega arith)) refl

    module _ (h : q < 64) where
      cached : ended ≡ back (with_cache (state_in b n) p (promise_in b n p) z) (state_in b n).calls (activation_in b (b ! DEPTH - 1)).d (Value.Integer z)
      unfolding ◌>>=◌ finish an_integer with_cache
      cached = rw (value-is (frame_in b n k) r z e, promise-at b n p (omega arith)) refl

      module _ {m : ℕ} (x : m ≡ b ! DEPTH) where
        pub low-ends : m < 2 → ended ≡ stuck
        unfolding back with_cache with_promise stuck_unless ◌>>◌ state_in
        low-ends l = cached ∙ rw (le-ltb 1 (b ! DEPTH) (omega arith)) refl

        module _ (l : 2 ≤ m) (y : b ! DEPTH ≤ 32) {a : Activation} (f : a ≡ activation_in b (m - 2)) {j : ℕ} (g : j ≡ a.frame) where
          below-is : at (state_in b n).activations (b ! DEPTH - 2) ≡ got (activation_in b (m - 2))
          unfolding at or_stuck state_in
          below-is = rw (get_elem?-up_to (activation_in b) 32 (b ! DEPTH - 2) (omega arith)) (ap (λ i. got (activation_in b (i - 2))) (sym x))

          frame-of : (activation_in b (m - 2)).frame ≡ j
          frame-of = ap (λ (a : Activation). a.frame) (sym f) ∙ sym g

          goes_back : ended ≡ assign (with_less (with_cache (state_in b n) p (promise_in b n p) z) (b ! CALLS)) j (activation_in b (b ! DEPTH - 1)).d (Value.Integer z)
          unfolding back with_cache with_promise with_less stuck_unless ◌>>◌ ◌>>=◌ state_in
          goes_back = cached ∙ rw (lt-ltb 1 (b ! DEPTH) (omega arith), below-is, frame-of) refl

          pub gone-ends : (t : Bool) → Lives t b j → t ≡ false → ended ≡ stuck
          unfolding Lives assign with_less with_stack with_cache with_promise live_frames ◌>>=◌ state_in
          gone-ends t L q = let M = rw q at L in goes_back ∙ rw (M n) refl

          pub full-ends : Live b j → {d : ℕ} → d ≡ (activation_in b (b ! DEPTH - 1)).d → 16 ≤ d → ended ≡ stuck
          unfolding assign with_less with_stack with_cache with_promise live_frames ◌>>=◌ state_in
          full-ends L q u = goes_back ∙ rw (frame-live b n j L, sym q, outside b n j _ (Value.Integer z) u) refl

          pub done-ends : (b₁ b₂ : List ℕ) (n₁ : List ℤ) {d : ℕ} → state_in b₁ n₁ ≡ with_cache (state_in b n) q (promise_in b n q) z → state_in b₂ n₁ ≡ with_less (state_in b₁ n₁) (b₁ ! CALLS)
              → d ≡ (activation_in b (b ! DEPTH - 1)).d → ended ≡ assign (state_in b₂ n₁) j d (Value.Integer z)
          done-ends b₁ b₂ n₁ u v o =
              let c = calls_same b b₁ n n₁ q z u in
              let s : with_less (with_cache (state_in b n) p (promise_in b n p) z) (b ! CALLS) ≡ state_in b₂ n₁ = sym
              (v ∙ (λ t. with_less (u t) (c t)) ∙ ap (λ i. with_less (with_cache (state_in b n) i (promise_in b n i) z) (b ! CALLS)) w) in
              goes_back ∙ (λ t. assign (s t) j (sym o t) (Value.Integer z))
