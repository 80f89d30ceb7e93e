-- A call that ends, by what its parts answered.
use mathlib.Core.Path.{◌≡◌, refl, sym, ap, ◌∙◌}
use mathlib.Core.List.{List}
use mathlib.Core.Bool.{true, false}
use mathlib.Core.Option.{some}
use Prim.Native.Nat.{ℕ, ◌+◌, ◌-◌, ◌*◌, ◌≤◌, ◌<◌}
use native.Mathlib.Omega.{arith}
use lib.IntN.{ℤ}
use lib.ListN.{get_elem?}
use lib.Dec.{eqb}
use borrow.Author.Tests.{eq-eqb, ne_eqb, lt-ltb}
use Rattle.layout.specs.Records.{◌!◌}
use Rattle.layout.specs.Tests.{◌and◌}
use Rattle.layout.proofs.Lists.{get_take, take_none}
use Rattle.program.specs.Program.{Program, Version}
use Rattle.rules.specs.Types.{kind_of, within}
use Rattle.machine.specs.Try.{Try, got, stuck, stop, ◌>>=◌, ◌>>◌, at, or_stuck, stuck_unless}
use Rattle.machine.specs.Calls.{back, done, finish}
use Rattle.machine.specs.States.{assign, full, kind_in, live_frames, register, value, with_stack}
use Rattle.machine.specs.declared.Activation.{Activation}
use Rattle.machine.specs.declared.Frame.{Frame}
use Rattle.machine.specs.declared.Opener.{Opener}
use Rattle.machine.specs.declared.State.{State}
use Rattle.machine.specs.declared.Value.{Value}
use Rattle.store.specs.Lists.{up_to}
use Rattle.store.proofs.Lists.{get_elem?-up_to}
use Rattle.store.specs.Store.{◌#◌, CALLS, DEPTH, activation_in, cell_in, frame_in, state_in, value_of, Live}
use Rattle.store.proofs.Frames.{outside, register-in, register-out}
use Rattle.frames.specs.Frames.{Ending, with_less}
use Rattle.store.specs.declared.Did.{Did}
use Rattle.store.specs.Acts.{Does}
use Rattle.acts.proofs.Answers.{assigned-is}
use Rattle.ending.specs.Ends.{Returning, Working, ended_by, returns_in, top_opener}

-- ---- what stays

-- the cells of arrays that stand for a state with fewer calls and activations
cell_same : (b b₂ : List ℕ) (n : List ℤ) (m : ℕ) → state_in b₂ n ≡ with_less (state_in b n) m → (k r : ℕ) → k < 32 → r < 16 → cell_in b₂ n k r ≡ cell_in b n k r
unfolding with_less with_stack state_in
cell_same b b₂ n m e k r h l =
    let fs = ap (λ (s : State). s.frames) e in
    let x = get_elem?-up_to (frame_in b₂ n) 32 k h in
    let y = get_elem?-up_to (frame_in b n) 32 k h in
    let q : some (frame_in b₂ n k) ≡ some (frame_in b n k) = sym x ∙ ap (λ gs. get_elem? gs k) fs ∙ y in
    let f : frame_in b₂ n k ≡ frame_in b n k = cc in
    let u : got (cell_in b₂ n k r) ≡ got (cell_in b n k r) = sym (register-in b₂ n k r l) ∙ ap (λ (g : Frame). register g r) f ∙ register-in b n k r l in
    cc

module _ (b : List ℕ) (n : List ℤ) (k : ℕ) (K : Returning b k) where
  -- the call that ends
  pub ending-is : Ending b
  ending-is = let a = K.newest in let f = K.few in let l = K.low in let d = K.below in record { calls = omega arith; few = omega arith; depth = omega arith; low = l; opener = K.opener }

  pub live_below : (b₂ : List ℕ) {j : ℕ} → state_in b₂ n ≡ with_less (state_in b n) (b ! CALLS - 1) → j < k → Live b₂ j
  unfolding with_less with_stack state_in
  live_below b₂ e q = let c : b₂ ! CALLS ≡ b ! CALLS - 1 = ap (λ (s : State). s.calls) e in let a = K.newest in let f = K.few in (omega arith, omega arith)

  -- the frame and the register that wait
  module _ {m : ℕ} (x : m ≡ b ! DEPTH) {u : Activation} (g : u ≡ activation_in b (m - 2)) {j : ℕ} (p : j ≡ u.frame) (e d : ℕ) where
    -- what goes back
    abbrev pub back_by : Try State
    back_by = back (state_in b n) k d (cell_in b n k e)

    below-is : at (state_in b n).activations (b ! DEPTH - 2) ≡ got u
    unfolding at or_stuck state_in
    below-is = let l = K.low in let t = K.below in rw (get_elem?-up_to (activation_in b) 32 (b ! DEPTH - 2) (omega arith)) (ap (λ i. got (activation_in b (i - 2))) (sym x) ∙ ap got (sym g))

    goes_back : back_by ≡ assign (with_less (state_in b n) k) j d (cell_in b n k e)
    unfolding back with_less ◌>>◌ ◌>>=◌ stuck_unless state_in
    goes_back = rw (lt-ltb 1 (b ! DEPTH) K.below, below-is, sym p) refl

    pub gone-back : k ≤ j → back_by ≡ stuck
    unfolding assign with_less with_stack live_frames at or_stuck ◌>>=◌
    gone-back q = goes_back ∙ rw (take_none (state_in b n).frames k j q) refl

    module _ (q : j < k) where
      pub full_back : 16 ≤ d → back_by ≡ stuck
      unfolding assign with_less with_stack live_frames at or_stuck ◌>>=◌ state_in
      full_back t = let c = K.few in goes_back ∙ rw (get_take (up_to (frame_in b n) 0 32) k j q, get_elem?-up_to (frame_in b n) 32 j (omega arith), outside b n j d (cell_in b n k e) t) refl

      module _ (b₂ : List ℕ) (s : state_in b₂ n ≡ with_less (state_in b n) (b ! CALLS - 1)) (h : e < 16) where
        back_to : back_by ≡ assign (state_in b₂ n) j d (cell_in b₂ n k e)
        back_to =
            let a = K.newest in
            let c : b ! CALLS - 1 ≡ k = omega arith in
            let y : with_less (state_in b n) k ≡ state_in b₂ n = sym (s ∙ ap (with_less (state_in b n)) c) in
            let v = cell_same b b₂ n (b ! CALLS - 1) s k e K.few h in
            goes_back ∙ (λ t. assign (y t) j d (sym v t))

        module _ (b₃ : List ℕ) (n₃ : List ℤ) (r : Did) (l : d < 16) where
          -- a value that was assigned went back
          pub cell-back : Does r (assign (state_in b₂ n) j d (cell_in b₂ n k e)) b₂ n b₃ n₃ → back_by ≡ got (state_in b₃ n₃)
          cell-back D = back_to ∙ assigned-is b₂ b₃ n n₃ j d (cell_in b₂ n k e) r (live_below b₂ s q) l D

          -- an integer by its tag and its number
          pub integer-back : {z : ℤ} → b₂ ! (32 * k + e) ≡ 1 → z ≡ n # (32 * k + e) → Does r (assign (state_in b₂ n) j d (Value.Integer z)) b₂ n b₃ n₃ → back_by ≡ got (state_in b₃ n₃)
          unfolding cell_in value_of
          integer-back {z = z} t w D =
              let v : cell_in b₂ n k e ≡ Value.Integer z = rw t (ap Value.Integer (sym w)) in
              back_to ∙ ap (assign (state_in b₂ n) j d) v ∙ assigned-is b₂ b₃ n n₃ j d (Value.Integer z) r (live_below b₂ s q) l D

-- ---- the call

module _ (P : Program) (W : Version) (b : List ℕ) (n : List ℤ) (k r : ℕ) where
  -- what the end of the call comes to
  abbrev pub ended : Try State
  ended = ended_by P W b n k r Opener.Call

  -- behind the types
  abbrev tail : Value → Try State
  tail v = stuck_unless (eqb (activation_in b (b ! DEPTH - 1)).block 0 and eqb ((activation_in b (b ! DEPTH - 1)).frame + 1) (state_in b n).calls) >> elim (eqb (state_in b n).depth 1)
      [ true ↦ done (state_in b n) v | false ↦ back (state_in b n) (activation_in b (b ! DEPTH - 1)).frame (activation_in b (b ! DEPTH - 1)).d v ]

  ended_by_lem : ended ≡ (returns_in P W (state_in b n) (frame_in b n k) r >>= λ t. stuck_unless t >> (value (frame_in b n k) r >>= tail))
  unfolding returns_in finish ◌>>=◌
  ended_by_lem = go (value (frame_in b n k) r)
    where
      kind : (v : Value) (o : Try ℕ) → (o >>= λ m. stuck_unless (within m (kind_of W.return)) >> tail v) ≡
          ((o >>= λ m. got (within m (kind_of W.return))) >>= λ t. stuck_unless t >> tail v)
      kind v (got m) = refl
      kind v stuck = refl
      kind v (stop e) = refl

      go : (o : Try Value) → (o >>= λ v. kind_in P (state_in b n) v >>= λ m. stuck_unless (within m (kind_of W.return)) >> tail v) ≡
          ((o >>= λ v. kind_in P (state_in b n) v >>= λ m. got (within m (kind_of W.return))) >>= λ t. stuck_unless t >> (o >>= tail))
      go (got v) = kind v (kind_in P (state_in b n) v)
      go stuck = refl
      go (stop e) = refl

  pub clash-ends : returns_in P W (state_in b n) (frame_in b n k) r ≡ got false → ended ≡ stuck
  unfolding ◌>>=◌ ◌>>◌ stuck_unless
  clash-ends e = ended_by_lem ∙ rw e refl

  pub stuck-ends : returns_in P W (state_in b n) (frame_in b n k) r ≡ stuck → ended ≡ stuck
  unfolding ◌>>=◌
  stuck-ends e = ended_by_lem ∙ rw e refl

  pub out-ends : 16 ≤ r → ended ≡ stuck
  unfolding value ◌>>=◌
  out-ends h = rw (register-out b n k r h) refl

  module _ (T : returns_in P W (state_in b n) (frame_in b n k) r ≡ got true) (h : r < 16) where
    -- what goes back is there
    value-is : value (frame_in b n k) r ≡ got (cell_in b n k r)
    unfolding value returns_in ◌>>=◌ full
    value-is = rw (register-in b n k r h) (go (cell_in b n k r) (rw (register-in b n k r h) at (unfolded T)))
      where
        unfolded : returns_in P W (state_in b n) (frame_in b n k) r ≡ got true →
            (value (frame_in b n k) r >>= λ v. kind_in P (state_in b n) v >>= λ m. got (within m (kind_of W.return))) ≡ got true
        unfolded e = e

        go : (v : Value) → ((full v) >>= λ v. kind_in P (state_in b n) v >>= λ m. got (within m (kind_of W.return))) ≡ got true → full v ≡ got v
        go Value.Empty e = let z : ◌≡◌ {A = ℕ} 0 1 = cc in absurd (omega arith)
        go (Value.Integer x) e = refl
        go (Value.Vector x) e = refl
        go (Value.Promise x) e = refl

    to-tail : ended ≡ tail (cell_in b n k r)
    unfolding ◌>>=◌ ◌>>◌ stuck_unless
    to-tail = ended_by_lem ∙ rw (T, value-is) refl

    module _ (K : Working b k) {m : ℕ} (x : m ≡ b ! DEPTH) {a : Activation} (f : a ≡ activation_in b (m - 1)) where
      top-is : activation_in b (b ! DEPTH - 1) ≡ a
      top-is = ap (λ i. activation_in b (i - 1)) (sym x) ∙ sym f

      frame_is : a.frame ≡ k
      frame_is = ap (λ (a : Activation). a.frame) (sym top-is) ∙ K.frame

      pub block-ends : (a.block ≡ 0 → ⊥) → ended ≡ stuck
      unfolding ◌>>◌ stuck_unless ◌and◌
      block-ends q = to-tail ∙ rw (top-is, ne_eqb a.block 0 q) refl

      module _ (z : a.block ≡ 0) {w : ℕ} (y : w ≡ b ! CALLS) where
        pub newer-ends : (k + 1 ≡ w → ⊥) → ended ≡ stuck
        unfolding ◌>>◌ stuck_unless ◌and◌ state_in
        newer-ends q = to-tail ∙ rw (top-is, frame_is, eq-eqb a.block 0 z, ne_eqb (k + 1) (b ! CALLS) (λ e. q (e ∙ sym y))) refl

        module _ (o : k + 1 ≡ w) where
          -- the lowest activation
          pub last-ends : m ≡ 1 → ended ≡ done (state_in b n) (cell_in b n k r)
          unfolding ◌>>◌ stuck_unless ◌and◌ state_in
          last-ends q = to-tail ∙ rw (top-is, frame_is, eq-eqb a.block 0 z, eq-eqb (k + 1) (b ! CALLS) (o ∙ y), eq-eqb (b ! DEPTH) 1 (sym x ∙ q)) refl

          -- one with a caller
          pub back-ends : (m ≡ 1 → ⊥) → ended ≡ back (state_in b n) k a.d (cell_in b n k r)
          unfolding ◌>>◌ stuck_unless ◌and◌ state_in
          back-ends q =
              to-tail
              ∙ rw (top-is, frame_is, eq-eqb a.block 0 z, eq-eqb (k + 1) (b ! CALLS) (o ∙ y), ne_eqb (b ! DEPTH) 1 (λ e. q (x ∙ e)))
              (λ i. back (state_in b n) (K.frame i) (top-is i).d (cell_in b n k r))

-- the call on top has a caller
pub returning : (b : List ℕ) (k : ℕ) {m w : ℕ} → Working b k → top_opener b ≡ Opener.Call → m ≡ b ! DEPTH → (m ≡ 1 → ⊥) → w ≡ b ! CALLS → k + 1 ≡ w → Returning b k
returning b k K e x q y o = let d = K.depth in let n : b ! DEPTH ≡ 1 → ⊥ = λ z. q (x ∙ z) in record { newest = o ∙ y; few = K.few; below = omega arith; low = K.low; opener = e }
