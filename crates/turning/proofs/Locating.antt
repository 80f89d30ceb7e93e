-- Where the run of a state in its arrays stands, by what the look-ups answer.
use Rattle.std.specs.Prelude.{None, Some}
use Rattle.loaded.specs.Answers.{BlockAt}
use mathlib.Core.Path.{◌≡◌, refl, sym, ap, ◌∙◌}
use Rattle.loaded.specs.Answers.{Number}
use mathlib.Core.List.{List}
use mathlib.Core.Option.{none, some}
use mathlib.Core.Bool.{Bool, true, false, cond}
use Prim.Native.Nat.{ℕ, zero, suc, ◌+◌, ◌-◌, ◌*◌, ◌/◌, ◌%◌, ◌≤◌, ◌<◌, min}
use mathlib.Core.Logic.{inl}
use native.Mathlib.Decide.{dec_lt}
use native.Mathlib.Omega.{arith}
use lib.IntN.{ℤ}
use lib.ListN.{length, get_elem?, take}
use Rattle.layout.specs.Bounds.{INSTRUCTIONS}
use Rattle.layout.specs.Records.{◌!◌}
use Rattle.layout.proofs.Lists.{get_take, take_none}
use Rattle.program.specs.Program.{Program, find_version}
use Rattle.machine.specs.Allowed.{advance_with}
use Rattle.machine.specs.Steps.{here}
use Rattle.machine.specs.States.{live_activations, live_frames}
use Rattle.machine.specs.Try.{got, stuck, ◌>>=◌, at, or_stuck}
use Rattle.machine.specs.declared.Activation.{Activation}
use Rattle.machine.specs.declared.State.{State}
use Rattle.machine.proofs.Tries.{at_none, at_some}
use Rattle.store.specs.Store.{DEPTH, activation_in, frame_in, state_in, Live}
use Rattle.store.proofs.Frames.{frame-live}
use Rattle.store.proofs.Lists.{get_elem?-up_to, missing-up_to, length-up_to}
use Rattle.frames.specs.Frames.{Lives}
use Rattle.loaded.specs.Answers.{block_of, version_of}
use Rattle.loaded.specs.Loaded.{block_in, count_in, program_in, version_in}
use Rattle.loaded.proofs.Finding.{outside}
use Rattle.loaded.proofs.Lookups.{length-lines}
use Rattle.program.proofs.Held.{find-numbers}
use Rattle.loaded.proofs.Steps.{no-version, no_block}
use Rattle.turning.specs.Standing.{Framed, Here, Located, Spotted, length_in, next_of, top_in}
use Rattle.turning.specs.declared.Spot.{Spot}

-- nothing is found where a step is stuck
abbrev pub lost_spot : ℕ → Spot
lost_spot most = record { frame = 0; block = 0; next = 1; last = 0; most = most }

pub lost-by : (most : ℕ) (s t b : List ℕ) (p : Spot) → p ≡ lost_spot most → ((n : List ℤ) → advance_with most (program_in s t) (state_in b n) ≡ stuck) → Located s t b p × (p.most ≡ most)
lost-by most s t b p e h = rw e (record { lost = λ _. h; here = λ l. absurd (omega arith); next = λ l. absurd (omega arith); none = λ _. refl }, refl)

-- a run that stands nowhere
pub nowhere : (most : ℕ) (P : Program) (u : State) → here P u ≡ stuck → advance_with most P u ≡ stuck
unfolding advance_with ◌>>=◌
nowhere most P u e = rw e refl

module _ (s t b : List ℕ) (n : List ℤ) where
  pub top-there : 0 < b ! DEPTH → b ! DEPTH ≤ 32 → get_elem? (state_in b n).activations ((state_in b n).depth - 1) ≡ some (top_in b)
  unfolding state_in
  top-there d l = get_elem?-up_to (activation_in b) 32 (b ! DEPTH - 1) (omega arith)

  pub at_top : 0 < b ! DEPTH → b ! DEPTH ≤ 32 → at (live_activations (state_in b n)) ((state_in b n).depth - 1) ≡ got (top_in b)
  unfolding live_activations state_in
  at_top d l = at_some _ _ _ (get_take (state_in b n).activations (b ! DEPTH) (b ! DEPTH - 1) (omega arith) ∙ top-there d l)

module _ (most : ℕ) (s t b : List ℕ) (n : List ℤ) where
  -- there is no activation
  no_top : at (live_activations (state_in b n)) (b ! DEPTH - 1) ≡ stuck → here (program_in s t) (state_in b n) ≡ stuck
  unfolding here state_in ◌>>=◌
  no_top e = rw e refl

  pub none_open : b ! DEPTH ≡ 0 → advance_with most (program_in s t) (state_in b n) ≡ stuck
  unfolding live_activations state_in
  none_open e = nowhere most _ _ (no_top (at_none _ _ (take_none (state_in b n).activations (b ! DEPTH) (b ! DEPTH - 1) (omega (arith, e)))))

  pub too_many : 32 < b ! DEPTH → advance_with most (program_in s t) (state_in b n) ≡ stuck
  unfolding live_activations state_in
  too_many h = nowhere most _ _ (no_top (at_none _ _ (get_take (state_in b n).activations (b ! DEPTH) (b ! DEPTH - 1) (omega arith) ∙ missing-up_to (activation_in b) 32 (b ! DEPTH - 1)
      (omega arith))))

  -- its frame is not live
  pub no-frame : 0 < b ! DEPTH → b ! DEPTH ≤ 32 → at (live_frames (state_in b n)) (top_in b).frame ≡ stuck → advance_with most (program_in s t) (state_in b n) ≡ stuck
  unfolding here ◌>>=◌
  no-frame d l e = nowhere most (program_in s t) (state_in b n) (rw (at_top s t b n d l, e) refl)

module _ (most : ℕ) (s t b : List ℕ) (k : ℕ) (a : Activation) (F : Framed b k a) where
  framed_at : (n : List ℤ) → at (live_frames (state_in b n)) (top_in b).frame ≡ got (frame_in b n k)
  framed_at n = ap (at (live_frames (state_in b n))) (sym (ap (λ (x : Activation). x.frame) F.top) ∙ F.frame) ∙ frame-live b n k F.live

  function_of : (n : List ℤ) → (frame_in b n k).function ≡ b ! (32 * k + 24)
  unfolding frame_in
  function_of n = refl

  version_of_lem : (n : List ℤ) → (frame_in b n k).version ≡ b ! (32 * k + 25)
  unfolding frame_in
  version_of_lem n = refl

  abbrev Looked : Number → Type 0
  Looked r = version_of s t r ≡ find_version (program_in s t) (b ! (32 * k + 24)) (b ! (32 * k + 25))

  looked : (r : Number) → Looked r → (n : List ℤ) → version_of s t r ≡ find_version (program_in s t) (frame_in b n k).function (frame_in b n k).version
  looked r v n = rw (function_of n, version_of_lem n) v

  pub lost-version : {r : Number} → Looked r → r ≡ None → (n : List ℤ) → advance_with most (program_in s t) (state_in b n) ≡ stuck
  lost-version v e n = nowhere most _ _ (no-version s t (state_in b n) (top_in b) (frame_in b n k) (at_top s t b n F.deep F.low) (framed_at n) (looked None (rw e at v) n))

  module _ {r : Number} (v : Looked r) (own : ℕ) (e : r ≡ Some own) where
    pub lost-block : {x : BlockAt} → block_of s t x ≡ get_elem? (version_in s t own).blocks a.block → x ≡ None → (n : List ℤ) → advance_with most (program_in s t)
        (state_in b n) ≡ stuck
    lost-block w h n = nowhere most _ _ (no_block s t (state_in b n) (top_in b) (frame_in b n k) (at_top s t b n F.deep F.low) (framed_at n) own (looked (Some own) (rw e at v) n)
        (rw (h, F.top) at w))

    module _ {x : BlockAt} (w : block_of s t x ≡ get_elem? (version_in s t own).blocks a.block) (i : ℕ) (h : x ≡ Some i) where
      pub spotted-by : (n : List ℤ) → Spotted (program_in s t) (state_in b n) k (top_in b) (frame_in b n k) (version_in s t own) (block_in s t i)
      unfolding version_of block_of state_in
      spotted-by n = record {
        top = top-there s t b n F.deep F.low;
        deep = F.deep;
        frame = sym (ap (λ (y : Activation). y.frame) F.top) ∙ F.frame;
        live = frame-live b n k F.live;
        version = sym (looked (Some own) (rw e at v) n);
        block = sym (rw (h, F.top) at w);
      }

      pub stands-there : own < 128 → own ≡ 4 * b ! (32 * k + 24) + b ! (32 * k + 25) → {y m : ℕ} → y ≡ a.next → m ≡ length_in t i → i < 65536 → y < 256 → Located s t b
          (record { frame = k; block = i; next = i + 1 + y; last = i + 1 + m; most = most }) × (most ≡ most)
      stands-there few number y m small byte = (
        record {
          lost = λ z. absurd (omega arith);
          here = λ _ n. record {
            own = own;
            spotted = spotted-by n;
            number = number;
            few = few;
            live = F.live;
            low = F.low;
            first = omega arith;
            near = omega arith;
            last = ap
                (λ j. i + 1 + j) m;
            small = small;
          };
          next = λ _. let z : next_of (record { frame = k; block = i; next = i + 1 + a.next; last = 0; most = 0 }) ≡ a.next = omega arith in ap (λ j. i + 1 + j - (i + 1)) y ∙ z ∙ ap
              (λ (x : Activation). x.next) F.top;
          none = λ z. absurd (omega arith);
        },
        refl,
      )

missed : {A : Type 0} {x : A} → none ≡ some x → ⊥
missed e = let z : ◌≡◌ {A = ℕ} 0 1 = cc in omega arith

-- the number of a version that is found
pub numbered : (s t : List ℕ) (f w own : ℕ) {r : Number} → version_of s t r ≡ find_version (program_in s t) f w → r ≡ Some own → (own < 128) × (own ≡ 4 * f + w)
unfolding version_of version_in
numbered s t f w own x q =
    let v = rw q at x in
    let e = find-numbers (program_in s t) f w (version_in s t own) (sym v) in
    let g : own / 4 ≡ f = e.0 in
    let h : own % 4 ≡ w = e.1 in
    let l : f < 32 = below (dec_lt f 32) in
    (omega arith, omega arith)
  where
    below : Dec (f < 32) → f < 32
    below (yes l) = l
    below (no l) = absurd (missed (sym (outside s t f w (inl (omega arith))) ∙ sym (rw q at x)))

-- how many instructions count
pub counts-as : (s t : List ℕ) (e : ℕ) {m : ℕ} → m ≡ length (block_in s t e).code → m ≡ count_in t e
unfolding block_in
counts-as s t e h = h ∙ length-lines s t (e + 1) (count_in t e)

-- as the code has it in hand
module _ (b : List ℕ) {d k : ℕ} {a : Activation} (r : Bool) (e : d ≡ b ! DEPTH) (o : d ≡ 0 → ⊥) (l : d ≤ 32) (g : a ≡ activation_in b (d - 1)) (h : k ≡ a.frame) (L : Lives r b k) where
  top-is : a ≡ top_in b
  top-is = g ∙ ap (λ x. activation_in b (x - 1)) e

  pub framed-by : r ≡ true → Framed b k a
  unfolding Lives
  framed-by q = record { deep = omega (arith, e, o); low = omega (arith, e, l); top = top-is; frame = sym h; live = rw q at L }

  pub lost-frame : (most : ℕ) (s t : List ℕ) → r ≡ false → (n : List ℤ) → advance_with most (program_in s t) (state_in b n) ≡ stuck
  unfolding Lives
  lost-frame most s t q n = let M : Lives false b k = rw q at L in no-frame most s t b n (omega (arith, e, o)) (omega (arith, e, l))
      (ap (at (live_frames (state_in b n))) (ap (λ (x : Activation). x.frame) (sym top-is) ∙ sym h) ∙ M n)
