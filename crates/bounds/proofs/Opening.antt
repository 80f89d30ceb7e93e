-- What opens an activation spends: a force what is set aside for its promise, a call the bound of the version that it enters.
use mathlib.Core.Path.{◌≡◌, refl, sym, ◌∙◌}
use mathlib.Core.Logic.{◌≢◌, ◌⊎◌, inl, inr}
use mathlib.Core.List.{List, ◌∷◌}
use mathlib.Core.Option.{some}
use mathlib.Core.Bool.{Bool, true, false, true≢false}
use Prim.Native.Nat.{ℕ, ◌+◌, ◌≤◌, ◌<◌}
use native.Mathlib.Decide.{ℕ_discrete}
use native.Mathlib.Numerals.{add-one}
use native.Mathlib.Omega.{arith}
use lib.ListN.{length, get_or, set, take}
use lib.Seq.{get_or-set_same, get_or-set_other}
use Rattle.layout.specs.Tests.{any}
use Rattle.program.specs.Program.{Instr, Version, Program, find_version}
use Rattle.machine.specs.States.{ACTIVATIONS, PROMISES, is_promise, refers, held, is_force, live_activations, live_frames, pending, with_stack}
use Rattle.machine.specs.Calls.{frame_for}
use Rattle.machine.specs.declared.Activation.{Activation}
use Rattle.machine.specs.declared.Cache.{Cache}
use Rattle.machine.specs.declared.Opener.{Opener}
use Rattle.machine.specs.declared.State.{State}
use Rattle.machine.specs.declared.Value.{Value}
use Rattle.runs.proofs.Keeps.{Keeps}
use Rattle.soundness.proofs.Cells.{no_frame, frame_at}
use Rattle.soundness.proofs.Invariant.{Sure, version_at, or_none, promise_at, Heap, stack_of}
use Rattle.soundness.proofs.Stacks.{stack_top}
use Rattle.bounds.proofs.Calm.{holds, Still, any_push}
use Rattle.bounds.proofs.Potential.{any-more, any-new, filled, filled-other, sum-emptied, same_version, AllIn, worth_at, left, owed, Backed, Paid, owed-live}
use Rattle.bounds.proofs.Spending.{Real, real, same-force, left-start, pend-same}

-- the activation a on top of those of s
abbrev pub opening : State → Activation → State
opening s a = with_stack s s.frames s.calls (set s.activations s.depth a) (s.depth + 1)

module _ (s : State) (a : Activation) (room : length s.activations ≡ ACTIVATIONS) (deep : s.depth < ACTIVATIONS) where
  pub opening-stack : stack_of (opening s a).activations (opening s a).depth ≡ a ∷ stack_of s.activations s.depth
  unfolding with_stack
  opening-stack = rw (add-one s.depth) (stack_top s.activations s.depth a (omega arith))

  pub opening-old : (p : ℕ) → pending s p ≡ true → pending (opening s a) p ≡ true
  unfolding with_stack pending live_activations
  opening-old p h = rw (add-one s.depth) (any-more (λ (b : Activation). is_force p b.opener) s.depth s.activations a h)

  pub opening-new : (p : ℕ) → is_force p a.opener ≡ true → pending (opening s a) p ≡ true
  unfolding with_stack pending live_activations
  opening-new p h = rw (add-one s.depth) (any-new (λ (b : Activation). is_force p b.opener) s.depth s.activations a (omega arith) h)

module _ (P : Program) (sure : Sure P) (price : Version → Instr → ℕ) (G : Version → Bool) (s : State) (K : ℕ → ℕ → Bool) (H : Heap P K s.frames s.calls s.promises) (room : length s.activations ≡ ACTIVATIONS) (deep : s.depth < ACTIVATIONS) where
  -- ---- FORCE

  module _ (d p : ℕ) (here : holds s p ≡ true) (unforced : (promise_at s.promises p).cache ≡ Cache.Unforced) (idle : pending s p ≡ false) where
    abbrev forcing : Activation
    forcing = record { opener = Opener.Force p; d = d; frame = (promise_at s.promises p).frame; block = (promise_at s.promises p).block; next = 0 }

    -- enough is set aside for it
    aside : (m : ℕ) (q : Paid P price G s m) → worth_at P price (version_at P s.frames (promise_at s.promises p).frame) (promise_at s.promises p).block ≤ q.purse p
    unfolding Backed
    aside m q = go (q.backed p here unforced)
      where
        go : (pending s p ≡ true) ⊎ (worth_at P price (version_at P s.frames (promise_at s.promises p).frame) (promise_at s.promises p).block ≤ q.purse p) → worth_at P price (version_at P s.frames (promise_at s.promises p).frame) (promise_at s.promises p).block ≤ q.purse p
        go (inl e) = absurd (true≢false (sym e ∙ idle))
        go (inr e) = e

    pub force-paid : (m : ℕ) → Paid P price G s m → Paid P price G (opening s forcing) m
    unfolding with_stack Backed owed held live_frames
    force-paid m q = record {
      purse = filled q.purse p 0;
      backed = λ x e. back x (ℕ_discrete x p) e;
      enough = rw (opening-stack s forcing room deep) (omega (arith, q.enough, aside m q, whole, sum-emptied q.purse p 0 PROMISES (omega arith) (omega (arith, r.place))));
      priced = q.priced;
    }
      where
        r : Real P s.frames s.calls (promise_at s.promises p) p
        r = real P K s H p here

        whole : left P price (version_at P s.frames (promise_at s.promises p).frame) (promise_at s.promises p).block 0 ≡ worth_at P price (version_at P s.frames (promise_at s.promises p).frame) (promise_at s.promises p).block
        whole = left-start P sure price G _ (sure _ _ _ (H.known (promise_at s.promises p).frame r.frame)) (promise_at s.promises p).block r.block

        back : (x : ℕ) → Dec (x ≡ p) → holds s x ≡ true → Backed P price (filled q.purse p 0) s.frames (promise_at s.promises x) (pending (opening s forcing) x) x
        back x (yes e) h = λ c. inl (opening-new s forcing room deep x (rw e (same-force p)))
        back x (no e) h = λ c. go (q.backed x h c)
          where
            go : (pending s x ≡ true) ⊎ (worth_at P price (version_at P s.frames (promise_at s.promises x).frame) (promise_at s.promises x).block ≤ q.purse x)
                → (pending (opening s forcing) x ≡ true) ⊎ (worth_at P price (version_at P s.frames (promise_at s.promises x).frame) (promise_at s.promises x).block ≤ filled q.purse p 0 x)
            go (inl g) = inl (opening-old s forcing room deep x g)
            go (inr g) = inr (rw (filled-other q.purse p 0 x e) g)

  -- ---- CALL and DISPATCH

  module _ (d : ℕ) (X : Version) (known : find_version P X.function X.version ≡ some X) (vs : List Value) (good : G X ≡ true) (all_in : AllIn s.calls (stack_of s.activations s.depth)) where
    abbrev calling : Activation
    calling = record { opener = Opener.Call; d = d; frame = s.calls; block = 0; next = 0 }

    module _ (u : State) (still : Still (opening s calling) u) (keeps : Keeps (opening s calling) u) (space : u.calls < length u.frames) (args : (p : ℕ) → refers (is_promise p) (frame_for X vs) ≡ true → holds s p ≡ true) where
      abbrev entered : State
      entered = with_stack u (set u.frames u.calls (frame_for X vs)) (u.calls + 1) u.activations u.depth

      same-calls : u.calls ≡ s.calls
      unfolding with_stack
      same-calls = keeps.count

      new-version : version_at P (set u.frames u.calls (frame_for X vs)) s.calls ≡ X
      unfolding version_at frame_at frame_for or_none
      new-version =
          let e : get_or (set u.frames u.calls (frame_for X vs)) s.calls no_frame ≡ frame_for X vs = rw (sym same-calls) (get_or-set_same u.frames u.calls (frame_for X vs) no_frame space) in
          rw (e, known) refl

      old-version : (k : ℕ) → k ≢ s.calls → version_at P (set u.frames u.calls (frame_for X vs)) k ≡ version_at P s.frames k
      unfolding version_at frame_at with_stack
      old-version k h =
          let e : get_or (set u.frames u.calls (frame_for X vs)) k no_frame ≡ get_or u.frames k no_frame = get_or-set_other u.frames u.calls k (frame_for X vs) no_frame (λ q. h (q ∙ same-calls)) in
          rw e (same_version P s.frames u.frames k (keeps.frames k))

      -- the new frame's values are the caller's
      referred : (p : ℕ) → holds entered p ≡ true → holds s p ≡ true
      unfolding with_stack held live_frames
      referred p h = go (any_push (refers (is_promise p)) u.calls u.frames (frame_for X vs) space (rw (add-one u.calls) at h))
        where
          go : (refers (is_promise p) (frame_for X vs) ≡ true) ⊎ (any (refers (is_promise p)) (take u.calls u.frames) ≡ true) → any (refers (is_promise p)) (take s.calls s.frames) ≡ true
          go (inl e) = args p e
          go (inr e) = still.fewer p e

      pub enter-paid : (m n : ℕ) → left P price X 0 0 ≤ n → Paid P price G s m → Paid P price G entered (m + n)
      unfolding with_stack owed Backed pending live_activations
      enter-paid m n cost q = record {
        purse = q.purse;
        backed = back;
        enough = rw (still.rests.activations, still.rests.depth, opening-stack s calling room deep, new-version) (omega (arith, q.enough, cost, owed-live P price s.frames (set u.frames u.calls (frame_for X vs)) s.calls (λ k l. old-version k (λ e. absurd (omega arith))) (stack_of s.activations s.depth) all_in));
        priced = λ k l. price-at k (ℕ_discrete k s.calls) (omega (arith, l, same-calls));
      }
        where
          price-at : (k : ℕ) → Dec (k ≡ s.calls) → k < s.calls + 1 → G (version_at P (set u.frames u.calls (frame_for X vs)) k) ≡ true
          price-at k (yes e) l = rw (e, new-version) good
          price-at k (no e) l = rw (old-version k e) (q.priced k (omega arith))

          back : (p : ℕ) → holds entered p ≡ true → Backed P price q.purse (set u.frames u.calls (frame_for X vs)) (promise_at u.promises p) (pending entered p) p
          back p h =
              let r = real P K s H p (referred p h) in
              rw (still.rests.promises, old-version (promise_at s.promises p).frame (λ e. absurd (omega (arith, r.frame)))) (λ c. go (q.backed p (referred p h) c))
            where
              go : (pending s p ≡ true) ⊎ (worth_at P price (version_at P s.frames (promise_at s.promises p).frame) (promise_at s.promises p).block ≤ q.purse p)
                  → (pending entered p ≡ true) ⊎ (worth_at P price (version_at P s.frames (promise_at s.promises p).frame) (promise_at s.promises p).block ≤ q.purse p)
              go (inl g) = inl (pend-same (opening s calling) entered p still.rests.activations still.rests.depth ∙ opening-old s calling room deep p g)
              go (inr g) = inr g
