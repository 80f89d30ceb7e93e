-- The end of a block spends its step: a call's frame is gone, a force caches its integer, and nothing new is referred to.
use mathlib.Core.Path.{◌≡◌, refl, sym, ap, ◌∙◌}
use mathlib.Core.Logic.{◌≢◌, ◌⊎◌, inl, inr}
use mathlib.Core.List.{List}
use mathlib.Core.Bool.{Bool, true, false, true≢false}
use Prim.Native.Nat.{ℕ, suc, ◌+◌, ◌-◌, ◌≤◌, ◌<◌}
use native.Mathlib.Decide.{ℕ_discrete}
use native.Mathlib.Omega.{arith}
use lib.IntN.{ℤ}
use lib.ListN.{length, get_or, get_elem?, take}
use lib.Seq.{get_or-set_same, get_or-set_other}
use lib.Dec.{eqb, ltb}
use borrow.Author.Tests.{eqb-true, ne_eqb}
use Rattle.layout.specs.Tests.{◌and◌, any}
use Rattle.layout.proofs.Bools.{and_both}
use Rattle.layout.proofs.Lists.{get-some, get_in}
use Rattle.machine.proofs.Tries.{or-stuck}
use Rattle.program.specs.Program.{Instr, Version, Program}
use Rattle.rules.specs.Types.{kind_of, within}
use Rattle.machine.specs.Try.{stuck_unless, at}
use Rattle.machine.specs.States.{an_integer, kind_in, is_promise, refers, held, is_force, live_activations, live_frames, pending, with_stack, with_promise, with_end, assign}
use Rattle.machine.specs.Calls.{closed, done, back, finish}
use Rattle.machine.specs.declared.Activation.{Activation}
use Rattle.machine.specs.declared.Cache.{Cache}
use Rattle.machine.specs.declared.Opener.{Opener}
use Rattle.machine.specs.declared.Promise.{Promise}
use Rattle.machine.specs.declared.State.{State}
use Rattle.machine.specs.declared.Status.{Status}
use Rattle.machine.specs.declared.Value.{Value}
use Rattle.runs.specs.Lives.{numbers}
use Rattle.runs.proofs.Keeps.{Gives, gives_then, gives-next, gives-weaken, test-true, Keeps, assign-keeps}
use Rattle.soundness.proofs.Invariant.{version_at, promise_at, no_promise, no_activation, stack_of}
use Rattle.soundness.proofs.Stacks.{top_of}
use Rattle.soundness.proofs.Ends.{not-running}
use Rattle.bounds.proofs.Calm.{holds, Rests, Known, Either, gives_both, gives_all, assign-either, assign-rests, any-fewer}
use Rattle.bounds.proofs.Potential.{any-less, same_version, owed, Paid, owed_same, Falls, moved-paid}
use Rattle.bounds.proofs.Spending.{left-positive}

-- a force of another promise
other-force : (p q : ℕ) → p ≢ q → is_force p (Opener.Force q) ≡ false
unfolding is_force
other-force p q n = ne_eqb p q n

module _ (P : Program) (price : Version → Instr → ℕ) (G : Version → Bool) (s : State) (h : ℕ) (d : s.depth ≡ suc h) (space : h < length s.activations) where
  -- the activation on top is gone, and nothing else is new
  pub record Popped (t : State) : Type 0 where
    pub frames : (k : ℕ) → numbers (get_elem? t.frames k) ≡ numbers (get_elem? s.frames k)
    pub calls : t.calls ≤ s.calls
    pub activations : t.activations ≡ s.activations
    pub depth : t.depth ≡ s.depth - 1
    pub fewer : (p : ℕ) → holds t p ≡ true → holds s p ≡ true
    pub same : (p : ℕ) → (promise_at t.promises p).cache ≡ Cache.Unforced → promise_at t.promises p ≡ promise_at s.promises p
    pub other : (p : ℕ) → (promise_at t.promises p).cache ≡ Cache.Unforced → is_force p (top_of s h).opener ≡ false

  pub popped-falls : (t : State) (m : ℕ) → Popped t → Paid P price G s m → Falls P price G s t m 1
  unfolding pending live_activations owed stack_of
  popped-falls t m p paid = moved-paid P price G s t m 1 (record { versions = versions; calls = p.calls; fewer = p.fewer; same = p.same; pends = pends }) less paid
    where
      low : t.depth ≡ h
      low = omega (arith, p.depth, d)

      versions : (k : ℕ) → version_at P t.frames k ≡ version_at P s.frames k
      versions k = same_version P s.frames t.frames k (p.frames k)

      pends : (q : ℕ) → (promise_at t.promises q).cache ≡ Cache.Unforced → any (λ (a : Activation). is_force q a.opener) (take s.depth s.activations) ≡ true → any (λ (a : Activation). is_force q a.opener) (take t.depth t.activations) ≡ true
      pends q c e = rw (p.activations, low) (go (any-less (λ (a : Activation). is_force q a.opener) h s.activations (top_of s h) (get-some s.activations h no_activation space) (rw d at e)))
        where
          go : (is_force q (top_of s h).opener ≡ true) ⊎ (any (λ (a : Activation). is_force q a.opener) (take h s.activations) ≡ true) → any (λ (a : Activation). is_force q a.opener) (take h s.activations) ≡ true
          go (inl x) = absurd (true≢false (sym x ∙ p.other q c))
          go (inr x) = x

      less : owed P price t.frames (stack_of t.activations t.depth) + 1 ≤ owed P price s.frames (stack_of s.activations s.depth)
      less = rw (p.activations, low, d) (omega (arith, owed_same P price s.frames t.frames versions (stack_of s.activations h), left-positive P price (version_at P s.frames (top_of s h).frame) (top_of s h).block (top_of s h).next))

  -- ---- the result goes to the activation below

  abbrev Next : ℕ → State → Type 0
  Next m t = t.status ≡ Status.Running → Falls P price G s t m 1

  -- of a call
  module _ (n : ℕ) (few : n ≤ s.calls) (v : Value) (known : Known s v) (is_call : (top_of s h).opener ≡ Opener.Call) where
    abbrev lowered : State
    lowered = with_stack s s.frames n s.activations (s.depth - 1)

    call-popped : (t : State) → Rests lowered t → ((p : ℕ) → Either p lowered v t) → Keeps lowered t → Popped t
    unfolding with_stack held live_frames is_force
    call-popped t r g k = record {
      frames = k.frames;
      calls = omega (arith, k.count);
      activations = r.activations;
      depth = r.depth;
      fewer = λ p e. go p (g p e);
      same = λ p c. ap (λ (ps : List Promise). promise_at ps p) r.promises;
      other = λ p c. rw is_call refl;
    }
      where
        go : (p : ℕ) → (is_promise p v ≡ true) ⊎ (any (refers (is_promise p)) (take n s.frames) ≡ true) → any (refers (is_promise p)) (take s.calls s.frames) ≡ true
        go p (inl e) = known p e
        go p (inr e) = any-fewer (refers (is_promise p)) n s.calls s.frames few e

    pub back-call : (m dst : ℕ) → Paid P price G s m → Gives (Next m) (back s n dst v)
    unfolding back
    back-call m dst p = gives-next _ (stuck_unless (ltb 1 s.depth)) _ (λ _ _. gives_then _ (at s.activations (s.depth - 2)) _ (λ b _.
        gives-weaken _ _ (assign lowered b.frame dst v) (gives_both _ _ (assign lowered b.frame dst v) (gives_both _ _ (assign lowered b.frame dst v) (assign-rests lowered b.frame dst v) (gives_all (λ (q : ℕ). Either q lowered v) (assign lowered b.frame dst v) (λ q. assign-either q lowered b.frame dst v))) (assign-keeps lowered b.frame dst v))
        (λ t g run. popped-falls t m (call-popped t g.0.0 g.0.1 g.1) p)))

  -- of a force
  module _ (x : ℕ) (c : Promise) (z : ℤ) (forced : c.cache ≡ Cache.Forced z) (inside : x < length s.promises) (v : Value) (known : Known s v) (is-force : (top_of s h).opener ≡ Opener.Force x) where
    abbrev cached : State
    cached = with_promise s x c

    abbrev lowered' : State
    lowered' = with_stack cached cached.frames s.calls cached.activations (cached.depth - 1)

    not-unforced : Cache.Forced z ≡ Cache.Unforced → ⊥
    not-unforced e = let q : ◌≡◌ {A = ℕ} 0 1 = cc in omega arith

    force-popped : (t : State) → Rests lowered' t → ((p : ℕ) → Either p lowered' v t) → Keeps lowered' t → Popped t
    unfolding with_stack with_promise held live_frames promise_at
    force-popped t r g k = record {
      frames = k.frames;
      calls = omega (arith, k.count);
      activations = r.activations;
      depth = r.depth;
      fewer = λ p e. go p (g p e);
      same = λ p e. same p (ℕ_discrete p x) e;
      other = λ p e. other p (ℕ_discrete p x) e;
    }
      where
        go : (p : ℕ) → (is_promise p v ≡ true) ⊎ (any (refers (is_promise p)) (take s.calls s.frames) ≡ true) → any (refers (is_promise p)) (take s.calls s.frames) ≡ true
        go p (inl e) = known p e
        go p (inr e) = e

        at_x : get_or t.promises x no_promise ≡ c
        at_x = rw r.promises (get_or-set_same s.promises x c no_promise inside)

        clash : (p : ℕ) → p ≡ x → (get_or t.promises p no_promise).cache ≡ Cache.Unforced → ⊥
        clash p q e = not-unforced (sym forced ∙ ap (λ (y : Promise). y.cache) (sym at_x) ∙ ap (λ (i : ℕ). (get_or t.promises i no_promise).cache) (sym q) ∙ e)

        same : (p : ℕ) → Dec (p ≡ x) → (get_or t.promises p no_promise).cache ≡ Cache.Unforced → get_or t.promises p no_promise ≡ get_or s.promises p no_promise
        same p (yes q) e = absurd (clash p q e)
        same p (no q) e = rw r.promises (get_or-set_other s.promises x p c no_promise q)

        other : (p : ℕ) → Dec (p ≡ x) → (get_or t.promises p no_promise).cache ≡ Cache.Unforced → is_force p (top_of s h).opener ≡ false
        other p (yes q) e = absurd (clash p q e)
        other p (no q) e = rw is-force (other-force p x q)

    pub back-force : (m dst : ℕ) → Paid P price G s m → Gives (Next m) (back cached s.calls dst v)
    unfolding back
    back-force m dst p = gives-next _ (stuck_unless (ltb 1 cached.depth)) _ (λ _ _. gives_then _ (at cached.activations (cached.depth - 2)) _ (λ b _.
        gives-weaken _ _ (assign lowered' b.frame dst v) (gives_both _ _ (assign lowered' b.frame dst v) (gives_both _ _ (assign lowered' b.frame dst v) (assign-rests lowered' b.frame dst v) (gives_all (λ (q : ℕ). Either q lowered' v) (assign lowered' b.frame dst v) (λ q. assign-either q lowered' b.frame dst v))) (assign-keeps lowered' b.frame dst v))
        (λ t g run. popped-falls t m (force-popped t g.0.0 g.0.1 g.1) p)))

  -- ---- DONE

  done_next : (m : ℕ) (v : Value) → Gives (Next m) (done s v)
  unfolding done Gives closed with_end with_stack
  done_next m Value.Empty = tt
  done_next m (Value.Integer z) = λ run. absurd (not-running _ run)
  done_next m (Value.Vector v) = gives_then _ (at s.vectors v) _ (λ w _ run. absurd (not-running _ run))
  done_next m (Value.Promise p) = tt

  -- ---- a block end

  pub finish-next : (m : ℕ) (W : Version) (v : Value) → Known s v → Paid P price G s m → (o : Opener) → (top_of s h).opener ≡ o → Gives (Next m) (finish P s (top_of s h) W v o)
  unfolding finish at
  finish-next m W v known p Opener.Call e = gives_then _ (kind_in P s v) _ (λ k _. gives-next _ (stuck_unless (within k (kind_of W.return))) _ (λ _ _. gives-next _ (stuck_unless (eqb (top_of s h).block 0 and eqb ((top_of s h).frame + 1) s.calls)) _ (λ x q.
      go (eqb s.depth 1) (eqb-true ((top_of s h).frame + 1) s.calls (and_both _ _ (test-true _ x q)).1))))
    where
      go : (b : Bool) → (top_of s h).frame + 1 ≡ s.calls → Gives (Next m) (elim b [ true ↦ done s v | false ↦ back s (top_of s h).frame (top_of s h).d v ])
      go true l = done_next m v
      go false l = back-call (top_of s h).frame (omega arith) v known e m (top_of s h).d p
  finish-next m W v known p (Opener.Force x) e = gives_then _ (an_integer v) _ (λ z _. gives_then _ (at s.promises x) _ (λ q g.
      back-force x (record { frame = q.frame; block = q.block; cache = Cache.Forced z }) z refl (get_in s.promises x no_promise q (or-stuck (get_elem? s.promises x) q g)).0 v known e m (top_of s h).d p))
