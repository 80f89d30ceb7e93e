-- Where a running state stands at a PEEK or POKE, no live call is quiet.
use mathlib.Core.Path.{◌≡◌, refl, sym}
use mathlib.Core.Logic.{◌⊎◌, inl, inr}
use mathlib.Core.List.{List, [], ◌∷◌}
use mathlib.Core.Option.{some}
use mathlib.Core.Bool.{Bool, true, false, ◌&&◌, false≢true}
use Prim.Native.Nat.{ℕ, suc, ◌≤◌, ◌<◌}
use native.Mathlib.Decide.{ℕ_discrete}
use native.Mathlib.Omega.{arith}
use lib.ListN.{get_elem?}
use borrow.Author.Tests.{ne_eqb}
use Rattle.program.specs.Program.{Instr, LIT, MOVE, USE, DUP, VEC, LEN, GET, SET, ARITH, SELECT, CAST, NAMED, STORE, PROM, FORCE, PEEK, POKE, CALL, DISPATCH, SKIP, Line, Version, Program, mark_of}
use Rattle.rules.specs.Effects as effect
use Rattle.machine.specs.Try.{got, ◌>>=◌}
use Rattle.machine.specs.Steps.{here, position, position_of}
use Rattle.machine.specs.Runs.{step_of}
use Rattle.machine.specs.declared.Activation.{Activation}
use Rattle.machine.specs.declared.Frame.{Frame}
use Rattle.machine.specs.declared.Opener.{Opener}
use Rattle.machine.specs.declared.State.{State}
use Rattle.machine.specs.declared.Status.{Status}
use Rattle.soundness.specs.Claim.{is_access, at_access, running, counted, reflective, Live, entered, is_quiet}
use Rattle.soundness.proofs.Invariant.{Sure, version_at, block_at, Gets, Opened, below, awaited, Base, Stack, stack_of, Inv}
use Rattle.soundness.proofs.Stacks.{top_of, has-top, at_top, top-live, here-is, position-is, Standing, at-line, at-end, standing}
use Rattle.checker.proofs.Limits.{limited}
use Rattle.soundness.proofs.LiveCalls.{mark-is, live-frame, live-checked}
use Rattle.soundness.proofs.Versions.{covers}
use Rattle.soundness.proofs.Types.{both}

-- ---- marks, going down the stack

-- the mark of the block of an activation
unfoldable pub mark_at : Program → List Frame → Activation → ℕ
mark_at P fs a = (block_at (version_at P fs a.frame) a.block).mark

-- a live frame is that of the activation, whose block is the body, or is live without it
own-or-below : (n f b k : ℕ) (o : Opener) → Opened n f b o → k < n → ((k ≡ f) × (b ≡ 0)) ⊎ (k < below n f o)
unfolding Opened below
own-or-below n f b k Opener.Call h l = go (ℕ_discrete k f)
  where
    go : Dec (k ≡ f) → ((k ≡ f) × (b ≡ 0)) ⊎ (k < f)
    go (yes e) = inl (e, h.1)
    go (no e) = inr (omega (arith, h.0))
own-or-below n f b k (Opener.Force p) h l = inr l

-- the body of every live call has the mark 1 if the block on top has
bodies-marked : (P : Program) (K : ℕ → ℕ → Bool) (fs : List Frame) (rest : List Activation) (a : Activation) (n : ℕ) → 1 ≤ mark_at P fs a
    → Opened n a.frame a.block a.opener → Stack P K fs (awaited P fs a) (below n a.frame a.opener) rest → (k : ℕ) → k < n → 1 ≤ (block_at (version_at P fs k) 0).mark
unfolding Stack Base awaited Gets mark_at
bodies-marked P K fs [] a n m o st k h = go (own-or-below n a.frame a.block k a.opener o h)
  where
    go : ((k ≡ a.frame) × (a.block ≡ 0)) ⊎ (k < below n a.frame a.opener) → 1 ≤ (block_at (version_at P fs k) 0).mark
    go (inl e) = rw e.0 (rw e.1 at m)
    go (inr l) = absurd (omega (arith, st))
bodies-marked P K fs (b ∷ rest) a n m o st k h =
    go (own-or-below n a.frame a.block k a.opener o h)
    (λ l. bodies-marked P K fs rest b (below n a.frame a.opener) (omega (arith, m, st.0.gets.2)) st.1 st.2 k l)
  where
    go : ((k ≡ a.frame) × (a.block ≡ 0)) ⊎ (k < below n a.frame a.opener) → (k < below n a.frame a.opener → 1 ≤ (block_at (version_at P fs k) 0).mark) → 1 ≤ (block_at (version_at P fs k) 0).mark
    go (inl e) ih = rw e.0 (rw e.1 at m)
    go (inr l) ih = ih l

-- ---- question 9 at the top

-- PEEK and POKE are reflective effects
access-reflects : (P : Program) (v : Version) (i : Instr) → is_access i ≡ true → effect.reflective P v i ≡ true
unfolding is_access effect.reflective
access-reflects P v (LIT d i) e = absurd (false≢true e)
access-reflects P v (MOVE d a) e = absurd (false≢true e)
access-reflects P v (USE d a) e = absurd (false≢true e)
access-reflects P v (DUP d a) e = absurd (false≢true e)
access-reflects P v (VEC d rs) e = absurd (false≢true e)
access-reflects P v (LEN d a) e = absurd (false≢true e)
access-reflects P v (GET d a i) e = absurd (false≢true e)
access-reflects P v (SET a i x) e = absurd (false≢true e)
access-reflects P v (ARITH d op a b) e = absurd (false≢true e)
access-reflects P v (SELECT d c a b) e = absurd (false≢true e)
access-reflects P v (CAST d a) e = absurd (false≢true e)
access-reflects P v (NAMED d x) e = absurd (false≢true e)
access-reflects P v (STORE x a) e = absurd (false≢true e)
access-reflects P v (PROM d block) e = absurd (false≢true e)
access-reflects P v (FORCE d a) e = absurd (false≢true e)
access-reflects P v (PEEK d a x) e = refl
access-reflects P v (POKE a x y) e = refl
access-reflects P v (CALL d f w rs) e = absurd (false≢true e)
access-reflects P v (DISPATCH d f mark ret pairs) e = absurd (false≢true e)
access-reflects P v (SKIP a n) e = absurd (false≢true e)

-- what stands at a PEEK or POKE is a line with one
access-line : (ls : List Line) (i : ℕ) → Standing ls i → at_access (got (position ls i)) ≡ true → (l : Line) × (get_elem? ls i ≡ some l) × (is_access l.does ≡ true)
unfolding at_access
access-line ls i (at-line l e p) h = (l, e, rw p at h)
access-line ls i (at-end e n p) h = absurd (false≢true (rw p at h))

-- ---- the law

-- only a running status passes
runs : (st : Status) → running st ≡ true → st ≡ Status.Running
unfolding running
runs Status.Running e = refl
runs (Status.Ended x) e = absurd (false≢true e)

-- a reflective step is one of a run that goes on
pub reflective-runs : (P : Program) (s : State) → reflective P s ≡ true → s.status ≡ Status.Running
unfolding reflective
reflective-runs P s r = runs s.status (both (running s.status) _ (both (running s.status && at_access (here P s >>= λ h. got (position_of h))) (counted (step_of P s).said) r).0).0

module _ (P : Program) (sure : Sure P) (s : State) (inv : Inv P s) (run : s.status ≡ Status.Running) (r : reflective P s ≡ true) where
  -- the state stands at a PEEK or POKE
  at-access : at_access (here P s >>= λ h. got (position_of h)) ≡ true
  unfolding reflective
  at-access = (both (running s.status) _ (both (running s.status && at_access (here P s >>= λ h. got (position_of h))) (counted (step_of P s).said) r).0).1

  -- the block on top has the mark 1
  top-marked : (h : ℕ) → s.depth ≡ suc h → 1 ≤ mark_at P s.frames (top_of s h)
  unfolding mark_at ◌>>=◌
  top-marked h d =
      let a = top_of s h in
      let v = version_at P s.frames a.frame in
      let b = block_at v a.block in
      let t = (at_top P s inv run h d).0 in
      let ck = live-checked P sure s.frames s.calls s.promises inv.heap a.frame (top-live P s inv run h d) in
      let l = access-line b.code a.next (standing b.code a.next t.inside) (rw (here-is P s inv run h d, position-is P sure s inv run h d) at at-access) in
      let m : b.mark ≡ 1 = covers P v ck a.block b a.next l.0 t.does.there l.1 (access-reflects P v l.0.does l.2) in
      omega (arith, m)

  -- so the mark of every live call's version is not 0
  call-marked : (k : ℕ) → k < s.calls → 1 ≤ mark_of (version_at P s.frames k)
  call-marked k l =
      let h = has-top P s inv run in
      let t = at_top P s inv run h.0 h.1 in
      let ck = live-checked P sure s.frames s.calls s.promises inv.heap k l in
      omega (arith, mark-is (version_at P s.frames k) (limited P _ ck).body, bodies-marked P inv.keep s.frames (stack_of s.activations h.0) (top_of s h.0) s.calls (top-marked h.0 h.1) t.1 t.2 k l)

  -- no live call is quiet
  pub none-quiet : (k : ℕ) (f : Frame) → Live s k f → is_quiet (entered P f) ≡ false
  unfolding entered is_quiet
  none-quiet k f e =
      let l = live-frame s k f e in
      rw (sym l.1, inv.heap.known k l.0) (ne_eqb (mark_of (version_at P s.frames k)) 0 (λ z. absurd (omega (arith, call-marked k l.0, z))))
