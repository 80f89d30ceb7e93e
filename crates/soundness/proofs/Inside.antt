-- No begun run points outside itself or its image: the invariant says of every cell and every activation what the claim says.
use mathlib.Core.Path.{◌≡◌, sym, subst, ◌∙◌}
use mathlib.Core.List.{List}
use mathlib.Core.Option.{some}
use mathlib.Core.Bool.{Bool}
use Prim.Native.Nat.{ℕ, zero, suc, ◌+◌, ◌≤◌, ◌<◌}
use native.Mathlib.Decide.{dec_lt}
use native.Mathlib.Omega.{arith}
use lib.ListN.{get_or, get_elem?, length}
use Rattle.layout.specs.Bounds.{REGISTERS}
use Rattle.layout.proofs.Lists.{get_in, get_take, take_none}
use Rattle.program.specs.Program.{Program}
use Rattle.machine.specs.Events.{Run, program_in, after}
use Rattle.machine.specs.States.{live_activations}
use Rattle.machine.specs.declared.Activation.{Activation}
use Rattle.machine.specs.declared.Frame.{Frame}
use Rattle.machine.specs.declared.Opener.{Opener}
use Rattle.machine.specs.declared.State.{State}
use Rattle.machine.specs.declared.Status.{Status}
use Rattle.machine.specs.declared.Value.{Value}
use Rattle.rules.specs.Actions.{Action}
use Rattle.rules.proofs.Prefixes.{Does}
use Rattle.soundness.specs.Claim.{OfType, nothing, of_kind, Live, begun}
use Rattle.soundness.specs.Inside.{There, present, Standing, Inside, NeverOutside}
use Rattle.soundness.specs.Inside as claim
use Rattle.soundness.proofs.Cells.{cell, cell_at, frame_at}
use Rattle.soundness.proofs.Closing.{register-holds, name-holds, of-type, is_live, live-whole, cell-at, live-known}
use Rattle.soundness.proofs.Histories.{Sound, sure-of, after-sound, history-sound, begun-sound}
use Rattle.soundness.proofs.Invariant.{Sure, version_at, block_at, type_at, Pend, top, Opened, below, awaited, Stack, no_activation, stack_of, Inv}
use Rattle.soundness.proofs.Taken.{frame-live}

-- ---- activations

-- where an activation stands, by the places of the invariant
record Placed (P : Program) (fs : List Frame) (n : ℕ) (a : Activation) : Type 0 where
  live : a.frame < n
  action : Action
  does : Does P (version_at P fs a.frame) a.block (block_at (version_at P fs a.frame) a.block) action
  inside : a.next ≤ length (block_at (version_at P fs a.frame) a.block).code

opened-live : (n f b : ℕ) (o : Opener) → Opened n f b o → (f < n) × (below n f o ≤ n)
unfolding Opened below
opened-live n f b Opener.Call h = (omega (arith, h.0), omega (arith, h.0))
opened-live n f b (Opener.Force p) h = (h.0, omega arith)

module _ (P : Program) (K : ℕ → ℕ → Bool) (fs : List Frame) (l : List Activation) (calls : ℕ) where
  stack-placed : (h : ℕ) (pend : Pend) (n : ℕ) → Stack P K fs pend n (stack_of l h) → n ≤ calls → (i : ℕ) → i < h → Placed P fs calls (get_or l i no_activation)
  unfolding Stack stack_of
  stack-placed zero pend n U le i lt = absurd (omega arith)
  stack-placed (suc h) pend n U le i lt = go (dec_lt i h) (λ m. stack-placed h (awaited P fs a) (below n a.frame a.opener) U.2 (omega (arith, le, o.1)) i m)
    where
      a : Activation
      a = get_or l h no_activation

      o : (a.frame < n) × (below n a.frame a.opener ≤ n)
      o = opened-live n a.frame a.block a.opener U.1

      here : Placed P fs calls a
      here = record { live = omega (arith, le, o.0); action = U.0.action; does = U.0.does; inside = U.0.inside }

      go : Dec (i < h) → (i < h → Placed P fs calls (get_or l i no_activation)) → Placed P fs calls (get_or l i no_activation)
      go (yes m) ih = ih m
      go (no m) ih = let e : h ≡ i = omega (arith, lt) in subst (λ (j : ℕ). Placed P fs calls (get_or l j no_activation)) e here

-- ---- a state with the invariant

there : (P : Program) (s : State) (t : ℕ) (v : Value) → OfType P s t v → There P s v
there P s t v nothing = claim.There.nothing
there P s t v (of_kind w k e h) = present w k e

module _ (P : Program) (sure : Sure P) (s : State) (inv : Inv P s) where
  -- what a cell of a live call holds is there
  cell-there : (k c : ℕ) (f : Frame) (v : Value) → Live s k f → cell f c ≡ v → There P s v
  cell-there k c f v l e =
      let h = is_live P sure s inv k f l in
      let x : cell_at s.frames k c ≡ v = sym (cell-at P sure s inv k f l c) ∙ e in
      subst (There P s) x (there P s (type_at P s.frames k c) (cell_at s.frames k c) (of-type P sure s inv k (type_at P s.frames k c) (cell_at s.frames k c) h (inv.heap.typed k c h)))

  placed-stands : (a : Activation) → Placed P s.frames s.calls a → Standing P s a
  placed-stands a p =
      let l = frame-live s inv.heap.sized inv.heap.bound a.frame p.live in
      record {
        frame = frame_at s.frames a.frame;
        version = version_at P s.frames a.frame;
        block = block_at (version_at P s.frames a.frame) a.block;
        live = l;
        found = live-known P sure s inv a.frame (frame_at s.frames a.frame) l;
        has = p.does.there;
        inside = p.inside;
      }

-- of a sound run
inside_of : (r : Run) → Sound r → Inside r
unfolding live_activations
inside_of r o = record {
  registers = λ k i f v l e. cell-there P sure s o.inv k i f v l (register-holds f (live-whole P sure s o.inv k f l) i v e).1;
  names = λ k i f v l e. cell-there P sure s o.inv k (REGISTERS + i) f v l (name-holds f (live-whole P sure s o.inv k f l) i v e);
  activations = λ run i a e. at run i a e (dec_lt i s.depth);
}
  where
    P : Program
    P = program_in r

    s : State
    s = r.state

    sure : Sure P
    sure = sure-of r o

    at : s.status ≡ Status.Running → (i : ℕ) (a : Activation) → get_elem? (live_activations s) i ≡ some a → Dec (i < s.depth) → Standing P s a
    at run i a e (yes h) =
        let x = get_in s.activations i no_activation a (sym (get_take s.activations s.depth i h) ∙ e) in
        placed-stands P sure s o.inv a (subst (Placed P s.frames s.calls) x.1 (stack-placed P o.inv.keep s.frames s.activations s.calls s.depth top s.calls (o.inv.stack run) (omega arith) i h))
    at run i a e (no h) = let q = sym (take_none s.activations s.depth i (omega arith)) ∙ e in let z : ◌≡◌ {A = ℕ} 0 1 = cc in absurd (omega arith)

-- THE LAW: no begun run points outside itself or its image
pub never-outside : NeverOutside
unfolding NeverOutside
never-outside image level f v words buffer h events =
    let r = begun image level f v words buffer in
    let o = begun-sound image level f v words buffer h in
    (inside_of (after events r) (after-sound events r o), λ b m. inside_of b (history-sound events r o b m))
