-- The activations of a state as a stack, where a running state stands, and what stands at a place of a block.
use mathlib.Core.Path.{◌≡◌, refl, ap, ◌∙◌}
use mathlib.Core.List.{List, [], ◌∷◌}
use mathlib.Core.Option.{none, some}
use Prim.Native.Nat.{ℕ, zero, suc, ◌-◌, ◌≤◌, ◌<◌}
use native.Mathlib.Nat.{le_of_suc-le-suc, not-suc-le-zero}
use native.Mathlib.Omega.{arith}
use lib.ListN.{length, get_or, get_elem?, set, take}
use lib.Seq.{take_all}
use Rattle.layout.specs.Bounds.{INSTRUCTIONS}
use Rattle.layout.proofs.Lists.{get-some, get_take}
use Rattle.machine.proofs.Tries.{at_some}
use lib.Seq.{get_or-set_same, get_or-set_other}
use Rattle.program.specs.Program.{Line, Program}
use Rattle.machine.specs.Try.{got, ◌>>=◌, or_stuck, at}
use Rattle.machine.specs.States.{live_activations}
use Rattle.machine.specs.Steps.{Here, here, instruction, block_end, position, position_of, proceed, advance, advance_to}
use Rattle.machine.specs.declared.Activation.{Activation}
use Rattle.machine.specs.declared.Opener.{Opener}
use Rattle.machine.specs.declared.State.{State}
use Rattle.machine.specs.declared.Status.{Status}
use Rattle.soundness.proofs.Cells.{frame_at, frame_is}
use Rattle.checker.proofs.Limits.{code-few}
use Rattle.soundness.proofs.Invariant.{Sure, version_at, block_at, top, Stands, Opened, below, awaited, Base, Stack, no_activation, stack_of, Inv}

-- ---- stacks

-- what is put at or above the height is not in the stack
pub stack_set : (l : List Activation) (i h : ℕ) (a : Activation) → h ≤ i → stack_of (set l i a) h ≡ stack_of l h
unfolding stack_of
stack_set l i zero a e = refl
stack_set l i (suc h) a e = rw (get_or-set_other l i h a no_activation (λ z. absurd (omega arith)), stack_set l i h a (omega arith)) refl

-- a new top, or the old one changed
pub stack_top : (l : List Activation) (h : ℕ) (a : Activation) → h < length l → stack_of (set l h a) (suc h) ≡ a ∷ stack_of l h
unfolding stack_of
stack_top l h a e = rw (get_or-set_same l h a no_activation e, stack_set l h h a (omega arith)) refl

-- an activation works in a live frame
pub opened-live : (n f b : ℕ) (o : Opener) → Opened n f b o → f < n
unfolding Opened
opened-live n f b Opener.Call h = omega (arith, h.0)
opened-live n f b (Opener.Force p) h = h.0

-- no more frames are live without it
pub below-le : (n f b : ℕ) (o : Opener) → Opened n f b o → below n f o ≤ n
unfolding Opened below
below-le n f b Opener.Call h = omega (arith, h.0)
below-le n f b (Opener.Force p) h = omega arith

-- ---- where a running state stands

-- a running state has an activation
pub has-top : (P : Program) (s : State) → Inv P s → s.status ≡ Status.Running → (h : ℕ) × (s.depth ≡ suc h)
unfolding Stack Base stack_of
has-top P s inv run = go s.depth refl (inv.stack run)
  where
    go : (d : ℕ) → s.depth ≡ d → Stack P inv.keep s.frames top s.calls (stack_of s.activations d) → (h : ℕ) × (s.depth ≡ suc h)
    go zero e st = absurd st
    go (suc h) e st = (h, e)

-- the activation on top of h others
abbrev pub top_of : State → ℕ → Activation
top_of s h = get_or s.activations h no_activation

-- its place
abbrev pub here_of : Program → State → ℕ → Here
here_of P s h = record {
  activation = top_of s h;
  frame = frame_at s.frames (top_of s h).frame;
  version = version_at P s.frames (top_of s h).frame;
  block = block_at (version_at P s.frames (top_of s h).frame) (top_of s h).block;
}

module _ (P : Program) (s : State) (inv : Inv P s) (run : s.status ≡ Status.Running) (h : ℕ) (d : s.depth ≡ suc h) where
  -- what holds of the activation on top, and of those below it
  pub at_top : Stands P inv.keep s.frames top (top_of s h).frame (top_of s h).block (top_of s h).next × Opened s.calls (top_of s h).frame (top_of s h).block (top_of s h).opener × Stack P inv.keep s.frames (awaited P s.frames (top_of s h)) (below s.calls (top_of s h).frame (top_of s h).opener) (stack_of s.activations h)
  unfolding Stack stack_of
  at_top = rw d at (inv.stack run)

  -- its frame is live
  pub top-live : (top_of s h).frame < s.calls
  top-live = opened-live s.calls (top_of s h).frame (top_of s h).block (top_of s h).opener at_top.1

  -- the activation on top is found
  top-is : at (live_activations s) (s.depth - 1) ≡ got (top_of s h)
  unfolding live_activations
  top-is =
      let m : s.depth - 1 ≡ h = omega (arith, d) in
      at_some (take s.depth s.activations) (s.depth - 1) (top_of s h)
      (ap (get_elem? (take s.depth s.activations)) m ∙ get_take s.activations s.depth h (omega (arith, d)) ∙ get-some s.activations h no_activation (omega (arith, d, inv.room, inv.deep)))

  -- with its frame, version and block
  pub here-is : here P s ≡ got (here_of P s h)
  unfolding here ◌>>=◌ or_stuck
  here-is = rw (top-is, frame_is s inv.heap.sized (top_of s h).frame top-live inv.heap.bound, inv.heap.known (top_of s h).frame top-live, at_some _ (top_of s h).block _ at_top.0.does.there) refl

  -- so the step proceeds from there
  pub advance-is : advance P s ≡ proceed P s (here_of P s h) (position_of (here_of P s h))
  unfolding advance_to ◌>>=◌
  advance-is = rw here-is refl

-- ---- positions

-- a checked block is looked at whole
pub position-is : (P : Program) → Sure P → (s : State) (inv : Inv P s) (run : s.status ≡ Status.Running) (h : ℕ) (d : s.depth ≡ suc h)
    → position_of (here_of P s h) ≡ position (block_at (version_at P s.frames (top_of s h).frame) (top_of s h).block).code (top_of s h).next
unfolding position_of
position-is P sure s inv run h d =
    let c = (block_at (version_at P s.frames (top_of s h).frame) (top_of s h).block).code in
    ap (λ (l : List Line). position l (top_of s h).next) (take_all INSTRUCTIONS c (code-few P _ (sure _ _ _ (inv.heap.known (top_of s h).frame (top-live P s inv run h d))) (top_of s h).block _ (at_top P s inv run h d).0.does.there))

-- where a line stands is its instruction
pub position_at : (ls : List Line) (i : ℕ) (l : Line) → get_elem? ls i ≡ some l → position ls i ≡ instruction l.does
unfolding position
position_at [] i l e = let z : ◌≡◌ {A = ℕ} 0 1 = cc in absurd (omega arith)
position_at (x ∷ ls) zero l e = let y : x ≡ l = cc in ap (λ (z : Line). instruction z.does) y
position_at (x ∷ ls) (suc i) l e = position_at ls i l e

-- behind the last line is the block end
pub position-end : (ls : List Line) (i : ℕ) → i ≡ length ls → position ls i ≡ block_end
unfolding position
position-end [] zero e = refl
position-end [] (suc i) e = absurd (omega (arith, e))
position-end (x ∷ ls) zero e = absurd (omega (arith, e))
position-end (x ∷ ls) (suc i) e = position-end ls i (omega (arith, e))

-- the place i of a block: an instruction, or its end
pub data Standing (ls : List Line) (i : ℕ) : Type 0 where
  at-line : (l : Line) → get_elem? ls i ≡ some l → position ls i ≡ instruction l.does → Standing ls i
  at-end : i ≡ length ls → get_elem? ls i ≡ none → position ls i ≡ block_end → Standing ls i

-- a place that is not outside is one or the other
pub standing : (ls : List Line) (i : ℕ) → i ≤ length ls → Standing ls i
unfolding position
standing [] zero h = at-end refl refl refl
standing [] (suc i) h = absurd (not-suc-le-zero h)
standing (x ∷ ls) zero h = at-line x refl refl
standing (x ∷ ls) (suc i) h = go (standing ls i (le_of_suc-le-suc h))
  where
    go : Standing ls i → Standing (x ∷ ls) (suc i)
    go (at-line l e p) = at-line l e p
    go (at-end e n p) = at-end (ap suc e) n p
