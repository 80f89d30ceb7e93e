-- One step of a running state keeps the invariant and is not stuck.
use mathlib.Core.Path.{◌≡◌, refl, ◌∙◌}
use mathlib.Core.List.{List}
use mathlib.Core.Option.{some}
use Prim.Native.Nat.{ℕ, suc, ◌-◌, zero}
use native.Mathlib.Omega.{arith}
use lib.ListN.{get_elem?, length-set}
use Rattle.program.specs.Program.{Instr, LIT, MOVE, USE, DUP, VEC, LEN, GET, SET, ARITH, SELECT, CAST, NAMED, STORE, PROM, FORCE, PEEK, POKE, CALL, DISPATCH, SKIP, Line, Program}
use Rattle.machine.specs.States.{with_stack}
use Rattle.machine.specs.Calls.{passed}
use Rattle.machine.specs.Steps.{position, proceed, proceed_to}
use Rattle.machine.specs.declared.Activation.{Activation}
use Rattle.machine.specs.declared.State.{State}
use Rattle.machine.specs.declared.Status.{Status}
use Rattle.soundness.proofs.Invariant.{Sure, version_at, block_at, stack_of, Inv, Opened, below, awaited, Base, Stack, top}
use Rattle.soundness.proofs.Progress.{Good}
use Rattle.soundness.proofs.Stacks.{top_of, here_of, has-top, at_top, advance-is, position-is, stack_top, Standing, at-line, at-end, standing}
use Rattle.soundness.proofs.Standing.{At}
use Rattle.soundness.proofs.Plain.{Stepped, lit, move, len, get, arith-step, select, cast}
use Rattle.soundness.proofs.Variables.{named_step, store_step, peek, poke}
use Rattle.soundness.proofs.Vectors.{dup, vec, set-step}
use Rattle.soundness.proofs.Uses.{use-step}
use Rattle.soundness.proofs.Promises.{prom, force-step}
use Rattle.soundness.proofs.Skips.{skip_step}
use Rattle.soundness.proofs.Calling.{call_step, dispatch-step}
use Rattle.soundness.proofs.Ends.{end-ok}
use Rattle.soundness.proofs.Closing.{StepSafe}
use Rattle.machine.specs.declared.Opener.{Opener}

-- every instruction, by its kind
executes : (P : Program) (sure : Sure P) (s : State) (a : Activation) (rest : List Activation) (l : Line) (W : At P s a rest l) (i : Instr) → l.does ≡ i → Stepped P sure s a rest l W i
executes P sure s a rest l W (LIT d z) is = lit P sure s a rest l W d z is
executes P sure s a rest l W (MOVE d r) is = move P sure s a rest l W d r is
executes P sure s a rest l W (USE d r) is = use-step P sure s a rest l W d r is
executes P sure s a rest l W (DUP d r) is = dup P sure s a rest l W d r is
executes P sure s a rest l W (VEC d rs) is = vec P sure s a rest l W d rs is
executes P sure s a rest l W (LEN d r) is = len P sure s a rest l W d r is
executes P sure s a rest l W (GET d r j) is = get P sure s a rest l W d r j is
executes P sure s a rest l W (SET r j e) is = set-step P sure s a rest l W r j e is
executes P sure s a rest l W (ARITH d op r q) is = arith-step P sure s a rest l W d op r q is
executes P sure s a rest l W (SELECT d c r q) is = select P sure s a rest l W d c r q is
executes P sure s a rest l W (CAST d r) is = cast P sure s a rest l W d r is
executes P sure s a rest l W (NAMED d x) is = named_step P sure s a rest l W d x is
executes P sure s a rest l W (STORE x r) is = store_step P sure s a rest l W x r is
executes P sure s a rest l W (PROM d b) is = prom P sure s a rest l W d b is
executes P sure s a rest l W (FORCE d r) is = force-step P sure s a rest l W d r is
executes P sure s a rest l W (PEEK d r x) is = peek P sure s a rest l W d r x is
executes P sure s a rest l W (POKE r x e) is = poke P sure s a rest l W r x e is
executes P sure s a rest l W (CALL d f w rs) is = call_step P sure s a rest l W d f w rs is
executes P sure s a rest l W (DISPATCH d f mark ret pairs) is = dispatch-step P sure s a rest l W d f mark ret pairs is
executes P sure s a rest l W (SKIP c n) is = skip_step P sure s a rest l W c n is

module _ (P : Program) (sure : Sure P) (s : State) (inv : Inv P s) (run : s.status ≡ Status.Running) (h : ℕ) (d : s.depth ≡ suc h) where
  -- the newest activation moved past an instruction
  at-instruction : (l : Line) → get_elem? (block_at (version_at P s.frames (top_of s h).frame) (top_of s h).block).code (top_of s h).next ≡ some l → At P (passed s (top_of s h)) (top_of s h) (stack_of s.activations h) l
  unfolding passed with_stack
  at-instruction l e =
      let t = at_top P s inv run h d in
      let m : s.depth - 1 ≡ h = omega arith in
      record {
        keep = inv.keep;
        heap = inv.heap;
        vectors = inv.vectors;
        room = length-set s.activations (s.depth - 1) _ ∙ inv.room;
        deep = inv.deep;
        stacked = rw (m, d) (stack_top s.activations h _ (omega (arith, d, inv.room, inv.deep)));
        stands = t.0;
        opened = t.1;
        under = t.2;
        line = e;
      }

  steps : Standing (block_at (version_at P s.frames (top_of s h).frame) (top_of s h).block).code (top_of s h).next → Good (Inv P) (proceed P s (here_of P s h) (position (block_at (version_at P s.frames (top_of s h).frame) (top_of s h).block).code (top_of s h).next))
  unfolding proceed_to passed with_stack
  steps (at-line l e p) = rw p (executes P sure (passed s (top_of s h)) (top_of s h) (stack_of s.activations h) l (at-instruction l e) l.does refl)
  steps (at-end e n p) =
      let t = at_top P s inv run h d in
      rw p (end-ok P sure s h (top_of s h) (record { inv = inv; deep = d; stands = t.0; opened = t.1; under = t.2; ended = n }))

-- THE LAW: a step is safe
pub step-safe : (P : Program) → Sure P → StepSafe P
step-safe P sure s inv run =
    let t = has-top P s inv run in
    rw (advance-is P s inv run t.0 t.1, position-is P sure s inv run t.0 t.1) (steps P sure s inv run t.0 t.1 (standing _ _ (at_top P s inv run t.0 t.1).0.inside))

-- ---- DONE ends one call alone

-- an activation with no frame below it has the only one
opened_one : (n f b : ℕ) (o : Opener) → Opened n f b o → below n f o ≡ 0 → n ≡ 1
unfolding Opened below
opened_one n f b Opener.Call h e = omega (arith, h.0)
opened_one n f b (Opener.Force p) h e = absurd (omega (arith, h.0))

-- one activation, one call
pub one-call : (P : Program) (s : State) → Inv P s → s.status ≡ Status.Running → s.depth ≡ 1 → s.calls ≡ 1
unfolding Stack stack_of Base awaited
one-call P s inv run d = go s.depth d (inv.stack run)
  where
    go : (n : ℕ) → n ≡ 1 → Stack P inv.keep s.frames top s.calls (stack_of s.activations n) → s.calls ≡ 1
    go zero e st = absurd st
    go (suc zero) e st = opened_one s.calls _ _ _ st.1 st.2
    go (suc (suc n)) e st = absurd (omega arith)
