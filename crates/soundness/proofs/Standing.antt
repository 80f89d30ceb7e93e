-- The newest activation at an instruction: what it has in hand, and how it goes past it.
use mathlib.Core.Path.{◌≡◌, refl, sym, ◌∙◌}
use mathlib.Core.Logic.{◌⊎◌, inl, inr}
use mathlib.Core.List.{List, ◌∷◌}
use mathlib.Core.Option.{some}
use mathlib.Core.Bool.{Bool, true, false, cond, false≢true}
use Prim.Native.Nat.{ℕ, zero, suc, ◌+◌, ◌≤◌, ◌<◌}
use native.Mathlib.Omega.{arith}
use lib.ListN.{length, get_elem?}
use lib.Dec.{eqb}
use borrow.Author.Tests.{eqb-true, ne_eqb}
use Rattle.layout.specs.Bounds.{REGISTERS}
use Rattle.layout.proofs.Lists.{get_in}
use Rattle.sets.specs.Sets.{has}
use Rattle.program.specs.Program.{Line, Program}
use Rattle.program.specs.Questions.{register_exists, exists}
use Rattle.program.proofs.Laid.{instr_bounded}
use Rattle.rules.specs.Types.{is_shared, is_owned, is_borrowed}
use Rattle.rules.specs.Fits.{type_of, fits}
use Rattle.rules.specs.Effects.{reflective}
use Rattle.rules.specs.Actions.{Action, here}
use Rattle.rules.specs.Walks.{walk_to}
use Rattle.rules.proofs.Follows.{or-either, stays-emptied, second_reads, first-captures, second-captures, not-true as not-false}
use Rattle.rules.proofs.Prefixes.{Meets, met}
use Rattle.rules.proofs.Needs.{Needed, read, later}
use Rattle.rules.proofs.Ways.{Within}
use Rattle.checker.proofs.Accepted.{Checked}
use Rattle.machine.specs.Try.{got}
use Rattle.machine.specs.States.{ACTIVATIONS, VECTORS, with_stack, assign, register}
use Rattle.machine.specs.declared.Activation.{Activation}
use Rattle.machine.specs.declared.Frame.{Frame}
use Rattle.machine.specs.declared.Opener.{Opener}
use Rattle.machine.specs.declared.Promise.{Promise}
use Rattle.machine.specs.declared.State.{State}
use Rattle.machine.specs.declared.Value.{Value}
use Rattle.soundness.proofs.Cells.{CELLS, frame_at, cell_at, write_at, wrote, at_same, assign-is, register-is}
use Rattle.soundness.proofs.Invariant.{Sure, version_at, block_at, type_at, is_full, Fits, Unshared, Lone, Heap, Ext, every, Pend, top, is_pend, Gets, Keeps, Stands, Opened, below, awaited, Stack, stack_of, Inv}
use Rattle.soundness.proofs.Progress.{Good, good}
use Rattle.soundness.proofs.Types.{clash, eqb_same, register-type, shared-owned, shared-borrowed}
use Rattle.soundness.proofs.Versions.{register-in, covers}
use Rattle.soundness.proofs.Heap.{same_version, ext-every, ext-less, stack-ext, ext-full, heap-write, fits-keep, heap-keep, stack-keep}
use Rattle.soundness.proofs.Stacks.{opened-live, below-le}

-- past its instruction
abbrev pub moved : Activation → Activation
moved a = record { opener = a.opener; d = a.d; frame = a.frame; block = a.block; next = a.next + 1 }

-- what the frames keep where an activation of the block b over the frame f comes to a place before which `next` was done: by its body what that captured
unfoldable pub keep_on : ℕ → (ℕ → ℕ → Bool) → ℕ → Action → ℕ → ℕ → Bool
keep_on zero K f next k r = cond (eqb k f) (has next.C r) (K k r)
keep_on (suc b) K f next k r = K k r

-- the state s, in which the newest activation has moved past the instruction l at which a stands
pub record At (P : Program) (s : State) (a : Activation) (rest : List Activation) (l : Line) : Type 0 where
  pub keep : ℕ → ℕ → Bool
  pub heap : Heap P keep s.frames s.calls s.promises
  pub vectors : length s.vectors ≡ VECTORS
  pub room : length s.activations ≡ ACTIVATIONS
  pub deep : s.depth ≤ ACTIVATIONS
  pub stacked : stack_of s.activations s.depth ≡ moved a ∷ rest
  pub stands : Stands P keep s.frames top a.frame a.block a.next
  pub opened : Opened s.calls a.frame a.block a.opener
  pub under : Stack P keep s.frames (awaited P s.frames a) (below s.calls a.frame a.opener) rest
  pub line : get_elem? (block_at (version_at P s.frames a.frame) a.block).code a.next ≡ some l

-- a state whose newest activations are l
pub inv-of : (P : Program) {K : ℕ → ℕ → Bool} (s : State) (fs : List Frame) (n : ℕ) (l : List Activation) → length s.vectors ≡ VECTORS → length s.activations ≡ ACTIVATIONS → s.depth ≤ ACTIVATIONS → stack_of s.activations s.depth ≡ l
    → Heap P K fs n s.promises → Stack P K fs top n l → Inv P (with_stack s fs n s.activations s.depth)
unfolding with_stack
inv-of P {K} s fs n l v r d e h k = record { keep = K; heap = h; vectors = v; room = r; deep = d; stack = λ _. rw e k }

module _ (P : Program) (sure : Sure P) (s : State) (a : Activation) (rest : List Activation) (l : Line) (W : At P s a rest l) where
  pub live : a.frame < s.calls
  live = opened-live s.calls a.frame a.block a.opener W.opened

  pub inside : a.frame < ACTIVATIONS
  inside = omega (arith, live, W.heap.bound)

  pub checked-version : Checked P (version_at P s.frames a.frame)
  checked-version = sure _ _ _ (W.heap.known a.frame live)

  pub there : get_elem? (version_at P s.frames a.frame).blocks a.block ≡ some (block_at (version_at P s.frames a.frame) a.block)
  there = W.stands.does.there

  -- what questions 7, 8 and 4 found of the instruction
  pub exist : exists P (version_at P s.frames a.frame) a.block l.does ≡ true
  exist = checked-version.exist.of_instr a.block _ a.next l there W.line

  pub fit : fits P (version_at P s.frames a.frame) a.block l.does ≡ true
  fit = checked-version.fit.of_instr a.block _ a.next l there W.line

  pub bounded : instr_bounded l.does ≡ true
  bounded = checked-version.bound.of_instr a.block _ a.next l there W.line

  -- registers that exist are places of the frame
  pub place_in : (r : ℕ) → register_exists (version_at P s.frames a.frame) r ≡ true → r < REGISTERS
  place_in r h = register-in P _ checked-version r h

  -- the mark of its block covers a reflective instruction
  pub marked : reflective P (version_at P s.frames a.frame) l.does ≡ true → (block_at (version_at P s.frames a.frame) a.block).mark ≡ 1
  marked h = covers P _ checked-version a.block _ a.next l there W.line h

  -- what the instruction does, and what is done behind it
  pub meets : Meets P (version_at P s.frames a.frame) a.block (block_at (version_at P s.frames a.frame) a.block) W.stands.action a.next l W.stands.done
  meets = met W.stands.does a.next l W.stands.done W.line W.stands.is-done

  full-unless : (r : ℕ) → (is_pend top r ≡ true) ⊎ (is_full (cell_at s.frames a.frame r) ≡ true) → is_full (cell_at s.frames a.frame r) ≡ true
  unfolding is_pend
  full-unless r (inl e) = absurd (false≢true e)
  full-unless r (inr e) = e

  -- what the block reads or has assigned and what is needed is there, unless it is emptied
  there-unless : (r : ℕ) → (has W.stands.action.R r ≡ true) ⊎ (has W.stands.done.W r ≡ true) → has W.stands.done.U r ≡ false → Needed P (version_at P s.frames a.frame) a.block (block_at (version_at P s.frames a.frame) a.block) r a.next → is_full (cell_at s.frames a.frame r) ≡ true
  there-unless r h u n = full-unless r (W.stands.ready r h u n)

  -- what the instruction reads is there
  pub operand : (r : ℕ) → has meets.now.R r ≡ true → is_full (cell_at s.frames a.frame r) ≡ true
  operand r h = there-unless r (go (second_reads meets.follows r h)) (not-false _ (λ u. clash h (meets.follows.clear.emptied r u).0)) (read a.next l meets.now W.line meets.is-now h)
    where
      go : (has meets.behind.R r ≡ true) ⊎ (has W.stands.done.W r ≡ true) → (has W.stands.action.R r ≡ true) ⊎ (has W.stands.done.W r ≡ true)
      go (inl x) = inl (meets.reads r x)
      go (inr x) = inr x

  -- what a body empties was not captured
  pub spare : (r : ℕ) → a.block ≡ 0 → has meets.now.U r ≡ true → W.keep a.frame r ≡ false
  unfolding Keeps
  spare r e h = let k : Keeps 0 (W.keep a.frame) W.stands.done W.stands.action = rw e at W.stands.keeps in k r ∙ not-false _ (λ q. clash h (meets.follows.clear.captured r q))

  -- ---- what is kept at a place where `next` is done

  module _ (next : Action) (joins : Within meets.behind next) where
    abbrev pub keeping : ℕ → ℕ → Bool
    keeping = keep_on a.block W.keep a.frame next

    -- no less than before
    pub keep-more : (k r : ℕ) → W.keep k r ≡ true → keep_on a.block W.keep a.frame next k r ≡ true
    unfolding keep_on Keeps
    keep-more k r h = go a.block W.stands.keeps (eqb k a.frame) refl
      where
        go : (b : ℕ) → Keeps b (W.keep a.frame) W.stands.done W.stands.action → (t : Bool) → eqb k a.frame ≡ t → keep_on b W.keep a.frame next k r ≡ true
        go zero q true e = rw e (joins.captures r (first-captures meets.follows r (sym (q r) ∙ (rw (eqb-true k a.frame e) at h))))
        go zero q false e = rw e h
        go (suc b) q t e = h

    -- what the instruction captures
    pub kept-now : (r : ℕ) → has meets.now.C r ≡ true → keep_on a.block W.keep a.frame next a.frame r ≡ true
    unfolding keep_on Keeps
    kept-now r h = go a.block W.stands.keeps
      where
        go : (b : ℕ) → Keeps b (W.keep a.frame) W.stands.done W.stands.action → keep_on b W.keep a.frame next a.frame r ≡ true
        go zero q = rw (eqb_same a.frame) (joins.captures r (second-captures meets.follows r h))
        go (suc b) q = q r (meets.captures r (second-captures meets.follows r h))

    -- the activation itself
    keeps_on : Keeps a.block (keep_on a.block W.keep a.frame next a.frame) next W.stands.action
    unfolding keep_on Keeps
    keeps_on = go a.block W.stands.keeps
      where
        go : (b : ℕ) → Keeps b (W.keep a.frame) W.stands.done W.stands.action → Keeps b (keep_on b W.keep a.frame next a.frame) next W.stands.action
        go zero q = λ r. rw (eqb_same a.frame) refl
        go (suc b) q = q

    -- those under it keep the same
    keep-under : (k r : ℕ) → k < below s.calls a.frame a.opener → keep_on a.block W.keep a.frame next k r ≡ W.keep k r
    unfolding keep_on below Opened
    keep-under k r h = go a.opener a.block W.opened h
      where
        go : (o : Opener) (b : ℕ) → Opened s.calls a.frame b o → k < below s.calls a.frame o → keep_on b W.keep a.frame next k r ≡ W.keep k r
        go Opener.Call zero q l = rw (ne_eqb k a.frame (λ z. absurd (omega arith))) refl
        go Opener.Call (suc b) q l = refl
        go (Opener.Force p) zero q l = absurd (omega (arith, q.1))
        go (Opener.Force p) (suc b) q l = refl

    pub heap-on : {fs : List Frame} {n : ℕ} {ps : List Promise} → Heap P W.keep fs n ps → Heap P (keep_on a.block W.keep a.frame next) fs n ps
    heap-on {fs} {n} {ps} H = heap-keep P W.keep (keep_on a.block W.keep a.frame next) fs n (λ k r _. keep-more k r) ps H

  -- the type of a register and of what it holds
  pub type-is : (r : ℕ) → r < REGISTERS → type_at P s.frames a.frame r ≡ type_of (version_at P s.frames a.frame) r
  unfolding type_at
  type-is r h = register-type (version_at P s.frames a.frame) r h

  pub typed : (r : ℕ) → r < REGISTERS → Fits P W.keep s.frames s.promises a.frame (type_of (version_at P s.frames a.frame) r) (cell_at s.frames a.frame r)
  typed r h = rw (type-is r h) at (W.heap.typed a.frame r live)

  -- the frame and its registers, as the step looks them up
  pub register-got : (r : ℕ) → r < REGISTERS → register (frame_at s.frames a.frame) r ≡ got (cell_at s.frames a.frame r)
  unfolding cell_at
  register-got r h = register-is (frame_at s.frames a.frame) (W.heap.sized.whole a.frame inside) r h

  -- ---- past the instruction

  -- at the place j, where `next` is done; what is needed there and not assigned by the instruction is needed here
  pub onward-to : (j : ℕ) (next : Action) (joins : Within meets.behind next) → j ≤ length (block_at (version_at P s.frames a.frame) a.block).code
      → here (walk_to P (version_at P s.frames a.frame) a.block (block_at (version_at P s.frames a.frame) a.block).code j) ≡ some next
      → ((r : ℕ) → has meets.now.W r ≡ false → Needed P (version_at P s.frames a.frame) a.block (block_at (version_at P s.frames a.frame) a.block) r j → Needed P (version_at P s.frames a.frame) a.block (block_at (version_at P s.frames a.frame) a.block) r a.next)
      → (fs' : List Frame) (pend : Pend) → version_at P fs' a.frame ≡ version_at P s.frames a.frame
      → Gets (version_at P s.frames a.frame) (block_at (version_at P s.frames a.frame) a.block).mark pend
      → ((r : ℕ) → has meets.now.W r ≡ true → (is_pend pend r ≡ true) ⊎ (is_full (cell_at fs' a.frame r) ≡ true))
      → ((r : ℕ) → has meets.now.U r ≡ false → is_full (cell_at s.frames a.frame r) ≡ true → is_full (cell_at fs' a.frame r) ≡ true)
      → Stands P (keep_on a.block W.keep a.frame next) fs' pend a.frame a.block j
  onward-to j next joins le is-next back fs' pend e g hw hk = record {
    action = W.stands.action;
    does = rw e W.stands.does;
    inside = rw e le;
    done = next;
    is-done = rw e is-next;
    ready = λ r q u n. go r q (not-false _ (λ z. clash (joins.empties r z) u)) (rw e at n) (has meets.now.W r) refl;
    keeps = keeps_on next joins;
    gets = rw e g;
  }
    where
      was : (r : ℕ) → (has W.stands.action.R r ≡ true) ⊎ (has next.W r ≡ true) → has meets.now.W r ≡ false → (has W.stands.action.R r ≡ true) ⊎ (has W.stands.done.W r ≡ true)
      was r (inl x) w = inl x
      was r (inr x) w = inr (go (or-either (has W.stands.done.W r) (has meets.now.W r) (sym (meets.follows.is-W r) ∙ joins.assigns r x)))
        where
          go : (has W.stands.done.W r ≡ true) ⊎ (has meets.now.W r ≡ true) → has W.stands.done.W r ≡ true
          go (inl y) = y
          go (inr y) = clash y w

      go : (r : ℕ) → (has W.stands.action.R r ≡ true) ⊎ (has next.W r ≡ true) → has meets.behind.U r ≡ false → Needed P (version_at P s.frames a.frame) a.block (block_at (version_at P s.frames a.frame) a.block) r j → (t : Bool) → has meets.now.W r ≡ t → (is_pend pend r ≡ true) ⊎ (is_full (cell_at fs' a.frame r) ≡ true)
      go r q u n true w = hw r w
      go r q u n false w =
          let x = stays-emptied meets.follows r w u in
          inr (hk r x.1 (there-unless r (was r q w) x.0 (back r w n)))

  -- the next one
  pub onward : (fs' : List Frame) (pend : Pend) → version_at P fs' a.frame ≡ version_at P s.frames a.frame
      → Gets (version_at P s.frames a.frame) (block_at (version_at P s.frames a.frame) a.block).mark pend
      → ((r : ℕ) → has meets.now.W r ≡ true → (is_pend pend r ≡ true) ⊎ (is_full (cell_at fs' a.frame r) ≡ true))
      → ((r : ℕ) → has meets.now.U r ≡ false → is_full (cell_at s.frames a.frame r) ≡ true → is_full (cell_at fs' a.frame r) ≡ true)
      → Stands P (keep_on a.block W.keep a.frame meets.next) fs' pend a.frame a.block (a.next + 1)
  onward fs' pend e g hw hk = onward-to (a.next + 1) meets.next meets.joins (omega (arith, (get_in (block_at (version_at P s.frames a.frame) a.block).code a.next l l W.line).0)) meets.is-next (λ r w n. later a.next l meets.now W.line meets.is-now w n) fs' pend e g hw hk

  -- the activations under it, where frames below the activation's grew
  pub under-on : (next : Action) (joins : Within meets.behind next) (fs' : List Frame) → version_at P fs' a.frame ≡ version_at P s.frames a.frame → Ext (below s.calls a.frame a.opener) every s.frames fs'
      → Stack P (keep_on a.block W.keep a.frame next) fs' (awaited P fs' a) (below s.calls a.frame a.opener) rest
  unfolding awaited
  under-on next joins fs' e x = rw e (stack-keep P W.keep (keep_on a.block W.keep a.frame next) fs' (below s.calls a.frame a.opener) (awaited P s.frames a) (keep-under next joins) rest (stack-ext P W.keep (below s.calls a.frame a.opener) s.frames fs' _ x rest W.under))

  -- the stack with the newest activation moved on
  pub stack-on : (fs' : List Frame) → version_at P fs' a.frame ≡ version_at P s.frames a.frame → Ext (below s.calls a.frame a.opener) every s.frames fs'
      → Stands P (keep_on a.block W.keep a.frame meets.next) fs' top a.frame a.block (a.next + 1) → Stack P (keep_on a.block W.keep a.frame meets.next) fs' top s.calls (moved a ∷ rest)
  unfolding Stack awaited
  stack-on fs' e x k = (k, W.opened, under-on meets.next meets.joins fs' e x)

  pub under-le : below s.calls a.frame a.opener ≤ s.calls
  under-le = below-le s.calls a.frame a.block a.opener W.opened

  -- a cell c of a live frame k gets x, and the instruction assigns nothing else
  pub writes-cell : (k c : ℕ) (x : Value) → k < s.calls → c < CELLS → ((r : ℕ) → has meets.now.W r ≡ true → (k ≡ a.frame) × (r ≡ c)) → is_full x ≡ true
      → Fits P (keep_on a.block W.keep a.frame meets.next) s.frames s.promises k (type_at P s.frames k c) x → Lone P s.frames s.calls k c x → Inv P (wrote s k c x)
  unfolding wrote Gets
  writes-cell k c x hk hc only fx fits-x lone =
      inv-of P s (write_at fs k c x) s.calls (moved a ∷ rest) W.vectors W.room W.deep W.stacked
      (heap-write P fs s.calls s.promises (heap-on meets.next meets.joins W.heap) k c hk hc x (ext-every (keep_on a.block W.keep a.frame meets.next) e) fits-x lone)
      (stack-on fs' (same_version P e a.frame live) (ext-less (below s.calls a.frame a.opener) under-le e)
      (onward fs' top (same_version P e a.frame live) tt (λ r q. inr (assigned r (only r q))) (λ r _ q. e.grow a.frame r live refl q)))
    where
      fs : List Frame
      fs = s.frames

      fs' : List Frame
      fs' = write_at s.frames k c x

      e : Ext s.calls every s.frames (write_at s.frames k c x)
      e = ext-full P s.frames s.calls s.promises W.heap k c hk hc x fx

      assigned : (r : ℕ) → (k ≡ a.frame) × (r ≡ c) → is_full (cell_at fs' a.frame r) ≡ true
      assigned r p = rw (← p.0, p.1, at_same s.frames W.heap.sized k c x (omega (arith, W.heap.bound)) hc) fx

  -- what fits before fits then
  pub fits_on : (k t : ℕ) → k < s.calls → (x : Value) → Fits P W.keep s.frames s.promises k t x → Fits P (keep_on a.block W.keep a.frame meets.next) s.frames s.promises k t x
  fits_on k t h x f = fits-keep P W.keep (keep_on a.block W.keep a.frame meets.next) s.frames s.calls (λ k r _. keep-more meets.next meets.joins k r) s.promises k t h x f

  -- a register d of its own frame
  pub writes-register : (d : ℕ) (x : Value) → register_exists (version_at P s.frames a.frame) d ≡ true → ((r : ℕ) → has meets.now.W r ≡ true → r ≡ d) → is_full x ≡ true
      → Fits P (keep_on a.block W.keep a.frame meets.next) s.frames s.promises a.frame (type_of (version_at P s.frames a.frame) d) x → Lone P s.frames s.calls a.frame d x → Good (Inv P) (assign s a.frame d x)
  writes-register d x ed only fx fits-x lone =
      let hd = place_in d ed in
      good (Inv P) _ (wrote s a.frame d x) (assign-is s W.heap.sized a.frame live W.heap.bound d x hd)
      (writes-cell a.frame d x live (omega arith) (λ r q. (refl, only r q)) fx (rw (type-is d hd) fits-x) lone)

  -- ---- sharing

  -- the vector of a shared cell is in no owned one
  pub not-owned : (k₀ r v k c : ℕ) → k₀ < s.calls → is_shared (type_at P s.frames k₀ r) ≡ true → cell_at s.frames k₀ r ≡ Value.Vector v → k < s.calls → cell_at s.frames k c ≡ Value.Vector v → is_owned (type_at P s.frames k c) ≡ false
  unfolding Unshared
  not-owned k₀ r v k c h₀ hs e hk q = not-false _ (λ o. go o (W.heap.own k c k₀ r v hk h₀ q e o))
    where
      go : is_owned (type_at P s.frames k c) ≡ true → ((k₀ ≡ k) × (r ≡ c)) ⊎ ((is_borrowed (type_at P s.frames k₀ r) ≡ true) × (k < k₀)) → ⊥
      go o (inl x) = clash (rw (← x.0, ← x.1) at o) (shared-owned (type_at P s.frames k₀ r) hs)
      go o (inr x) = clash x.0 (shared-borrowed (type_at P s.frames k₀ r) hs)

  pub shared-lone : (k₀ r k c : ℕ) → k₀ < s.calls → is_shared (type_at P s.frames k₀ r) ≡ true → is_shared (type_at P s.frames k c) ≡ true → Lone P s.frames s.calls k c (cell_at s.frames k₀ r)
  unfolding Lone
  shared-lone k₀ r k c h₀ hs hd v k' c' e hk q _ = (shared-owned _ hd, not-owned k₀ r v k' c' h₀ hs e hk q)
