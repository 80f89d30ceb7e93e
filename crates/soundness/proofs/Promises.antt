-- Promises: PROM and FORCE.
use mathlib.Core.Path.{◌≡◌, refl, sym, ap, ◌∙◌}
use mathlib.Core.Logic.{◌≢◌, ◌⊎◌, inl, inr}
use mathlib.Core.List.{List, [], ◌∷◌}
use mathlib.Core.Option.{some}
use mathlib.Core.Bool.{Bool, true, false}
use Prim.Native.Nat.{ℕ, zero, suc, ◌+◌, ◌≤◌, ◌<◌}
use native.Mathlib.Omega.{arith}
use native.Mathlib.Numerals.{add-one}
use lib.ListN.{length, get_elem?, set, length-set}
use lib.Seq.{get_or-set_same, get_or-set_other}
use borrow.Author.Tests.{ltb-true, lt-ltb}
use Rattle.layout.proofs.Bools.{and_both}
use Rattle.layout.proofs.Lists.{get-some}
use Rattle.machine.proofs.Tries.{at_some}
use Rattle.program.specs.Program.{Instr, PROM, FORCE, Line, Version, Program}
use Rattle.program.specs.Questions.{register_exists, exists}
use Rattle.rules.specs.Types.{kind_of, within}
use Rattle.rules.specs.Fits.{type_of, plain, promise_kind, fits_return}
use Rattle.rules.specs.Effects.{reflective}
use Rattle.sets.specs.Sets.{has}
use Rattle.rules.specs.Actions.{∅, touch, action_of}
use Rattle.rules.proofs.Follows.{has-empty}
use Rattle.rules.specs.Walks.{entered, block_action}
use Rattle.rules.proofs.Prefixes.{at_first}
use Rattle.rules.proofs.Touches.{Promises, promises-by}
use Rattle.rules.proofs.Rules.{force-marked}
use Rattle.rules.proofs.Fitted.{prom-fits, prom-touches, force-fits, force-touches}
use Rattle.machine.specs.States.{ACTIVATIONS, PROMISES, promise_counts, free_promise, with_promise, with_stack, assign}
use Rattle.machine.specs.Calls.{opened, force}
use Rattle.machine.specs.Steps.{execute_to}
use Rattle.machine.specs.declared.Activation.{Activation}
use Rattle.machine.specs.declared.Cache.{Cache}
use Rattle.machine.specs.declared.Frame.{Frame}
use Rattle.machine.specs.declared.Opener.{Opener}
use Rattle.machine.specs.declared.Promise.{Promise}
use Rattle.machine.specs.declared.State.{State}
use Rattle.machine.specs.declared.Value.{Value}
use Rattle.soundness.proofs.Cells.{cell_at}
use Rattle.soundness.proofs.Invariant.{Sure, version_at, block_at, no_block, promise_at, no_promise, is_full, touches, Alive, kind_at, PromiseFits, Fits, every, top, waits, is_pend, Gets, Keeps, Stands, Opened, below, gives, awaited, Stack, stack_of, Inv}
use Rattle.soundness.proofs.Progress.{Good, good, good-then, good-got, good-next, good-end}
use Rattle.soundness.proofs.Types.{clash, In, itself, any, value, promise as quiet-promise, within_in, plain-kind, force-kind, force-owned, eqb_same}
use Rattle.soundness.proofs.Heap.{heap-promises, lone-unless, touches-captured, alive-keep, ext_same}
use Rattle.soundness.proofs.Stacks.{stack_top}
use Rattle.soundness.proofs.Counting.{promise-free, free-ok}
use Rattle.soundness.proofs.KindsOf.{promise-is}
use Rattle.soundness.proofs.Standing.{At, live, meets, operand, kept-now, onward, writes-register, keep_on, keep-more, heap-on, under-on}
use Rattle.soundness.proofs.Operands.{only_one, fits-i, exists-i, marked-i, full_at, assigned-in, promise-got}
use Rattle.soundness.proofs.Plain.{Stepped, gives-integer}
use Rattle.checker.proofs.Limits.{mark-bound}

-- ---- the pool of promises

pub promise-same : (ps : List Promise) (p : ℕ) (q : Promise) → p < length ps → promise_at (set ps p q) p ≡ q
unfolding promise_at
promise-same ps p q h = get_or-set_same ps p q no_promise h

pub promise-other : (ps : List Promise) (p p' : ℕ) (q : Promise) → p' ≢ p → promise_at (set ps p q) p' ≡ promise_at ps p'
unfolding promise_at
promise-other ps p p' q h = get_or-set_other ps p p' q no_promise h

-- a promise that no cell refers to is replaced
at-promise : (P : Program) (s : State) (a : Activation) (rest : List Activation) (l : Line) (p : ℕ) (q : Promise) → promise_counts s p ≡ false → At P s a rest l → At P (with_promise s p q) a rest l
unfolding with_promise
at-promise P s a rest l p q free W = record {
  keep = W.keep;
  heap = heap-promises P s.frames s.calls s.promises (set s.promises p q) (λ p' k c h e. other p' (λ z. promise-free s W.heap.sized W.heap.bound p free k c h (rw z at e))) (length-set s.promises p q ∙ W.heap.pool) W.heap;
  vectors = W.vectors;
  room = W.room;
  deep = W.deep;
  stacked = W.stacked;
  stands = W.stands;
  opened = W.opened;
  under = W.under;
  line = W.line;
}
  where
    other : (p' : ℕ) → p' ≢ p → ((promise_at (set s.promises p q) p').frame ≡ (promise_at s.promises p').frame) × ((promise_at (set s.promises p q) p').block ≡ (promise_at s.promises p').block)
    other p' z = rw (promise-other s.promises p p' q z) (refl, refl)

-- ---- one more activation

pub stack_push : (l : List Activation) (h : ℕ) (a : Activation) → h < length l → stack_of (set l h a) (h + 1) ≡ a ∷ stack_of l h
stack_push l h a e = rw add-one (stack_top l h a e)

-- the block of a promise at its start
alive-stands : (P : Program) (K : ℕ → ℕ → Bool) (fs : List Frame) (f b : ℕ) → Alive P K fs f b → Stands P K fs top f b 0
unfolding Gets Keeps
alive-stands P K fs f b a = record {
  action = a.action;
  does = a.does;
  inside = omega arith;
  done = record { R = ∅; W = ∅; U = ∅; C = ∅ };
  is-done = at_first P (version_at P fs f) b (block_at (version_at P fs f) b);
  ready = λ r h u _. inr (read r h);
  keeps = go b a.positive (λ r h. a.kept r (touches-captured a.action r h));
  gets = tt;
}
  where
    read : (r : ℕ) → (has a.action.R r ≡ true) ⊎ (has ∅ r ≡ true) → is_full (cell_at fs f r) ≡ true
    read r (inl h) = a.ready r h
    read r (inr h) = clash h (has-empty 16 r)

    go : (n : ℕ) → 0 < n → ((r : ℕ) → has a.action.C r ≡ true → K f r ≡ true) → Keeps n (K f) (record { R = ∅; W = ∅; U = ∅; C = ∅ }) a.action
    go zero h k = absurd (omega arith)
    go (suc n) h k = k

module _ (P : Program) (sure : Sure P) (s : State) (a : Activation) (rest : List Activation) (l : Line) (W : At P s a rest l) where
  abbrev X : Version
  X = version_at P s.frames a.frame

  -- ---- PROM

  module _ (d b : ℕ) (is : l.does ≡ PROM d b) where
    ed : register_exists X d ≡ true
    unfolding exists
    ed = (and_both _ _ (exists-i P sure s a rest l W _ is)).0

    above : a.block < b
    unfolding exists
    above = ltb-true a.block b (and_both _ _ (and_both _ _ (exists-i P sure s a rest l W _ is)).1).0

    block-there : get_elem? X.blocks b ≡ some (block_at X b)
    unfolding exists block_at
    block-there = get-some X.blocks b no_block (ltb-true b _ (and_both _ _ (and_both _ _ (exists-i P sure s a rest l W _ is)).1).1)

    promises : Promises (entered P X a.block) b (d ∷ []) (meets P sure s a rest l W).now
    promises =
        let E = entered P X a.block in
        promises-by E b (d ∷ []) (meets P sure s a rest l W).now (sym (ap (λ (x : Instr). action_of E (touch P x)) is ∙ ap (action_of E) (prom-touches P d b)) ∙ (meets P sure s a rest l W).is-now)

    does-inner : block_action P X b ≡ some promises.inner
    does-inner = rw (lt-ltb a.block b above) at promises.is-inner

    alive : Alive P (keep_on a.block W.keep a.frame (meets P sure s a rest l W).next) s.frames a.frame b
    unfolding touches
    alive = record {
      positive = omega (arith, above);
      action = promises.inner;
      does = record { there = block-there; does = does-inner };
      ready = λ r h. operand P sure s a rest l W r (promises.is-R r ∙ h);
      kept = λ r h. kept-now P sure s a rest l W (meets P sure s a rest l W).next (meets P sure s a rest l W).joins r (promises.is-C r ∙ h);
    }

    kind : within (promise_kind (block_at X b).mark) (kind_of (type_of X d)) ≡ true
    kind = plain-kind X d _ (prom-fits P X a.block d b _ block-there (fits-i P sure s a rest l W _ is))

-- a new promise at a free place p enters d
made : (P : Program) (sure : Sure P) (s : State) (a : Activation) (rest : List Activation) (l : Line) (W : At P s a rest l) (d b : ℕ) (is : l.does ≡ PROM d b) (p : ℕ) → (promise_counts s p ≡ false) × (p < 0 + PROMISES)
    → Good (Inv P) (assign (with_promise s p (record { frame = a.frame; block = b; cache = Cache.Unforced })) a.frame d (Value.Promise p))
unfolding with_promise Fits is_full kind_at
made P sure s a rest l W d b is p h =
    let q : Promise = record { frame = a.frame; block = b; cache = Cache.Unforced } in
    let W' = at-promise P s a rest l p q h.0 W in
    writes-register P sure (with_promise s p q) a rest l W' d (Value.Promise p) (ed P sure s a rest l W d b is)
    (λ r g. only_one d r (sym ((promises P sure (with_promise s p q) a rest l W' d b is).is-W r) ∙ g)) refl
    (omega (arith, h.1), rw (promise-same s.promises p q (omega (arith, h.1, W.heap.pool))) (record { kind = kind P sure s a rest l W d b is; older = omega arith; alive = alive P sure (with_promise s p q) a rest l W' d b is }))
    (lone-unless P s.frames s.calls a.frame d (Value.Promise p) (λ v e. let z : ◌≡◌ {A = ℕ} 0 1 = cc in omega arith))

pub prom : (P : Program) (sure : Sure P) (s : State) (a : Activation) (rest : List Activation) (l : Line) (W : At P s a rest l) (d b : ℕ) → l.does ≡ PROM d b → Stepped P sure s a rest l W (PROM d b)
unfolding execute_to free_promise
prom P sure s a rest l W d b is =
    good-next (Inv P) _ (block_at (version_at P s.frames a.frame) b) _ (at_some _ b _ (block-there P sure s a rest l W d b is))
    (good-then (Inv P) _ _ _ (free-ok _ (promise_counts s) PROMISES 0) (made P sure s a rest l W d b is))

-- ---- FORCE

module _ (P : Program) (sure : Sure P) (s : State) (a : Activation) (rest : List Activation) (l : Line) (W : At P s a rest l) (d r : ℕ) (is : l.does ≡ FORCE d r) where
  abbrev Y : Version
  Y = version_at P s.frames a.frame

  d-exists : register_exists Y d ≡ true
  unfolding exists
  d-exists = (and_both _ _ (exists-i P sure s a rest l W _ is)).0

  d-fits : plain Y d 2 ≡ true
  d-fits = (force-fits P Y a.block d r (fits-i P sure s a rest l W _ is)).1

  -- the mark of the promise's block is no greater than that of the forcing block
  mark-covers : (q : Promise) → PromiseFits P W.keep s.frames q a.frame (type_of Y r) → (block_at (version_at P s.frames q.frame) q.block).mark ≤ (block_at Y a.block).mark
  unfolding kind_at
  mark-covers q f = go (force-marked P Y a.block d r (fits-i P sure s a rest l W _ is)) (within_in _ _ f.kind)
    where
      low : (block_at (version_at P s.frames q.frame) q.block).mark < 2
      low = mark-bound P _ (sure _ _ _ (W.heap.known q.frame (omega (arith, f.older, live P sure s a rest l W)))) q.block _ f.alive.does.there

      go : (kind_of (type_of Y r) ≡ 4) ⊎ ((kind_of (type_of Y r) ≡ 5) × (reflective P Y (FORCE d r) ≡ true)) → In (promise_kind (block_at (version_at P s.frames q.frame) q.block).mark) (kind_of (type_of Y r)) → (block_at (version_at P s.frames q.frame) q.block).mark ≤ (block_at Y a.block).mark
      go (inl k) (itself e) = omega arith
      go (inl k) (any e) = absurd (omega arith)
      go (inl k) (value e g) = absurd (omega arith)
      go (inl k) (quiet-promise e g) = absurd (omega arith)
      go (inr k) i = omega (arith, low, marked-i P sure s a rest l W _ is k.1)

  -- the promise's block begins above the others
  opens : (p : ℕ) (q : Promise) → p < PROMISES → PromiseFits P W.keep s.frames q a.frame (type_of Y r)
      → Good (Inv P) (opened s (record { opener = Opener.Force p; d = d; frame = q.frame; block = q.block; next = 0 }))
  unfolding opened with_stack Stack Opened awaited gives below Gets fits_return is_pend
  opens p q hp f = good-end (Inv P) _ _ _ (λ h. good (Inv P) _ _ refl (record {
    keep = keep_on a.block W.keep a.frame (meets P sure s a rest l W).next;
    heap = heap-on P sure s a rest l W (meets P sure s a rest l W).next (meets P sure s a rest l W).joins W.heap;
    vectors = W.vectors;
    room = length-set s.activations s.depth _ ∙ W.room;
    deep = omega (arith, ltb-true s.depth ACTIVATIONS h);
    stack = λ _. rw (stack_push s.activations s.depth _ (omega (arith, ltb-true s.depth ACTIVATIONS h, W.room)), W.stacked) (
      alive-stands P _ s.frames q.frame q.block (alive-keep P W.keep _ s.frames s.calls (λ k r _. keep-more P sure s a rest l W (meets P sure s a rest l W).next (meets P sure s a rest l W).joins k r) q.frame q.block (omega (arith, f.older, live P sure s a rest l W)) f.alive),
      (omega (arith, f.older, live P sure s a rest l W), f.alive.positive, hp),
      (
        onward P sure s a rest l W s.frames (waits d 2 (block_at (version_at P s.frames q.frame) q.block).mark) refl
            (d-exists, rw (force-owned, force-kind) d-fits, mark-covers q f)
            (λ c g. inl (rw (only_one d c (assigned-in P sure s a rest l W _ is (r ∷ []) [] (d ∷ []) (force-touches P d r) c g)) (eqb_same d)))
            (λ c _ g. g),
        W.opened,
        under-on P sure s a rest l W (meets P sure s a rest l W).next (meets P sure s a rest l W).joins s.frames refl (ext_same _ every s.frames),
      ),
    );
  }))

  forces : (p : ℕ) (q : Promise) (x : Cache) → p < PROMISES → PromiseFits P W.keep s.frames q a.frame (type_of Y r) → Good (Inv P) (force s a.frame d p q x)
  unfolding force
  forces p q (Cache.Forced z) hp f = gives-integer P sure s a rest l W (FORCE d r) is (r ∷ []) d (force-touches P d r) d-exists d-fits z
  forces p q Cache.Unforced hp f = good-end (Inv P) _ _ _ (λ _. opens p q hp f)

  pub force-step : Stepped P sure s a rest l W (FORCE d r)
  unfolding execute_to exists
  force-step =
      let er = (and_both _ _ (exists-i P sure s a rest l W _ is)).1 in
      let p = promise-got P sure s a rest l W _ is r er (full_at P sure s a rest l W _ is (r ∷ []) [] (d ∷ []) (force-touches P d r) 0 r refl er) (force-fits P Y a.block d r (fits-i P sure s a rest l W _ is)).0 in
      good-got (Inv P) _ p.0 _ p.1 (good-got (Inv P) _ (promise_at s.promises p.0) _ (promise-is s p.0 (omega (arith, p.2, W.heap.pool)))
      (forces p.0 (promise_at s.promises p.0) (promise_at s.promises p.0).cache p.2 p.3))
