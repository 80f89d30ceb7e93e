-- Each step spends: what a run can still take falls by one at least with each step that is counted.
use mathlib.Core.Path.{◌≡◌, refl, sym, ap, ◌∙◌, subst}
use mathlib.Core.Logic.{◌≢◌, ◌⊎◌, inl, inr}
use mathlib.Core.List.{List, [], ◌∷◌}
use mathlib.Core.Option.{some}
use mathlib.Core.Bool.{Bool, true, false, false≢true}
use Prim.Native.Nat.{ℕ, zero, suc, ◌+◌, ◌-◌, ◌≤◌, ◌<◌}
use native.Mathlib.Decide.{ℕ_discrete}
use native.Mathlib.Numerals.{add-one}
use native.Mathlib.Omega.{arith}
use lib.ListN.{length, get_elem?, set, take, drop}
use lib.Seq.{get_or-set_same, get_or-set_other}
use lib.Dec.{eqb}
use borrow.Author.Tests.{eqb-true, eqb-false, lt-ltb, le-ltb}
use Rattle.layout.specs.Bounds.{REGISTERS}
use Rattle.layout.specs.Tests.{any}
use Rattle.layout.proofs.Lists.{get-some, get_in, get_drop}
use Rattle.rules.proofs.Follows.{or-either}
use Rattle.program.specs.Program.{Instr, Line, Version, Program}
use Rattle.machine.specs.Try.{got}
use Rattle.machine.specs.States.{PROMISES, place, is_promise, refers, held, is_force, live_activations, live_frames, pending, free, with_stack, with_promise}
use Rattle.machine.specs.Calls.{passed}
use Rattle.machine.specs.declared.Activation.{Activation}
use Rattle.machine.specs.declared.Cache.{Cache}
use Rattle.machine.specs.declared.End.{End}
use Rattle.machine.specs.declared.Frame.{Frame}
use Rattle.machine.specs.declared.Opener.{Opener}
use Rattle.machine.specs.declared.Place.{Place}
use Rattle.machine.specs.declared.Promise.{Promise}
use Rattle.machine.specs.declared.State.{State}
use Rattle.machine.specs.declared.Status.{Status}
use Rattle.machine.specs.declared.Value.{Value}
use Rattle.runs.proofs.Keeps.{Keeps}
use Rattle.runs.proofs.Lists.{any-find}
use Rattle.soundness.proofs.Cells.{Whole, frame_at, cell, cell_at}
use Rattle.soundness.proofs.Invariant.{Sure, version_at, block_at, promise_at, no_promise, no_block, Fits, Heap, no_activation, stack_of, Inv}
use Rattle.soundness.proofs.Stacks.{stack_top, top_of}
use Rattle.soundness.proofs.LiveCalls.{live-frame}
use Rattle.checker.proofs.Accepted.{Checked}
use Rattle.bounds.proofs.Trees.{promised, tree, upward, worth-is}
use Rattle.bounds.proofs.Calm.{holds, Still, Rests, Either}
use Rattle.bounds.proofs.Potential.{any-alike, filled, filled-same, filled-other, sum-filled, same_version, worth_at, left, owed, Backed, Paid, owed_same, Moved, Falls, moved-paid}

-- ---- parts of a state

pub pend-same : (s t : State) (p : ℕ) → t.activations ≡ s.activations → t.depth ≡ s.depth → pending t p ≡ pending s p
unfolding pending live_activations
pend-same s t p e f = rw (e, f) refl

-- the place that is free is one of them
pub free_in : (e : End) (counts : ℕ → Bool) (n i m : ℕ) → free e counts n i ≡ got m → m < i + n
unfolding free
free_in e counts zero i m h = let z : ◌≡◌ {A = ℕ} 0 1 = cc in absurd (omega arith)
free_in e counts (suc n) i m h = go (counts i) h (free_in e counts n (suc i) m)
  where
    go : (b : Bool) → (elim b [ true ↦ free e counts n (suc i) | false ↦ got i ]) ≡ got m → (free e counts n (suc i) ≡ got m → m < suc i + n) → m < i + suc n
    go true q ih = let r = ih q in omega arith
    go false q ih = let r : i ≡ m = cc in omega arith

-- a value that is the promise p
pub is-promise : (p : ℕ) (x : Value) → is_promise p x ≡ true → x ≡ Value.Promise p
unfolding is_promise
is-promise p Value.Empty h = absurd (false≢true h)
is-promise p (Value.Integer z) h = absurd (false≢true h)
is-promise p (Value.Vector v) h = absurd (false≢true h)
is-promise p (Value.Promise q) h = ap Value.Promise (sym (eqb-true p q h))

pub same-promise : (p : ℕ) → is_promise p (Value.Promise p) ≡ true
unfolding is_promise
same-promise p = go (eqb p p) refl
  where
    go : (b : Bool) → eqb p p ≡ b → b ≡ true
    go true e = refl
    go false e = absurd (eqb-false p p e refl)

pub same-force : (p : ℕ) → is_force p (Opener.Force p) ≡ true
unfolding is_force
same-force p = go (eqb p p) refl
  where
    go : (b : Bool) → eqb p p ≡ b → b ≡ true
    go true e = refl
    go false e = absurd (eqb-false p p e refl)

-- what a frame refers to stands in a cell
register-cell : (f : Frame) → Whole f → (r : ℕ) (x : Place) → get_elem? f.registers r ≡ some x → cell f r ≡ x.value
unfolding cell
register-cell f w r x e = let g = get_in f.registers r (place Value.Empty) x e in rw (lt-ltb r REGISTERS (omega (arith, g.0, w.registers))) (ap (λ (c : Place). c.value) g.1)

name-cell : (f : Frame) → Whole f → (r : ℕ) (x : Place) → get_elem? f.names r ≡ some x → cell f (REGISTERS + r) ≡ x.value
unfolding cell
name-cell f w r x e =
    let g = get_in f.names r (place Value.Empty) x e in
    let m : REGISTERS + r - REGISTERS ≡ r = omega arith in
    rw (le-ltb (REGISTERS + r) REGISTERS (omega arith), m) (ap (λ (c : Place). c.value) g.1)

refers-cell : (f : Frame) → Whole f → (p : ℕ) → refers (is_promise p) f ≡ true → (c : ℕ) × (cell f c ≡ Value.Promise p)
unfolding refers
refers-cell f w p h = go (or-either _ _ h)
  where
    go : (any (λ (c : Place). is_promise p c.value) f.registers ≡ true) ⊎ (any (λ (c : Place). is_promise p c.value) f.names ≡ true) → (c : ℕ) × (cell f c ≡ Value.Promise p)
    go (inl e) = let t = any-find (λ (c : Place). is_promise p c.value) f.registers e in (t.0, register-cell f w t.0 t.1 t.2 ∙ is-promise p t.1.value t.3)
    go (inr e) = let t = any-find (λ (c : Place). is_promise p c.value) f.names e in (REGISTERS + t.0, name-cell f w t.0 t.1 t.2 ∙ is-promise p t.1.value t.3)

-- ---- a promise that is referred to

-- its place is one of the state's, its frame is live, and its block is one of that frame's version
pub record Real (P : Program) (fs : List Frame) (n : ℕ) (q : Promise) (p : ℕ) : Type 0 where
  pub place : p < PROMISES
  pub frame : q.frame < n
  pub block : get_elem? (version_at P fs q.frame).blocks q.block ≡ some (block_at (version_at P fs q.frame) q.block)

pub real : (P : Program) (K : ℕ → ℕ → Bool) (s : State) → Heap P K s.frames s.calls s.promises → (p : ℕ) → holds s p ≡ true → Real P s.frames s.calls (promise_at s.promises p) p
unfolding held Fits cell_at
real P K s H p h =
    let t = any-find (refers (is_promise p)) (live_frames s) h in
    let l = live-frame s t.0 t.1 t.2 in
    let w : Whole t.1 = subst Whole l.1 (H.sized.whole t.0 (omega (arith, l.0, H.bound))) in
    let c = refers-cell t.1 w p t.3 in
    found t.0 c.0 l.0 (ap (λ (f : Frame). cell f c.0) l.1 ∙ c.1)
  where
    found : (k c : ℕ) → k < s.calls → cell (frame_at s.frames k) c ≡ Value.Promise p → Real P s.frames s.calls (promise_at s.promises p) p
    found k c l e =
        let f : Fits P K s.frames s.promises k _ (Value.Promise p) = rw e at (H.typed k c l) in
        record { place = f.0; frame = omega (arith, f.1.older, l); block = f.1.alive.does.there }

-- ---- what is left

-- the block end at least
pub tree-positive : (price : Instr → ℕ) (T : ℕ → ℕ) (ls : List Line) → 1 ≤ tree price T ls
unfolding tree
tree-positive price T [] = omega arith
tree-positive price T (l ∷ ls) = omega (arith, tree-positive price T ls)

-- further on, no more is left: a SKIP passes over instructions and spends nothing for them
tree-further : (price : Instr → ℕ) (T : ℕ → ℕ) (ls : List Line) (n : ℕ) → tree price T (drop n ls) ≤ tree price T ls
unfolding tree
tree-further price T ls zero = omega arith
tree-further price T [] (suc n) = omega arith
tree-further price T (l ∷ ls) (suc n) = omega (arith, tree-further price T ls n)

drop-none : (k : ℕ) → ◌≡◌ {A = List Line} (drop k []) []
drop-none zero = refl
drop-none (suc k) = refl

drop-drop : (ls : List Line) (i n : ℕ) → drop (i + n) ls ≡ drop n (drop i ls)
drop-drop ls zero n = let z : 0 + n ≡ n = omega arith in rw z refl
drop-drop [] (suc i) n = drop-none (suc i + n) ∙ sym (drop-none n)
drop-drop (l ∷ ls) (suc i) n = let z : suc i + n ≡ suc (i + n) = omega arith in rw z (drop-drop ls i n)

pub left-further : (P : Program) (price : Version → Instr → ℕ) (v : Version) (b i n : ℕ) → left P price v b (i + n) ≤ left P price v b i
unfolding left
left-further P price v b i n = rw (drop-drop (block_at v b).code i n) (tree-further (price v) (worth_at P price v) (drop i (block_at v b).code) n)

pub left-positive : (P : Program) (price : Version → Instr → ℕ) (v : Version) (b i : ℕ) → 1 ≤ left P price v b i
unfolding left
left-positive P price v b i = tree-positive (price v) (worth_at P price v) (drop i (block_at v b).code)

module _ (P : Program) (sure : Sure P) (price : Version → Instr → ℕ) (G : Version → Bool) where
  -- a block from its start is what it is worth
  pub left-start : (v : Version) → Checked P v → (b : ℕ) → get_elem? v.blocks b ≡ some (block_at v b) → left P price v b 0 ≡ worth_at P price v b
  unfolding left worth_at block_at
  left-start v ck b e = sym (worth-is (price v) v.blocks (upward P v ck) b (get_in v.blocks b no_block (block_at v b) e).0)

  -- past an instruction
  pub left-next : (v : Version) (b i : ℕ) (l : Line) → get_elem? (block_at v b).code i ≡ some l → left P price v b i ≡ price v l.does + promised (worth_at P price v) l.does + left P price v b (i + 1)
  unfolding left tree
  left-next v b i l e = rw (get_drop (block_at v b).code i l e, add-one i) refl

  -- ---- the activation on top moves past its instruction

  module _ (s : State) (inv : Inv P s) (run : s.status ≡ Status.Running) (h : ℕ) (d : s.depth ≡ suc h) (l : Line) (e : get_elem? (block_at (version_at P s.frames (top_of s h).frame) (top_of s h).block).code (top_of s h).next ≡ some l) where
    abbrev top-next : Activation
    top-next = record { opener = (top_of s h).opener; d = (top_of s h).d; frame = (top_of s h).frame; block = (top_of s h).block; next = (top_of s h).next + 1 }

    top-there : get_elem? s.activations (s.depth - 1) ≡ some (top_of s h)
    top-there = let m : s.depth - 1 ≡ h = omega (arith, d) in rw m (get-some s.activations h no_activation (omega (arith, d, inv.room, inv.deep)))

    pub passed-stack : stack_of (passed s (top_of s h)).activations (passed s (top_of s h)).depth ≡ top-next ∷ stack_of s.activations h
    unfolding passed with_stack
    passed-stack = let m : s.depth - 1 ≡ h = omega (arith, d) in rw (m, d) (stack_top s.activations h top-next (omega (arith, d, inv.room, inv.deep)))

    own-stack : stack_of s.activations s.depth ≡ top_of s h ∷ stack_of s.activations h
    unfolding stack_of
    own-stack = rw d refl

    passed-moved : Moved P price s (passed s (top_of s h))
    unfolding passed with_stack held live_frames pending live_activations
    passed-moved = record { versions = λ k. refl; calls = omega arith; fewer = λ p q. q; same = λ p q. refl; pends = λ p q r. any-alike (λ (a : Activation). is_force p a.opener) s.depth s.activations (s.depth - 1) top-next (top_of s h) top-there refl ∙ r }

    pub passed-falls : (m : ℕ) → Paid P price G s m → Falls P price G s (passed s (top_of s h)) m (price (version_at P s.frames (top_of s h).frame) l.does + promised (worth_at P price (version_at P s.frames (top_of s h).frame)) l.does)
    unfolding owed passed with_stack
    passed-falls m p = moved-paid P price G s (passed s (top_of s h)) m _ passed-moved (rw (passed-stack, own-stack) less) p
      where
        v : Version
        v = version_at P s.frames (top_of s h).frame

        less : owed P price (passed s (top_of s h)).frames (top-next ∷ stack_of s.activations h) + (price v l.does + promised (worth_at P price v) l.does) ≤ owed P price s.frames (top_of s h ∷ stack_of s.activations h)
        less = omega (arith, left-next v (top_of s h).block (top_of s h).next l e)

  -- ---- the activation on top moves further on: a SKIP that is taken

  module _ (s : State) (h : ℕ) (d : s.depth ≡ suc h) (a : Activation) (is : get_elem? s.activations (s.depth - 1) ≡ some a) (n : ℕ) where
    abbrev further : Activation
    further = record { opener = a.opener; d = a.d; frame = a.frame; block = a.block; next = a.next + n }

    abbrev skips-to : State
    skips-to = with_stack s s.frames s.calls (set s.activations (s.depth - 1) further) s.depth

    top-is-a : (h < length s.activations) × (top_of s h ≡ a)
    top-is-a = let m : s.depth - 1 ≡ h = omega (arith, d) in get_in s.activations h no_activation a (rw m at is)

    pub skip-falls : (m : ℕ) → Paid P price G s m → Falls P price G s skips-to m 0
    unfolding with_stack held live_frames pending live_activations owed stack_of
    skip-falls m p = moved-paid P price G s skips-to m 0
        (record { versions = λ k. refl; calls = omega arith; fewer = λ q e. e; same = λ q e. refl; pends = λ q e r. any-alike (λ (b : Activation). is_force q b.opener) s.depth s.activations (s.depth - 1) further a is refl ∙ r })
        (rw (stacked, whole) (omega (arith, left-further P price (version_at P s.frames a.frame) a.block a.next n))) p
      where
        stacked : stack_of (set s.activations (s.depth - 1) further) s.depth ≡ further ∷ stack_of s.activations h
        stacked = let m : s.depth - 1 ≡ h = omega (arith, d) in rw (m, d) (stack_top s.activations h further top-is-a.0)

        whole : stack_of s.activations s.depth ≡ a ∷ stack_of s.activations h
        whole = rw (d, top-is-a.1) refl

  -- ---- an instruction that keeps activations and promises

  still-moved : (s t : State) → Still s t → Keeps s t → Moved P price s t
  still-moved s t h k = record {
    versions = λ j. same_version P s.frames t.frames j (k.frames j);
    calls = omega (arith, k.count);
    fewer = h.fewer;
    same = λ p q. ap (λ (ps : List Promise). promise_at ps p) h.rests.promises;
    pends = λ p q r. pend-same s t p h.rests.activations h.rests.depth ∙ r;
  }

  pub still-falls : (s t : State) (m : ℕ) → Still s t → Keeps s t → Paid P price G s m → Falls P price G s t m 0
  still-falls s t m h k p = moved-paid P price G s t m 0 (still-moved s t h k) less p
    where
      less : owed P price t.frames (stack_of t.activations t.depth) + 0 ≤ owed P price s.frames (stack_of s.activations s.depth)
      less = rw (h.rests.activations, h.rests.depth) (omega (arith, owed_same P price s.frames t.frames (λ j. same_version P s.frames t.frames j (k.frames j)) (stack_of s.activations s.depth)))

  -- ---- PROM

  module _ (s : State) (n k block : ℕ) (inside : n < length s.promises) where
    abbrev made : Promise
    made = record { frame = k; block = block; cache = Cache.Unforced }

    made-same : promise_at (set s.promises n made) n ≡ made
    unfolding promise_at
    made-same = get_or-set_same s.promises n made no_promise inside

    made_other : (p : ℕ) → p ≢ n → promise_at (set s.promises n made) p ≡ promise_at s.promises p
    unfolding promise_at
    made_other p h = get_or-set_other s.promises n p made no_promise h

    -- the new one, or one that s refers to
    new-or : (t : State) → ((p : ℕ) → Either p (with_promise s n made) (Value.Promise n) t) → (p : ℕ) → p ≢ n → holds t p ≡ true → holds s p ≡ true
    unfolding with_promise held live_frames is_promise
    new-or t g p z h = go (g p h)
      where
        go : (eqb p n ≡ true) ⊎ (any (refers (is_promise p)) (take s.calls s.frames) ≡ true) → any (refers (is_promise p)) (take s.calls s.frames) ≡ true
        go (inl e) = absurd (z (eqb-true p n e))
        go (inr e) = e

    pub prom-paid : (t : State) (m : ℕ) → Rests (with_promise s n made) t → ((p : ℕ) → Either p (with_promise s n made) (Value.Promise n) t) → Keeps (with_promise s n made) t → Paid P price G s m
        → Paid P price G t (m + worth_at P price (version_at P s.frames k) block)
    unfolding with_promise Backed
    prom-paid t m r g ks p = record {
      purse = w;
      backed = λ q e. back q (ℕ_discrete q n) e;
      enough = rw (r.activations, r.depth) (omega (arith, p.enough, sum-filled p.purse n (worth_at P price (version_at P s.frames k) block) 0 PROMISES, owed_same P price s.frames t.frames versions (stack_of s.activations s.depth)));
      priced = λ j l. rw (versions j) (p.priced j (omega (arith, l, ks.count)));
    }
      where
        w : ℕ → ℕ
        w = filled p.purse n (worth_at P price (version_at P s.frames k) block)

        versions : (j : ℕ) → version_at P t.frames j ≡ version_at P s.frames j
        versions j = same_version P s.frames t.frames j (ks.frames j)

        back : (q : ℕ) → Dec (q ≡ n) → holds t q ≡ true → Backed P price w t.frames (promise_at t.promises q) (pending t q) q
        back q (yes e) h = rw (r.promises, e, made-same) (λ c. inr (rw (versions k, filled-same p.purse n (worth_at P price (version_at P s.frames k) block)) (omega arith)))
        back q (no e) h = rw (pend-same s t q r.activations r.depth, r.promises, made_other q e, versions (promise_at s.promises q).frame, filled-other p.purse n (worth_at P price (version_at P s.frames k) block) q e) (p.backed q (new-or t g q e h))
