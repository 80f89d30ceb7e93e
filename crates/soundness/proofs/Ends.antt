-- Block ends: a call goes back to its caller or is DONE, a force caches its integer.
use mathlib.Core.Path.{◌≡◌, refl, sym, ap, ◌∙◌}
use mathlib.Core.Logic.{◌⊎◌, inl, inr}
use mathlib.Core.List.{List, [], ◌∷◌}
use mathlib.Core.Option.{Option, none, some}
use mathlib.Core.Bool.{Bool, true, false, cond, false≢true}
use Prim.Native.Nat.{ℕ, zero, suc, ◌+◌, ◌-◌, ◌≤◌, ◌<◌}
use native.Mathlib.Decide.{ℕ_discrete}
use native.Mathlib.Omega.{arith}
use lib.IntN.{ℤ}
use lib.ListN.{length, get_or, get_elem?, set, length-set}
use lib.Dec.{eqb}
use borrow.Author.Tests.{eqb-true, eqb-false, eq-eqb, lt-ltb}
use Rattle.layout.specs.Bounds.{REGISTERS}
use Rattle.layout.specs.Tests.{◌and◌}
use Rattle.machine.proofs.Tries.{at_in}
use Rattle.sets.specs.Sets.{has}
use Rattle.program.specs.Program.{Version, Program}
use Rattle.rules.specs.Types.{kind_of, is_owned, is_borrowed, within}
use Rattle.rules.specs.Fits.{type_of, plain, fresh, fits_return}
use Rattle.rules.specs.Actions.{Action}
use Rattle.rules.proofs.Prefixes.{met-end}
use Rattle.rules.proofs.Needs.{yielded}
use Rattle.rules.proofs.Touches.{has-those}
use Rattle.rules.proofs.Rules.{Yields}
use Rattle.checker.proofs.Accepted.{Checked}
use Rattle.machine.specs.Try.{got, ◌>>=◌}
use Rattle.machine.specs.States.{ACTIVATIONS, VECTORS, PROMISES, new_vector, an_integer, value, with_stack, with_promise, with_end}
use Rattle.machine.specs.Calls.{back, closed, done, finish}
use Rattle.machine.specs.declared.Activation.{Activation}
use Rattle.machine.specs.declared.Cache.{Cache}
use Rattle.machine.specs.declared.End.{End}
use Rattle.machine.specs.declared.Frame.{Frame}
use Rattle.machine.specs.declared.Opener.{Opener}
use Rattle.machine.specs.declared.Promise.{Promise}
use Rattle.machine.specs.declared.State.{State}
use Rattle.machine.specs.declared.Status.{Status}
use Rattle.machine.specs.declared.Value.{Value}
use Rattle.soundness.proofs.Cells.{frame_at, cell_at, write_at, wrote, at_same, assign-is, register-is}
use Rattle.soundness.proofs.Invariant.{Sure, version_at, block_at, promise_at, type_at, is_full, Fits, Unshared, Lone, Heap, Ext, every, top, waits, is_pend, Gets, Stands, Opened, below, gives, awaited, Base, Stack, no_activation, stack_of, Inv}
use Rattle.soundness.proofs.Progress.{Good, good, good-got, good-test}
use Rattle.soundness.proofs.Types.{clash, register-type, shared-owned, owned-owned, owned-kind, plain_shared, plain-kind, fresh-kind, integer-kind, force-kind, force-owned, within-trans, fits-within, fits-down, fits-promise, an-integer}
use Rattle.soundness.proofs.Heap.{ext-every, ext-full, heap-write, heap-pop, heap-promises, lone-unless, stack-ext}
use Rattle.soundness.proofs.Versions.{return-kind, promise-result, body-result, result-exists, register-in}
use Rattle.soundness.proofs.Stacks.{opened-live}
use Rattle.soundness.proofs.KindsOf.{value_kind, kind-got, kind-within, kind_fits, promise-is}
use Rattle.soundness.proofs.Operands.{full-value}
use Rattle.soundness.proofs.Plain.{no-vector}
use Rattle.soundness.proofs.Promises.{promise-same, promise-other}
use Rattle.rules.proofs.Follows.{second_reads, not-true as not-false}

-- ---- a result enters the register d of the activation b that waits for it

module _ (P : Program) (sure : Sure P) {K : ℕ → ℕ → Bool} (fs : List Frame) (m : ℕ) (ps : List Promise) (H : Heap P K fs m ps) (d t k : ℕ) (b : Activation) (rest : List Activation) (U : Stack P K fs (waits d t k) m (b ∷ rest)) where
  waiting : Stands P K fs (waits d t k) b.frame b.block b.next
  unfolding Stack
  waiting = U.0

  pub caller-live : b.frame < m
  unfolding Stack
  caller-live = opened-live m b.frame b.block b.opener U.1

  caller : Checked P (version_at P fs b.frame)
  caller = sure _ _ _ (H.known b.frame caller-live)

  pub d-in : d < REGISTERS
  unfolding Gets
  d-in = register-in P _ caller d waiting.gets.0

  pub d-fits : fits_return (version_at P fs b.frame) d t ≡ true
  unfolding Gets
  d-fits = waiting.gets.1

  pub settle : (x : Value) → is_full x ≡ true → Fits P K fs ps b.frame (type_of (version_at P fs b.frame) d) x → Lone P fs m b.frame d x
      → Heap P K (write_at fs b.frame d x) m ps × Stack P K (write_at fs b.frame d x) top m (b ∷ rest)
  unfolding Stack type_at Gets is_pend
  settle x fx fits-x lone = (
    heap-write P fs m ps H b.frame d caller-live (omega (arith, d-in)) x (ext-every K e) (rw (register-type (version_at P fs b.frame) d d-in) fits-x) lone,
    (record { action = X.0.action; does = X.0.does; inside = X.0.inside; done = X.0.done; is-done = X.0.is-done; ready = λ r h u n. inr (go r (X.0.ready r h u n)); keeps = X.0.keeps; gets = tt }, X.1, X.2),
  )
    where
      fs' : List Frame
      fs' = write_at fs b.frame d x

      e : Ext m every fs (write_at fs b.frame d x)
      e = ext-full P fs m ps H b.frame d caller-live (omega (arith, d-in)) x fx

      X : Stack P K (write_at fs b.frame d x) (waits d t k) m (b ∷ rest)
      X = stack-ext P K m fs fs' (waits d t k) e (b ∷ rest) U

      go : (r : ℕ) → (eqb r d ≡ true) ⊎ (is_full (cell_at fs' b.frame r) ≡ true) → is_full (cell_at fs' b.frame r) ≡ true
      go r (inl q) = rw (eqb-true r d q, at_same fs H.sized b.frame d x (omega (arith, caller-live, H.bound)) (omega (arith, d-in))) fx
      go r (inr q) = q

-- ---- back to the activation below, with n calls left

goes_back : (P : Program) (sure : Sure P) {K : ℕ → ℕ → Bool} (s : State) (n h d t k : ℕ) (x : Value) → length s.vectors ≡ VECTORS → length s.activations ≡ ACTIVATIONS → s.depth ≤ ACTIVATIONS → s.depth ≡ suc (suc h)
    → (H : Heap P K s.frames n s.promises) (U : Stack P K s.frames (waits d t k) n (get_or s.activations h no_activation ∷ stack_of s.activations h)) → is_full x ≡ true
    → Fits P K s.frames s.promises (get_or s.activations h no_activation).frame (type_of (version_at P s.frames (get_or s.activations h no_activation).frame) d) x
    → Lone P s.frames n (get_or s.activations h no_activation).frame d x → Good (Inv P) (back s n d x)
unfolding back with_stack wrote stack_of
goes_back P sure {K} s n h d t k x v r e eh H U fx fits-x lone =
    let b = get_or s.activations h no_activation in
    let m : s.depth - 2 ≡ h = omega arith in
    let j : s.depth - 1 ≡ suc h = omega arith in
    let u = with_stack s s.frames n s.activations (s.depth - 1) in
    let z = settle P sure s.frames n s.promises H d t k b (stack_of s.activations h) U x fx fits-x lone in
    good-test (Inv P) _ _ (lt-ltb 1 s.depth (omega arith)) (good-got (Inv P) _ b _ (rw m (at_in s.activations h no_activation (omega arith)))
    (good (Inv P) _ (wrote u b.frame d x) (assign-is u H.sized b.frame (caller-live P sure s.frames n s.promises H d t k b _ U) H.bound d x (d-in P sure s.frames n s.promises H d t k b _ U))
    (record { keep = K; heap = z.0; vectors = v; room = r; deep = omega arith; stack = λ _. rw j z.1 })))

-- an ended state does not run
pub not-running : (e : End) → Status.Ended e ≡ Status.Running → ⊥
not-running e q = let z : ◌≡◌ {A = ℕ} 0 1 = cc in omega arith

an-integer-got : (z : ℤ) → an_integer (Value.Integer z) ≡ got z
unfolding an_integer
an-integer-got z = refl

-- under a force there is an activation
below-some : (P : Program) (K : ℕ → ℕ → Bool) (fs : List Frame) (d t k n : ℕ) (l : List Activation) (h : ℕ) → Stack P K fs (waits d t k) n (stack_of l h) → 0 < n → (h' : ℕ) × (h ≡ suc h')
unfolding Stack Base stack_of
below-some P K fs d t k n l zero s g = absurd (omega arith)
below-some P K fs d t k n l (suc h) s g = (h, refl)

-- ---- the newest activation at the end of its block

pub record AtEnd (P : Program) (s : State) (h : ℕ) (a : Activation) : Type 0 where
  pub inv : Inv P s
  pub deep : s.depth ≡ suc h
  pub stands : Stands P inv.keep s.frames top a.frame a.block a.next
  pub opened : Opened s.calls a.frame a.block a.opener
  pub under : Stack P inv.keep s.frames (awaited P s.frames a) (below s.calls a.frame a.opener) (stack_of s.activations h)
  pub ended : get_elem? (block_at (version_at P s.frames a.frame) a.block).code a.next ≡ none

module _ (P : Program) (sure : Sure P) (s : State) (h : ℕ) (a : Activation) (W : AtEnd P s h a) where
  abbrev X : Version
  X = version_at P s.frames a.frame

  -- the result register
  abbrev res : ℕ
  res = (block_at (version_at P s.frames a.frame) a.block).result

  H : Heap P W.inv.keep s.frames s.calls s.promises
  H = W.inv.heap

  hf : a.frame < s.calls
  hf = opened-live s.calls a.frame a.block a.opener W.opened

  own : Checked P (version_at P s.frames a.frame)
  own = sure _ _ _ (W.inv.heap.known a.frame hf)

  there : get_elem? X.blocks a.block ≡ some (block_at X a.block)
  there = W.stands.does.there

  res-in : (block_at X a.block).result < REGISTERS
  res-in = register-in P X own _ (result-exists P X own a.block _ there)

  res-full : is_full (cell_at s.frames a.frame (block_at X a.block).result) ≡ true
  unfolding is_pend
  res-full =
      let m = met-end W.stands.does a.next W.stands.done W.ended W.stands.is-done in
      let r : has m.0.R res ≡ true = ap (λ (o : Option Action). reads o res) (sym m.1) ∙ has-those 16 (res ∷ []) 0 res res-in refl in
      go (W.stands.ready res (second_reads m.2 res r) (not-false _ (λ u. clash r (m.2.clear.emptied res u).0)) (yielded a.next W.ended (has-those 16 (res ∷ []) 0 res res-in refl)))
    where
      reads : Option Action → ℕ → Bool
      reads none r = false
      reads (some x) r = has x.R r

      go : (false ≡ true) ⊎ (is_full (cell_at s.frames a.frame res) ≡ true) → is_full (cell_at s.frames a.frame res) ≡ true
      go (inl e) = absurd (false≢true e)
      go (inr e) = e

  res_typed : Fits P W.inv.keep s.frames s.promises a.frame (type_of X (block_at X a.block).result) (cell_at s.frames a.frame (block_at X a.block).result)
  unfolding type_at
  res_typed = rw (register-type X res res-in) at (W.inv.heap.typed a.frame res hf)

  res-got : value (frame_at s.frames a.frame) (block_at X a.block).result ≡ got (cell_at s.frames a.frame (block_at X a.block).result)
  unfolding value ◌>>=◌ cell_at
  res-got = rw (register-is (frame_at s.frames a.frame) (W.inv.heap.sized.whole a.frame (omega (arith, hf, W.inv.heap.bound))) res res-in) (full-value (cell_at s.frames a.frame res) res-full)

  -- ---- a call

  module _ (newest : suc a.frame ≡ s.calls) (body : a.block ≡ 0) where
    -- what question 8 found of the result register
    yields : Yields (version_at P s.frames a.frame) (block_at (version_at P s.frames a.frame) a.block)
    yields = body-result P X own (block_at X a.block) (ap (get_elem? X.blocks) (sym body) ∙ there)

    fits-return : Fits P W.inv.keep s.frames s.promises a.frame X.return (cell_at s.frames a.frame (block_at X a.block).result)
    fits-return = fits-within P W.inv.keep s.frames s.promises a.frame _ _ yields.kind _ res_typed

    kind-fits-return : within (value_kind P s.frames s.promises (cell_at s.frames a.frame (block_at X a.block).result)) (kind_of X.return) ≡ true
    kind-fits-return = kind-within P W.inv.keep s.frames s.promises a.frame X.return _ res-full fits-return

    -- DONE
    is-done : (x : Value) → is_full x ≡ true → Fits P W.inv.keep s.frames s.promises a.frame X.return x → Good (Inv P) (done s x)
    unfolding done closed with_end with_stack is_full Fits
    is-done Value.Empty f t = absurd (false≢true f)
    is-done (Value.Integer z) f t = good (Inv P) _ _ refl (record { keep = W.inv.keep; heap = heap-pop P s.frames s.calls 0 s.promises (omega arith) W.inv.heap; vectors = W.inv.vectors; room = W.inv.room; deep = omega arith; stack = λ e. absurd (not-running _ e) })
    is-done (Value.Vector v) f t = good-got (Inv P) _ _ _ (at_in s.vectors v (new_vector []) (omega (arith, t.1, W.inv.vectors)))
        (good (Inv P) _ _ refl (record { keep = W.inv.keep; heap = heap-pop P s.frames s.calls 0 s.promises (omega arith) W.inv.heap; vectors = W.inv.vectors; room = W.inv.room; deep = omega arith; stack = λ e. absurd (not-running _ e) }))
    is-done (Value.Promise p) f t = absurd (fits-promise P W.inv.keep s.frames s.promises a.frame X.return p (return-kind P X own) t)

    -- back to the caller b
    module _ (b : Activation) (d : ℕ) (fr : fits_return (version_at P s.frames b.frame) d X.return ≡ true) (hd : d < REGISTERS) where
      abbrev B : Version
      B = version_at P s.frames b.frame

      fits-d : Fits P W.inv.keep s.frames s.promises b.frame (type_of (version_at P s.frames b.frame) d) (cell_at s.frames a.frame (block_at X a.block).result)
      unfolding fits_return
      fits-d = kind_fits P W.inv.keep s.frames s.promises b.frame X.return (type_of B d) _ (fits-down P W.inv.keep s.frames s.promises a.frame b.frame X.return (return-kind P X own) _ fits-return) (go (is_owned X.return) refl fr)
        where
          go : (o : Bool) → is_owned X.return ≡ o → cond o (fresh B d) (plain B d (kind_of X.return)) ≡ true → within (value_kind P s.frames s.promises (cell_at s.frames a.frame res)) (kind_of (type_of B d)) ≡ true
          go true r f = within-trans _ 3 _ (rw (owned-kind X res (yields.own r)) at (kind-within P W.inv.keep s.frames s.promises a.frame (type_of X res) _ res-full res_typed)) (fresh-kind B d f)
          go false r f = within-trans _ (kind_of X.return) _ kind-fits-return (plain-kind B d _ f)

      lone-d : Lone P s.frames a.frame b.frame d (cell_at s.frames a.frame (block_at X a.block).result)
      unfolding Lone Unshared type_at fits_return
      lone-d w k c e hk q _ = go (is_owned X.return) refl fr
        where
          apart : (k ≡ a.frame) × (c ≡ res) → ⊥
          apart y = omega (arith, y.0)

          not-above : is_owned (type_of X res) ≡ true → ((k ≡ a.frame) × (c ≡ res)) ⊎ ((is_borrowed (type_at P s.frames k c) ≡ true) × (a.frame < k)) → ⊥
          not-above o (inl y) = apart y
          not-above o (inr y) = omega (arith, y.1)

          unowned : is_borrowed (type_of X res) ≡ false → ((a.frame ≡ k) × (res ≡ c)) ⊎ ((is_borrowed (type_at P s.frames a.frame res) ≡ true) × (k < a.frame)) → ⊥
          unowned n (inl y) = omega (arith, y.0)
          unowned n (inr y) = clash (rw (register-type X res res-in) at y.0) n

          go : (o : Bool) → is_owned X.return ≡ o → cond o (fresh B d) (plain B d (kind_of X.return)) ≡ true → (is_owned (type_at P s.frames b.frame d) ≡ false) × (is_owned (type_at P s.frames k c) ≡ false)
          go true r f = let o = owned-owned X res (yields.own r) in absurd (not-above o (W.inv.heap.own a.frame res k c w hf (omega (arith, hk, hf)) e q (rw (register-type X res res-in) o)))
          go false r f = (rw (register-type B d hd) (shared-owned _ (plain_shared B d _ f)), not-false _ (λ o. unowned (yields.lent r) (W.inv.heap.own k c a.frame res w (omega (arith, hk, hf)) hf q e o)))

    call-under : Stack P W.inv.keep s.frames (waits a.d X.return (block_at X a.block).mark) a.frame (stack_of s.activations h) → (h' : ℕ) → h ≡ suc h' → Good (Inv P) (back s a.frame a.d (cell_at s.frames a.frame (block_at X a.block).result))
    unfolding stack_of
    call-under U h' e =
        let b = get_or s.activations h' no_activation in
        let H' = heap-pop P s.frames s.calls a.frame s.promises (omega (arith, hf)) W.inv.heap in
        let U' : Stack P W.inv.keep s.frames (waits a.d X.return (block_at X a.block).mark) a.frame (b ∷ stack_of s.activations h') = rw e at U in
        let hd = d-in P sure s.frames a.frame s.promises H' a.d X.return _ b _ U' in
        let fr = d-fits P sure s.frames a.frame s.promises H' a.d X.return _ b _ U' in
        goes_back P sure s a.frame h' a.d X.return _ _ W.inv.vectors W.inv.room W.inv.deep (W.deep ∙ ap suc e) H' U' res-full (fits-d b a.d fr hd) (lone-d b a.d fr hd)

  -- ---- a force

  force-under : (p : ℕ) (z : ℤ) (q : Promise) → Stack P W.inv.keep s.frames (waits a.d 2 (block_at X a.block).mark) s.calls (stack_of s.activations h) → (h' : ℕ) → h ≡ suc h' → p < PROMISES → q ≡ promise_at s.promises p
      → Good (Inv P) (back (with_promise s p (record { frame = q.frame; block = q.block; cache = Cache.Forced z })) s.calls a.d (Value.Integer z))
  unfolding stack_of with_promise Fits is_full fits_return
  force-under p z q U h' e hp is =
      let b = get_or s.activations h' no_activation in
      let q' : Promise = record { frame = q.frame; block = q.block; cache = Cache.Forced z } in
      let H' = heap-promises P s.frames s.calls s.promises (set s.promises p q') (λ p' _ _ _ _. cached p z q p' hp is) (length-set s.promises p q' ∙ W.inv.heap.pool) W.inv.heap in
      let U' : Stack P W.inv.keep s.frames (waits a.d 2 (block_at X a.block).mark) s.calls (b ∷ stack_of s.activations h') = rw e at U in
      let fr : plain (version_at P s.frames b.frame) a.d 2 ≡ true = rw (force-owned, force-kind) at (d-fits P sure s.frames s.calls _ H' a.d 2 _ b _ U') in
      goes_back P sure (with_promise s p q') s.calls h' a.d 2 _ (Value.Integer z) W.inv.vectors W.inv.room W.inv.deep (W.deep ∙ ap suc e) H' U' refl (plain-kind (version_at P s.frames b.frame) a.d 2 fr) (lone-unless P s.frames s.calls b.frame a.d (Value.Integer z) (no-vector z))
    where
      cached : (p : ℕ) (z : ℤ) (q : Promise) (p' : ℕ) → p < PROMISES → q ≡ promise_at s.promises p
          → ((promise_at (set s.promises p (record { frame = q.frame; block = q.block; cache = Cache.Forced z })) p').frame ≡ (promise_at s.promises p').frame) × ((promise_at (set s.promises p (record { frame = q.frame; block = q.block; cache = Cache.Forced z })) p').block ≡ (promise_at s.promises p').block)
      cached p z q p' hp is = go (ℕ_discrete p' p)
        where
          go : Dec (p' ≡ p) → ((promise_at (set s.promises p (record { frame = q.frame; block = q.block; cache = Cache.Forced z })) p').frame ≡ (promise_at s.promises p').frame) × ((promise_at (set s.promises p (record { frame = q.frame; block = q.block; cache = Cache.Forced z })) p').block ≡ (promise_at s.promises p').block)
          go (yes y) = rw (y, promise-same s.promises p _ (omega (arith, W.inv.heap.pool))) (ap (λ (x : Promise). x.frame) is, ap (λ (x : Promise). x.block) is)
          go (no y) = rw (promise-other s.promises p p' _ y) (refl, refl)

  -- ---- the end of the block

  finishes : (o : Opener) → Opened s.calls a.frame a.block o → Stack P W.inv.keep s.frames (waits a.d (gives X o) (block_at X a.block).mark) (below s.calls a.frame o) (stack_of s.activations h)
      → Good (Inv P) (finish P s a (version_at P s.frames a.frame) (cell_at s.frames a.frame (block_at X a.block).result) o)
  unfolding finish Opened gives below ◌and◌
  finishes Opener.Call O U =
      good-got (Inv P) _ _ _ (kind-got P s W.inv.heap W.inv.vectors a.frame X.return hf _ res-full (fits-return O.0 O.1))
      (good-test (Inv P) _ _ (kind-fits-return O.0 O.1) (good-test (Inv P) _ _ (rw (eq-eqb a.block 0 O.1, eq-eqb (a.frame + 1) s.calls (omega (arith, O.0))) refl) (last (eqb s.depth 1) refl)))
    where
      last : (b : Bool) → eqb s.depth 1 ≡ b → Good (Inv P) (elim b [ true ↦ done s (cell_at s.frames a.frame res) | false ↦ back s a.frame a.d (cell_at s.frames a.frame res) ])
      last true e = is-done O.0 O.1 _ res-full (fits-return O.0 O.1)
      last false e = call-under O.0 O.1 U (h - 1) (omega (arith, W.deep, eqb-false s.depth 1 e))
  finishes (Opener.Force p) O U =
      let z = an-integer P W.inv.keep s.frames s.promises a.frame _ (cell_at s.frames a.frame res) (integer-kind _ (promise-result P X own a.block _ there O.1)) res-full res_typed in
      let e = below-some P W.inv.keep s.frames a.d 2 _ s.calls s.activations h U (omega (arith, O.0)) in
      rw z.1 (good-got (Inv P) _ z.0 _ (an-integer-got z.0) (good-got (Inv P) _ (promise_at s.promises p) _ (promise-is s p (omega (arith, O.2, W.inv.heap.pool))) (force-under p z.0 (promise_at s.promises p) U e.0 e.1 O.2 refl)))

  -- ---- THE LAW of a block end
  pub end-ok : Good (Inv P) (value (frame_at s.frames a.frame) (block_at X a.block).result >>= λ v. finish P s a (version_at P s.frames a.frame) v a.opener)
  unfolding awaited
  end-ok = good-got (Inv P) _ _ _ res-got (finishes a.opener W.opened W.under)
