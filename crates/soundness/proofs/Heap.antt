-- How the parts of the invariant outlive a change of the frames.
use mathlib.Core.Path.{◌≡◌, refl, sym, ◌∙◌}
use mathlib.Core.Logic.{◌⊎◌, inl, inr}
use mathlib.Core.List.{List, [], ◌∷◌}
use mathlib.Core.Option.{some}
use mathlib.Core.Bool.{Bool, true, false, ◌||◌}
use Prim.Native.Nat.{ℕ, zero, suc, ◌≤◌, ◌<◌}
use native.Mathlib.Decide.{dec_lt}
use native.Mathlib.Omega.{arith}
use lib.ListN.{length, set}
use Rattle.sets.specs.Sets.{has}
use Rattle.program.specs.Program.{Version, Program, find_version}
use Rattle.rules.specs.Types.{is_owned, is_borrowed}
use Rattle.rules.specs.Actions.{Action}
use Rattle.rules.proofs.Follows.{or_left, or_right}
use Rattle.machine.specs.States.{ACTIVATIONS, PROMISES}
use Rattle.machine.specs.declared.Activation.{Activation}
use Rattle.machine.specs.declared.Frame.{Frame}
use Rattle.machine.specs.declared.Promise.{Promise}
use Rattle.machine.specs.declared.Value.{Value}
use Rattle.soundness.proofs.Cells.{CELLS, Whole, Apart, place?, frame_at, cell, cell_at, write_at, at_same, at_other, at-function, at-version, write-sized, write-all, set_same, set_other, set-sized}
use Rattle.soundness.proofs.Invariant.{or_none, version_at, promise_at, cell_type, type_at, is_full, touches, Alive, kind_at, PromiseFits, Fits, Unshared, Lone, Heap, Ext, every, Pend, is_pend, Keeps, Stands, below, awaited, Stack}
use Rattle.soundness.proofs.Types.{clash}
use Rattle.soundness.proofs.Stacks.{opened-live, below-le}

-- ---- versions

pub same_version : (P : Program) {n : ℕ} {L : ℕ → ℕ → Bool} {fs fs' : List Frame} → Ext n L fs fs' → (k : ℕ) → k < n → version_at P fs' k ≡ version_at P fs k
unfolding version_at
same_version P e k h = rw (e.functions k h, e.versions k h) refl

pub same-type : (P : Program) {n : ℕ} {L : ℕ → ℕ → Bool} {fs fs' : List Frame} → Ext n L fs fs' → (k c : ℕ) → k < n → type_at P fs' k c ≡ type_at P fs k c
unfolding type_at
same-type P e k c h = rw (same_version P e k h) refl

pub ext-every : {n : ℕ} {fs fs' : List Frame} (L : ℕ → ℕ → Bool) → Ext n every fs fs' → Ext n L fs fs'
ext-every L e = record { functions = e.functions; versions = e.versions; grow = λ k c h _. e.grow k c h refl }

pub ext-less : {n : ℕ} {L : ℕ → ℕ → Bool} {fs fs' : List Frame} (m : ℕ) → m ≤ n → Ext n L fs fs' → Ext m L fs fs'
ext-less m l e = record { functions = λ k h. e.functions k (omega arith); versions = λ k h. e.versions k (omega arith); grow = λ k c h. e.grow k c (omega arith) }

pub ext-both : {n : ℕ} {fs fs' fs'' : List Frame} → Ext n every fs fs' → Ext n every fs' fs'' → Ext n every fs fs''
ext-both e g = record {
  functions = λ k h. g.functions k h ∙ e.functions k h;
  versions = λ k h. g.versions k h ∙ e.versions k h;
  grow = λ k c h _ q. g.grow k c h refl (e.grow k c h refl q);
}

pub ext_same : (n : ℕ) (L : ℕ → ℕ → Bool) (fs : List Frame) → Ext n L fs fs
ext_same n L fs = record { functions = λ k _. refl; versions = λ k _. refl; grow = λ k c _ _ q. q }

pub known-ext : (P : Program) {n : ℕ} {L : ℕ → ℕ → Bool} {fs fs' : List Frame} → Ext n L fs fs' → (k : ℕ) → k < n
    → find_version P (frame_at fs k).function (frame_at fs k).version ≡ some (version_at P fs k) → find_version P (frame_at fs' k).function (frame_at fs' k).version ≡ some (version_at P fs' k)
known-ext P e k h q = rw (same_version P e k h, e.functions k h, e.versions k h) q

pub touches-read : (a : Action) (r : ℕ) → has a.R r ≡ true → touches a r ≡ true
unfolding touches
touches-read a r h = or_left (has a.C r) (or_left (has a.U r) (or_left (has a.W r) h))

pub touches-captured : (a : Action) (r : ℕ) → has a.C r ≡ true → touches a r ≡ true
unfolding touches
touches-captured a r h = or_right (has a.R r || has a.W r || has a.U r) h

-- ---- values and activations

pub same-awaited : (P : Program) (fs fs' : List Frame) (a : Activation) → version_at P fs' a.frame ≡ version_at P fs a.frame → awaited P fs' a ≡ awaited P fs a
unfolding awaited
same-awaited P fs fs' a e = rw e refl

module _ (P : Program) (K : ℕ → ℕ → Bool) where
  pub alive-ext : (n : ℕ) (fs fs' : List Frame) (f b : ℕ) → Ext n (K) fs fs' → f < n → Alive P K fs f b → Alive P K fs' f b
  alive-ext n fs fs' f b e h a = record {
    positive = a.positive;
    action = a.action;
    does = rw (same_version P e f h) a.does;
    ready = λ r q. e.grow f r h (a.kept r (touches-read a.action r q)) (a.ready r q);
    kept = a.kept;
  }

  pub promise-ext : (n : ℕ) (fs fs' : List Frame) (q : Promise) (k t : ℕ) → Ext n (K) fs fs' → k < n → PromiseFits P K fs q k t → PromiseFits P K fs' q k t
  unfolding kind_at
  promise-ext n fs fs' q k t e h a = let l : q.frame < n = omega (arith, a.older) in record {
    kind = rw (same_version P e q.frame l) a.kind;
    older = a.older;
    alive = alive-ext n fs fs' q.frame q.block e l a.alive;
  }

  pub fits-ext : (n : ℕ) (fs fs' : List Frame) (ps : List Promise) (k t : ℕ) → Ext n (K) fs fs' → k < n → (x : Value) → Fits P K fs ps k t x → Fits P K fs' ps k t x
  unfolding Fits
  fits-ext n fs fs' ps k t e h Value.Empty f = tt
  fits-ext n fs fs' ps k t e h (Value.Integer z) f = f
  fits-ext n fs fs' ps k t e h (Value.Vector i) f = f
  fits-ext n fs fs' ps k t e h (Value.Promise p) f = (f.0, promise-ext n fs fs' (promise_at ps p) k t e h f.1)

  pub fits-up : (fs : List Frame) (ps : List Promise) (k k' t : ℕ) → k ≤ k' → (x : Value) → Fits P K fs ps k t x → Fits P K fs ps k' t x
  unfolding Fits
  fits-up fs ps k k' t l Value.Empty f = tt
  fits-up fs ps k k' t l (Value.Integer z) f = f
  fits-up fs ps k k' t l (Value.Vector i) f = f
  fits-up fs ps k k' t l (Value.Promise p) f = (f.0, record { kind = f.1.kind; older = omega (arith, f.1.older); alive = f.1.alive })

  -- activations under the top, whose frames lie below n
  pub stands-ext : (n : ℕ) (fs fs' : List Frame) (pend : Pend) (f b i : ℕ) → Ext n every fs fs' → f < n → Stands P K fs pend f b i → Stands P K fs' pend f b i
  stands-ext n fs fs' pend f b i e h a = record {
    action = a.action;
    does = rw (same_version P e f h) a.does;
    inside = rw (same_version P e f h) a.inside;
    done = a.done;
    is-done = rw (same_version P e f h) a.is-done;
    ready = λ r q u n. go r (a.ready r q u (rw (same_version P e f h) at n));
    keeps = a.keeps;
    gets = rw (same_version P e f h) a.gets;
  }
    where
      go : (r : ℕ) → (is_pend pend r ≡ true) ⊎ (is_full (cell_at fs f r) ≡ true) → (is_pend pend r ≡ true) ⊎ (is_full (cell_at fs' f r) ≡ true)
      go r (inl p) = inl p
      go r (inr p) = inr (e.grow f r h refl p)

  pub stack-ext : (n : ℕ) (fs fs' : List Frame) (pend : Pend) → Ext n every fs fs' → (l : List Activation) → Stack P K fs pend n l → Stack P K fs' pend n l
  unfolding Stack
  stack-ext n fs fs' pend e [] s = s
  stack-ext n fs fs' pend e (a ∷ rest) s =
      let h = opened-live n a.frame a.block a.opener s.1 in
      let m = below n a.frame a.opener in
      (stands-ext n fs fs' pend a.frame a.block a.next e h s.0, s.1, rw (same-awaited P fs fs' a (same_version P e a.frame h)) (stack-ext m fs fs' (awaited P fs a) (ext-less m (below-le n a.frame a.block a.opener s.1) e) rest s.2))

-- ---- frames keep more

module _ (P : Program) (K K' : ℕ → ℕ → Bool) (fs : List Frame) (n : ℕ) (more : (k r : ℕ) → k < n → K k r ≡ true → K' k r ≡ true) where
  pub alive-keep : (f b : ℕ) → f < n → Alive P K fs f b → Alive P K' fs f b
  alive-keep f b h a = record { positive = a.positive; action = a.action; does = a.does; ready = a.ready; kept = λ r q. more f r h (a.kept r q) }

  pub fits-keep : (ps : List Promise) (k t : ℕ) → k < n → (x : Value) → Fits P K fs ps k t x → Fits P K' fs ps k t x
  unfolding Fits
  fits-keep ps k t h Value.Empty f = tt
  fits-keep ps k t h (Value.Integer z) f = f
  fits-keep ps k t h (Value.Vector i) f = f
  fits-keep ps k t h (Value.Promise p) f =
      (f.0, record { kind = f.1.kind; older = f.1.older; alive = alive-keep (promise_at ps p).frame (promise_at ps p).block (omega (arith, f.1.older)) f.1.alive })

  pub heap-keep : (ps : List Promise) → Heap P K fs n ps → Heap P K' fs n ps
  heap-keep ps H = record { sized = H.sized; bound = H.bound; pool = H.pool; known = H.known; typed = λ k c h. fits-keep ps k (type_at P fs k c) h (cell_at fs k c) (H.typed k c h); own = H.own }

-- the frames of a stack keep the same
keeps_same : (b : ℕ) (k k' : ℕ → Bool) (done action : Action) → ((r : ℕ) → k' r ≡ k r) → Keeps b k done action → Keeps b k' done action
unfolding Keeps
keeps_same zero k k' done action e h = λ r. e r ∙ h r
keeps_same (suc b) k k' done action e h = λ r q. e r ∙ h r q

pub stack-keep : (P : Program) (K K' : ℕ → ℕ → Bool) (fs : List Frame) (n : ℕ) (pend : Pend) → ((k r : ℕ) → k < n → K' k r ≡ K k r) → (l : List Activation) → Stack P K fs pend n l → Stack P K' fs pend n l
unfolding Stack
stack-keep P K K' fs n pend same [] s = s
stack-keep P K K' fs n pend same (a ∷ rest) s =
    let x = s.0 in
    let h = opened-live n a.frame a.block a.opener s.1 in
    let m = below-le n a.frame a.block a.opener s.1 in (
      record { action = x.action; does = x.does; inside = x.inside; done = x.done; is-done = x.is-done; ready = x.ready; keeps = keeps_same a.block (K a.frame) (K' a.frame) x.done x.action (λ r. same a.frame r h) x.keeps; gets = x.gets },
      s.1,
      stack-keep P K K' fs (below n a.frame a.opener) (awaited P fs a) (λ k r g. same k r (omega arith)) rest s.2,
    )

-- ---- one cell of a live frame gets a value

module _ (P : Program) {K : ℕ → ℕ → Bool} (fs : List Frame) (n : ℕ) (ps : List Promise) (H : Heap P K fs n ps) (k c : ℕ) (hk : k < n) (hc : c < CELLS) where
  inside : k < ACTIVATIONS
  inside = omega (arith, H.bound)

  pub ext-full : (v : Value) → is_full v ≡ true → Ext n every fs (write_at fs k c v)
  ext-full v f = record {
    functions = λ k' _. at-function fs H.sized k c v inside hc k';
    versions = λ k' _. at-version fs H.sized k c v inside hc k';
    grow = λ k' c' _ _. write-all fs H.sized k c v inside hc (λ k' c' x. is_full (cell_at fs k' c') ≡ true → is_full x ≡ true) (λ _. f) (λ k' c' _ q. q) k' c';
  }

  own-write : (v : Value) → ((k' : ℕ) → k' < n → version_at P (write_at fs k c v) k' ≡ version_at P fs k') → Lone P fs n k c v → Unshared P (write_at fs k c v) n
  unfolding Unshared Lone type_at
  own-write v same lone k₁ c₁ k₂ c₂ w h₁ h₂ e₁ e₂ o = go (place? k c k₁ c₁) (place? k c k₂ c₂)
    where
      fs' : List Frame
      fs' = write_at fs k c v

      o' : is_owned (cell_type (version_at P fs k₁) c₁) ≡ true
      o' = rw (same k₁ h₁) at o

      hit : (k' c' : ℕ) → k' ≡ k → c' ≡ c → cell_at fs' k' c' ≡ Value.Vector w → v ≡ Value.Vector w
      hit k' c' p q e = sym (at_same fs H.sized k c v inside hc) ∙ (rw (p, q) at e)

      miss : (k' c' : ℕ) → Apart k c k' c' → cell_at fs' k' c' ≡ Value.Vector w → cell_at fs k' c' ≡ Value.Vector w
      miss k' c' a e = sym (at_other fs H.sized k c v inside hc k' c' a) ∙ e

      go : ((k₁ ≡ k) × (c₁ ≡ c)) ⊎ Apart k c k₁ c₁ → ((k₂ ≡ k) × (c₂ ≡ c)) ⊎ Apart k c k₂ c₂ → ((k₂ ≡ k₁) × (c₂ ≡ c₁)) ⊎ ((is_borrowed (cell_type (version_at P fs' k₂) c₂) ≡ true) × (k₁ < k₂))
      go (inl p) (inl q) = inl (q.0 ∙ sym p.0, q.1 ∙ sym p.1)
      go (inl p) (inr q) = clash (rw (p.0, p.1) at o') (lone w k₂ c₂ (hit k₁ c₁ p.0 p.1 e₁) h₂ (miss k₂ c₂ q e₂) q).0
      go (inr p) (inl q) = clash o' (lone w k₁ c₁ (hit k₂ c₂ q.0 q.1 e₂) h₁ (miss k₁ c₁ p e₁) p).1
      go (inr p) (inr q) = rw (same k₂ h₂) (H.own k₁ c₁ k₂ c₂ w h₁ h₂ (miss k₁ c₁ p e₁) (miss k₂ c₂ q e₂) o')

  pub heap-write : (v : Value) → Ext n (K) fs (write_at fs k c v) → Fits P K fs ps k (type_at P fs k c) v → Lone P fs n k c v → Heap P K (write_at fs k c v) n ps
  heap-write v e f lone = record {
    sized = write-sized fs H.sized k c v inside hc;
    bound = H.bound;
    pool = H.pool;
    known = λ k' h. known-ext P e k' h (H.known k' h);
    typed = λ k' c' h. rw (same-type P e k' c' h) (fits-ext P K n fs (write_at fs k c v) ps k' (type_at P fs k' c') e h (cell_at (write_at fs k c v) k' c') (old k' c' h));
    own = own-write v (λ k' h. same_version P e k' h) lone;
  }
    where
      old : (k' c' : ℕ) → k' < n → Fits P K fs ps k' (type_at P fs k' c') (cell_at (write_at fs k c v) k' c')
      old k' c' h = write-all fs H.sized k c v inside hc (λ k' c' x. k' < n → Fits P K fs ps k' (type_at P fs k' c') x) (λ _. f) (λ k' c' _ h. H.typed k' c' h) k' c' h

-- what is no vector is lone
module _ (P : Program) (fs : List Frame) (n k c : ℕ) where
  pub lone-unless : (x : Value) → ((v : ℕ) → x ≡ Value.Vector v → ⊥) → Lone P fs n k c x
  unfolding Lone
  lone-unless x h v k' c' e _ _ _ = absurd (h v e)

-- ---- the promises change where no cell refers to them, or in what they have cached

pub heap-promises : (P : Program) {K : ℕ → ℕ → Bool} (fs : List Frame) (n : ℕ) (ps ps' : List Promise)
    → ((p k c : ℕ) → k < n → cell_at fs k c ≡ Value.Promise p → ((promise_at ps' p).frame ≡ (promise_at ps p).frame) × ((promise_at ps' p).block ≡ (promise_at ps p).block))
    → length ps' ≡ PROMISES → Heap P K fs n ps → Heap P K fs n ps'
unfolding Fits kind_at
heap-promises P {K} fs n ps ps' same len H = record { sized = H.sized; bound = H.bound; pool = len; known = H.known; own = H.own; typed = λ k c h. go k c h (cell_at fs k c) refl (H.typed k c h) }
  where
    go : (k c : ℕ) → k < n → (x : Value) → cell_at fs k c ≡ x → Fits P K fs ps k (type_at P fs k c) x → Fits P K fs ps' k (type_at P fs k c) x
    go k c h Value.Empty e f = tt
    go k c h (Value.Integer z) e f = f
    go k c h (Value.Vector i) e f = f
    go k c h (Value.Promise p) e f =
        let s = same p k c h e in
        (f.0, record { kind = rw (s.0, s.1) f.1.kind; older = rw s.0 f.1.older; alive = rw (s.0, s.1) f.1.alive })

-- fewer live frames
pub heap-pop : (P : Program) {K : ℕ → ℕ → Bool} (fs : List Frame) (n m : ℕ) (ps : List Promise) → m ≤ n → Heap P K fs n ps → Heap P K fs m ps
unfolding Unshared
heap-pop P fs n m ps l H = record {
  sized = H.sized;
  bound = omega (arith, H.bound);
  pool = H.pool;
  known = λ k h. H.known k (omega arith);
  typed = λ k c h. H.typed k c (omega arith);
  own = λ k c k' c' v h h'. H.own k c k' c' v (omega arith) (omega arith);
}

-- ---- a new frame g of the version W, on top

pub old-or-new : (n k : ℕ) → k < suc n → (k < n) ⊎ (k ≡ n)
old-or-new n k h = go (dec_lt k n)
  where
    go : Dec (k < n) → (k < n) ⊎ (k ≡ n)
    go (yes l) = inl l
    go (no l) = inr (omega arith)

module _ (P : Program) {K : ℕ → ℕ → Bool} (fs : List Frame) (n : ℕ) (ps : List Promise) (H : Heap P K fs n ps) (W : Version) (g : Frame) (hn : n < ACTIVATIONS) (wg : Whole g) (is : find_version P g.function g.version ≡ some W) where
  pub ext-push : (L : ℕ → ℕ → Bool) → Ext n L fs (set fs n g)
  unfolding cell_at
  ext-push L = record {
    functions = λ k h. rw (set_other fs H.sized n g hn k (omega arith)) refl;
    versions = λ k h. rw (set_other fs H.sized n g hn k (omega arith)) refl;
    grow = λ k c h _ q. rw (set_other fs H.sized n g hn k (omega arith)) q;
  }

  pub version-new : version_at P (set fs n g) n ≡ W
  unfolding version_at or_none
  version-new = rw (set_same fs H.sized n g hn, is) refl

  pub cell-new : (c : ℕ) → cell_at (set fs n g) n c ≡ cell g c
  unfolding cell_at
  cell-new c = rw (set_same fs H.sized n g hn) refl

  pub cell-old : (k c : ℕ) → k < n → cell_at (set fs n g) k c ≡ cell_at fs k c
  unfolding cell_at
  cell-old k c h = rw (set_other fs H.sized n g hn k (omega arith)) refl

  -- its values fit over the old frames, its vectors are in no owned cell unless borrowed, and its owned ones are nowhere else
  pub heap-push : (f : ℕ) → f < n
      → ((c : ℕ) → Fits P K fs ps f (cell_type W c) (cell g c))
      → ((w c k c' : ℕ) → cell g c ≡ Value.Vector w → k < n → cell_at fs k c' ≡ Value.Vector w → (is_owned (cell_type W c) ≡ false) × (is_owned (type_at P fs k c') ≡ true → is_borrowed (cell_type W c) ≡ true))
      → ((w c c' : ℕ) → cell g c ≡ Value.Vector w → cell g c' ≡ Value.Vector w → is_owned (cell_type W c) ≡ true → c' ≡ c)
      → Heap P K (set fs n g) (suc n) ps
  unfolding Unshared type_at
  heap-push f hf fit lone once = record {
    sized = set-sized fs H.sized n g hn wg;
    bound = omega arith;
    pool = H.pool;
    known = λ k h. known k (old-or-new n k h);
    typed = λ k c h. typed k c (old-or-new n k h);
    own = λ k c k' c' w h h' e e' o. own k c k' c' w e e' o (old-or-new n k h) (old-or-new n k' h');
  }
    where
      fs' : List Frame
      fs' = set fs n g

      same : (k : ℕ) → k < n → version_at P fs' k ≡ version_at P fs k
      same k h = same_version P (ext-push every) k h

      known : (k : ℕ) → (k < n) ⊎ (k ≡ n) → find_version P (frame_at fs' k).function (frame_at fs' k).version ≡ some (version_at P fs' k)
      known k (inl h) = known-ext P (ext-push every) k h (H.known k h)
      known k (inr h) = rw (h, version-new, set_same fs H.sized n g hn) is

      typed : (k c : ℕ) → (k < n) ⊎ (k ≡ n) → Fits P K fs' ps k (cell_type (version_at P fs' k) c) (cell_at fs' k c)
      typed k c (inl h) = rw (cell-old k c h, same k h) (fits-ext P K n fs fs' ps k (type_at P fs k c) (ext-push (K)) h (cell_at fs k c) (H.typed k c h))
      typed k c (inr h) = rw (h, cell-new c, version-new) (fits-up P K fs' ps f n (cell_type W c) (omega arith) (cell g c) (fits-ext P K n fs fs' ps f (cell_type W c) (ext-push (K)) hf (cell g c) (fit c)))

      was : (k c w : ℕ) → k < n → cell_at fs' k c ≡ Value.Vector w → cell_at fs k c ≡ Value.Vector w
      was k c w h e = sym (cell-old k c h) ∙ e

      arg : (k c w : ℕ) → k ≡ n → cell_at fs' k c ≡ Value.Vector w → cell g c ≡ Value.Vector w
      arg k c w h e = sym (cell-new c) ∙ (rw h at e)

      own : (k c k' c' w : ℕ) → cell_at fs' k c ≡ Value.Vector w → cell_at fs' k' c' ≡ Value.Vector w → is_owned (cell_type (version_at P fs' k) c) ≡ true → (k < n) ⊎ (k ≡ n) → (k' < n) ⊎ (k' ≡ n)
          → ((k' ≡ k) × (c' ≡ c)) ⊎ ((is_borrowed (cell_type (version_at P fs' k') c') ≡ true) × (k < k'))
      own k c k' c' w e e' o (inl h) (inl h') = rw (same k' h') (H.own k c k' c' w h h' (was k c w h e) (was k' c' w h' e') (rw (same k h) at o))
      own k c k' c' w e e' o (inl h) (inr h') = inr (rw (h', version-new) ((lone w c' k c (arg k' c' w h' e') h (was k c w h e)).1 (rw (same k h) at o)), omega arith)
      own k c k' c' w e e' o (inr h) (inl h') = clash (rw (h, version-new) at o) (lone w c k' c' (arg k c w h e) h' (was k' c' w h' e')).0
      own k c k' c' w e e' o (inr h) (inr h') = inl (h' ∙ sym h, once w c c' (arg k c w h e) (arg k' c' w h' e') (rw (h, version-new) at o))
