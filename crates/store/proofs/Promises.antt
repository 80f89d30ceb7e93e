-- Promises: one made, one cached.
use mathlib.Core.Path.{◌≡◌, refl, ap, ◌∙◌}
use mathlib.Core.List.{List}
use Prim.Native.Nat.{ℕ, ◌+◌, ◌*◌, ◌≤◌, ◌<◌}
use native.Mathlib.Omega.{arith}
use lib.IntN.{ℤ, pos}
use lib.ListN.{length, length-set, set}
use lib.Seq.{get_or-set_same, get_or-set_other}
use Rattle.layout.specs.Records.{◌!◌}
use Rattle.machine.specs.Try.{got, stuck, at, or_stuck}
use Rattle.machine.specs.States.{live_activations, live_frames, with_promise}
use Rattle.machine.specs.declared.Cache.{Cache}
use Rattle.machine.specs.declared.Promise.{Promise}
use Rattle.machine.specs.declared.State.{State}
use Rattle.store.proofs.Lists.{get_elem?-up_to, missing-up_to}
use Rattle.store.specs.Store.{◌#◌, DELAYS, CACHES, cache_of, promise_in, state_in}
use Rattle.store.specs.Counts.{Counted, Ready, forcing, holding}
use Rattle.store.specs.Acts.{with_cache, with_delay}
use Rattle.store.proofs.Kept.{new-promise}

-- no count depends on promises
pub promise-counted : (s : State) (p : ℕ) (q : Promise) (c : List ℕ) → Counted c s → Counted c (with_promise s p q)
unfolding with_promise holding forcing live_frames live_activations
promise-counted s p q c C = record { held = λ i h. C.held i h; forced = λ i h. C.forced i h; frames = λ k h. C.frames k h }

-- a promise by its bytes and its number
pub promise-is : (b : List ℕ) (n : List ℤ) (p : ℕ) {q : Cache} → q ≡ cache_of (b ! (DELAYS + 4 * p + 2)) (n # (CACHES + p))
    → ◌≡◌ {A = Promise} (record { frame = b ! (DELAYS + 4 * p); block = b ! (DELAYS + 4 * p + 1); cache = q }) (promise_in b n p)
unfolding promise_in
promise-is b n p e = λ t. record { frame = b ! (DELAYS + 4 * p); block = b ! (DELAYS + 4 * p + 1); cache = e t }

module _ (b : List ℕ) (n : List ℤ) (p : ℕ) where
  pub promise-at : p < 64 → at (state_in b n).promises p ≡ got (promise_in b n p)
  unfolding at or_stuck state_in
  promise-at h = rw (get_elem?-up_to (promise_in b n) 64 p h) refl

  pub promise-outside : 64 ≤ p → at (state_in b n).promises p ≡ stuck
  unfolding at or_stuck state_in
  promise-outside h = rw (missing-up_to (promise_in b n) 64 p h) refl

module _ (b : List ℕ) (n : List ℤ) (c : List ℕ) (p : ℕ) (h : p < 64) (R : Ready b n c) where
  -- the promise p anew
  renewed : (b' : List ℕ) (n' : List ℤ) (q : Promise) → length b' ≡ 2632 → length n' ≡ 2129 → ((m : ℕ) → (DELAYS + 4 * p ≤ m → m < DELAYS + 4 * p + 4 → ⊥) → b' ! m ≡ b ! m) →
      ((m : ℕ) → (CACHES + p ≤ m → m < CACHES + p + 1 → ⊥) → n' # m ≡ n # m)
      → promise_in b' n' p ≡ q → (state_in b' n' ≡ with_promise (state_in b n) p q) × Ready b' n' c
  renewed b' n' q lb ln f g e =
      let s = new-promise b b' n n' p h f g ∙ ap (with_promise (state_in b n) p) e in
      (s, record { bytes = lb; numbers = ln; counts = R.counts; counted = rw s (promise-counted (state_in b n) p q c R.counted) })

  abbrev pub delayed : ℕ → ℕ → List ℕ
  delayed f l = set (set (set b (DELAYS + 4 * p) f) (DELAYS + 4 * p + 1) l) (DELAYS + 4 * p + 2) 0

  pub delay-made : (f l : ℕ) → (state_in (delayed f l) n ≡ with_delay (state_in b n) p f l) × Ready (delayed f l) n c
  unfolding with_delay promise_in cache_of
  delay-made f l =
      let i = DELAYS + 4 * p in
      let lb = R.bytes in
      let b₁ = set b i f in
      let b₂ = set b₁ (i + 1) l in
      let l₁ : length b₁ ≡ 2632 = simp (length-set, lb) in
      let l₂ : length b₂ ≡ 2632 = simp (length-set, lb) in
      let x = get_or-set_other b₂ (i + 2) i 0 0 (λ z. omega arith) ∙ get_or-set_other b₁ (i + 1) i l 0 (λ z. omega arith) ∙ get_or-set_same b i f 0 (omega arith) in
      let y = get_or-set_other b₂ (i + 2) (i + 1) 0 0 (λ z. omega arith) ∙ get_or-set_same b₁ (i + 1) l 0 (omega arith) in
      let w = get_or-set_same b₂ (i + 2) 0 0 (omega arith) in
      renewed (delayed f l) n _ (simp (length-set, lb)) R.numbers
      (λ m q. get_or-set_other b₂ (i + 2) m 0 0 (λ z. q (omega arith) (omega arith)) ∙ get_or-set_other b₁ (i + 1) m l 0 (λ z. q (omega arith) (omega arith)) ∙ get_or-set_other b i m f 0
      (λ z. q (omega arith) (omega arith)))
      (λ m q. refl) (λ t. record { frame = x t; block = y t; cache = cache_of (w t) (n # (CACHES + p)) })

  pub cache-made : (y z : ℤ) → y ≡ z → (state_in (set b (DELAYS + 4 * p + 2) 1) (set n (CACHES + p) y) ≡ with_cache (state_in b n) p (promise_in b n p) z) × Ready (set b (DELAYS + 4 * p + 2) 1)
      (set n (CACHES + p) y) c
  unfolding with_cache promise_in cache_of
  cache-made y z q =
      let i = DELAYS + 4 * p in
      let lb = R.bytes in
      let ln = R.numbers in
      let x = get_or-set_other b (i + 2) i 1 0 (λ r. omega arith) in
      let v = get_or-set_other b (i + 2) (i + 1) 1 0 (λ r. omega arith) in
      let w = get_or-set_same b (i + 2) 1 0 (omega arith) in
      let u = get_or-set_same n (CACHES + p) y (pos 0) (omega arith) ∙ q in
      renewed (set b (i + 2) 1) (set n (CACHES + p) y) _ (simp (length-set, lb)) (simp (length-set, ln))
      (λ m r. get_or-set_other b (i + 2) m 1 0 (λ o. r (omega arith) (omega arith)))
      (λ m r. get_or-set_other n (CACHES + p) m y (pos 0) (λ o. r (omega arith) (omega arith))) (λ t. record { frame = x t; block = v t; cache = cache_of (w t) (u t) })
