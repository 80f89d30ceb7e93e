-- What arrays that agree stand for: a write into one part of a state leaves all its other parts.
use mathlib.Core.Path.{◌≡◌, refl, sym, ap}
use mathlib.Core.List.{List}
use Prim.Native.Nat.{ℕ, ◌+◌, ◌*◌, ◌≤◌, ◌<◌}
use native.Mathlib.Omega.{arith}
use lib.IntN.{ℤ}
use lib.ListN.{set}
use Rattle.layout.specs.Records.{◌!◌}
use Rattle.machine.specs.States.{place, with_frame, with_stack, with_vector, with_promise}
use Rattle.machine.specs.declared.State.{State}
use Rattle.store.specs.Lists.{up_to}
use Rattle.store.proofs.Lists.{up_to-same, set-up_to-by}
use Rattle.store.specs.Store.{◌#◌, PLACES, STACK, DELAYS, LENGTHS, CALLS, DEPTH, STATUS, ITEM, CACHES, RESULT, ENDING, cell_in, frame_in, opener_of, activation_in, vector_in}
use Rattle.store.specs.Store.{cache_of, promise_in, status_of, state_in}

module _ (b b' : List ℕ) (n n' : List ℤ) where
  -- from i on, before j, the bytes are as they were
  abbrev pub Bytes : ℕ → ℕ → Type 0
  Bytes i j = (m : ℕ) → i ≤ m → m < j → b' ! m ≡ b ! m

  -- and so the numbers
  abbrev pub Numbers : ℕ → ℕ → Type 0
  Numbers i j = (m : ℕ) → i ≤ m → m < j → n' # m ≡ n # m

  -- ---- each part

  pub cell_same : (k c : ℕ) → b' ! (32 * k + c) ≡ b ! (32 * k + c) → b' ! (PLACES + 32 * k + c) ≡ b ! (PLACES + 32 * k + c) → n' # (32 * k + c) ≡ n # (32 * k + c)
      → cell_in b' n' k c ≡ cell_in b n k c
  unfolding cell_in
  cell_same k c t p z = rw (t, p, z) refl

  pub frame_same : (k : ℕ) → Bytes (32 * k) (32 * k + 32) → Bytes (PLACES + 32 * k) (PLACES + 32 * k + 32) → Numbers (32 * k) (32 * k + 32) → frame_in b' n' k ≡ frame_in b n k
  unfolding frame_in
  frame_same k h p g =
      let s : (c : ℕ) → c < 24 → cell_in b' n' k c ≡ cell_in b n k c = λ c a. cell_same k c (h _ (omega arith) (omega arith)) (p _ (omega arith) (omega arith))
      (g _ (omega arith) (omega arith)) in
      let f = h (32 * k + 24) (omega arith) (omega arith) in
      let v = h (32 * k + 25) (omega arith) (omega arith) in
      let rs = up_to-same (λ r. place (cell_in b' n' k r)) (λ r. place (cell_in b n k r)) 0 16 (λ r a c. ap place (s r (omega arith))) in
      let xs = up_to-same (λ x. place (cell_in b' n' k (16 + x))) (λ x. place (cell_in b n k (16 + x))) 0 8 (λ x a c. ap place (s (16 + x) (omega arith))) in
      λ t. record { function = f t; version = v t; registers = rs t; names = xs t }

  pub activation-same : (i : ℕ) → Bytes (STACK + 8 * i) (STACK + 8 * i + 8) → activation_in b' i ≡ activation_in b i
  unfolding activation_in
  activation-same i h =
      let o = h (STACK + 8 * i) (omega arith) (omega arith) in
      let p = h (STACK + 8 * i + 1) (omega arith) (omega arith) in
      let d = h (STACK + 8 * i + 2) (omega arith) (omega arith) in
      let f = h (STACK + 8 * i + 3) (omega arith) (omega arith) in
      let l = h (STACK + 8 * i + 4) (omega arith) (omega arith) in
      let x = h (STACK + 8 * i + 5) (omega arith) (omega arith) in
      λ t. record { opener = opener_of (o t) (p t); d = d t; frame = f t; block = l t; next = x t }

  pub vector-same : (v : ℕ) → Bytes (LENGTHS + v) (LENGTHS + v + 1) → Numbers (ITEM + 16 * v) (ITEM + 16 * v + 16) → vector_in b' n' v ≡ vector_in b n v
  unfolding vector_in
  vector-same v h g =
      let l = h (LENGTHS + v) (omega arith) (omega arith) in
      let xs = up_to-same (λ j. n' # (ITEM + 16 * v + j)) (λ j. n # (ITEM + 16 * v + j)) 0 16 (λ j a c. g _ (omega arith) (omega arith)) in
      λ t. record { length = l t; items = xs t }

  pub promise-same : (p : ℕ) → Bytes (DELAYS + 4 * p) (DELAYS + 4 * p + 4) → Numbers (CACHES + p) (CACHES + p + 1) → promise_in b' n' p ≡ promise_in b n p
  unfolding promise_in
  promise-same p h g =
      let f = h (DELAYS + 4 * p) (omega arith) (omega arith) in
      let l = h (DELAYS + 4 * p + 1) (omega arith) (omega arith) in
      let c = h (DELAYS + 4 * p + 2) (omega arith) (omega arith) in
      let z = g (CACHES + p) (omega arith) (omega arith) in
      λ t. record { frame = f t; block = l t; cache = cache_of (c t) (z t) }

  -- ---- all parts of a kind

  pub frames-kept : Bytes 0 2048 → Numbers 0 1024 → up_to (frame_in b' n') 0 32 ≡ up_to (frame_in b n) 0 32
  frames-kept h g = up_to-same _ _ 0 32 (λ k a c. frame_same k (λ m d e. h m (omega arith) (omega arith)) (λ m d e. h m (omega arith) (omega arith))
      (λ m d e. g m (omega arith) (omega arith)))

  pub stack-kept : Bytes 2048 2304 → up_to (activation_in b') 0 32 ≡ up_to (activation_in b) 0 32
  stack-kept h = up_to-same _ _ 0 32 (λ i a c. activation-same i (λ m d e. h m (omega arith) (omega arith)))

  pub delays-kept : Bytes 2304 2560 → Numbers 2048 2112 → up_to (promise_in b' n') 0 64 ≡ up_to (promise_in b n) 0 64
  delays-kept h g = up_to-same _ _ 0 64 (λ p a c. promise-same p (λ m d e. h m (omega arith) (omega arith)) (λ m d e. g m (omega arith) (omega arith)))

  pub vectors-kept : Bytes 2560 2624 → Numbers 1024 2048 → up_to (vector_in b' n') 0 64 ≡ up_to (vector_in b n) 0 64
  vectors-kept h g = up_to-same _ _ 0 64 (λ v a c. vector-same v (λ m d e. h m (omega arith) (omega arith)) (λ m d e. g m (omega arith) (omega arith)))

  pub result-kept : Numbers 2112 2128 → up_to (λ j. n' # (RESULT + j)) 0 16 ≡ up_to (λ j. n # (RESULT + j)) 0 16
  result-kept g = up_to-same (λ j. n' # (RESULT + j)) (λ j. n # (RESULT + j)) 0 16 (λ j a c. g _ (omega arith) (omega arith))

  -- ---- the law of a write: the state by its parts

  pub by_parts : (s : State) → up_to (frame_in b' n') 0 32 ≡ s.frames → b' ! CALLS ≡ s.calls → up_to (activation_in b') 0 32 ≡ s.activations → b' ! DEPTH ≡ s.depth → up_to
      (vector_in b' n') 0 64 ≡ s.vectors
      → up_to (promise_in b' n') 0 64 ≡ s.promises → up_to (λ j. n' # (RESULT + j)) 0 16 ≡ s.result → status_of (b' ! STATUS) (b' ! (STATUS + 1)) (n' # ENDING) ≡ s.status → state_in b' n' ≡ s
  unfolding state_in
  by_parts s fs c us d vs ps rs st = λ t. record { frames = fs t; calls = c t; activations = us t; depth = d t; vectors = vs t; promises = ps t; result = rs t; status = st t }

  -- outside of what lies from i on, before j
  abbrev pub BytesBut : ℕ → ℕ → Type 0
  BytesBut i j = (m : ℕ) → (i ≤ m → m < j → ⊥) → b' ! m ≡ b ! m

  abbrev pub NumbersBut : ℕ → ℕ → Type 0
  NumbersBut i j = (m : ℕ) → (i ≤ m → m < j → ⊥) → n' # m ≡ n # m

  pub status-kept : Bytes 2626 2628 → Numbers 2128 2129 → status_of (b' ! STATUS) (b' ! (STATUS + 1)) (n' # ENDING) ≡ status_of (b ! STATUS) (b ! (STATUS + 1)) (n # ENDING)
  status-kept h g = let s = h STATUS (omega arith) (omega arith) in let u = h (STATUS + 1) (omega arith) (omega arith) in let z = g ENDING (omega arith) (omega arith) in λ t. status_of (s t)
      (u t) (z t)

  -- ---- one part anew, all else as it was

  pub new-frame : (k : ℕ) → k < 32 → ((m : ℕ) → (32 * k ≤ m → m < 32 * k + 32 → ⊥) → (PLACES + 32 * k ≤ m → m < PLACES + 32 * k + 32 → ⊥) → b' ! m ≡ b ! m) → NumbersBut (32 * k)
      (32 * k + 32)
      → state_in b' n' ≡ with_frame (state_in b n) k (frame_in b' n' k)
  unfolding state_in with_frame with_stack
  new-frame k l f g =
      let h : Bytes 2048 2632 = λ m d e. f m (λ x y. omega arith) (λ x y. omega arith) in
      let i : (j : ℕ) → j < 32 → (j ≡ k → ⊥) → frame_in b' n' j ≡ frame_in b n j = λ j a q. frame_same j (λ m d e. f m (λ x y. q (omega arith)) (λ x y. omega arith))
      (λ m d e. f m (λ x y. omega arith) (λ x y. q (omega arith))) (λ m d e. g m (λ x y. q (omega arith))) in
      by_parts _
      (sym (set-up_to-by (frame_in b n) (frame_in b' n') 32 k _ refl i))
      (h CALLS (omega arith) (omega arith))
      (stack-kept (λ m d e. h m (omega arith) (omega arith)))
      (h DEPTH (omega arith) (omega arith))
      (vectors-kept (λ m d e. h m (omega arith) (omega arith)) (λ m d e. g m (λ x y. omega arith)))
      (delays-kept (λ m d e. h m (omega arith) (omega arith)) (λ m d e. g m (λ x y. omega arith)))
      (result-kept (λ m d e. g m (λ x y. omega arith)))
      (status-kept (λ m d e. h m (omega arith) (omega arith)) (λ m d e. g m (λ x y. omega arith)))

  pub new-vector : (v : ℕ) → v < 64 → BytesBut (LENGTHS + v) (LENGTHS + v + 1) → NumbersBut (ITEM + 16 * v) (ITEM + 16 * v + 16) → state_in b' n' ≡ with_vector (state_in b n) v
      (vector_in b' n' v)
  unfolding state_in with_vector
  new-vector v l h g =
      by_parts _
      (frames-kept (λ m d e. h m (λ x y. omega arith)) (λ m d e. g m (λ x y. omega arith)))
      (h CALLS (λ x y. omega arith))
      (stack-kept (λ m d e. h m (λ x y. omega arith)))
      (h DEPTH (λ x y. omega arith))
      (sym (set-up_to-by (vector_in b n) (vector_in b' n') 64 v _ refl (λ j a q. vector-same j (λ m d e. h m (λ x y. q (omega arith))) (λ m d e. g m (λ x y. q (omega arith))))))
      (delays-kept (λ m d e. h m (λ x y. omega arith)) (λ m d e. g m (λ x y. omega arith)))
      (result-kept (λ m d e. g m (λ x y. omega arith)))
      (status-kept (λ m d e. h m (λ x y. omega arith)) (λ m d e. g m (λ x y. omega arith)))

  pub new-promise : (w : ℕ) → w < 64 → BytesBut (DELAYS + 4 * w) (DELAYS + 4 * w + 4) → NumbersBut (CACHES + w) (CACHES + w + 1) → state_in b' n' ≡ with_promise (state_in b n) w
      (promise_in b' n' w)
  unfolding state_in with_promise
  new-promise w l h g =
      by_parts _
      (frames-kept (λ m d e. h m (λ x y. omega arith)) (λ m d e. g m (λ x y. omega arith)))
      (h CALLS (λ x y. omega arith))
      (stack-kept (λ m d e. h m (λ x y. omega arith)))
      (h DEPTH (λ x y. omega arith))
      (vectors-kept (λ m d e. h m (λ x y. omega arith)) (λ m d e. g m (λ x y. omega arith)))
      (sym (set-up_to-by (promise_in b n) (promise_in b' n') 64 w _ refl (λ j a q. promise-same j (λ m d e. h m (λ x y. q (omega arith))) (λ m d e. g m (λ x y. q (omega arith))))))
      (result-kept (λ m d e. g m (λ x y. omega arith)))
      (status-kept (λ m d e. h m (λ x y. omega arith)) (λ m d e. g m (λ x y. omega arith)))

  -- the stack: the frames and activations, and how many of them live
  pub new-stack : BytesBut CALLS (CALLS + 2) → NumbersBut 0 0 → state_in b' n' ≡ with_stack (state_in b n) (state_in b n).frames (b' ! CALLS) (state_in b n).activations (b' ! DEPTH)
  unfolding state_in with_stack
  new-stack h g =
      by_parts _
      (frames-kept (λ m d e. h m (λ x y. omega arith)) (λ m d e. g m (λ x y. omega arith)))
      refl
      (stack-kept (λ m d e. h m (λ x y. omega arith)))
      refl
      (vectors-kept (λ m d e. h m (λ x y. omega arith)) (λ m d e. g m (λ x y. omega arith)))
      (delays-kept (λ m d e. h m (λ x y. omega arith)) (λ m d e. g m (λ x y. omega arith)))
      (result-kept (λ m d e. g m (λ x y. omega arith)))
      (status-kept (λ m d e. h m (λ x y. omega arith)) (λ m d e. g m (λ x y. omega arith)))

  pub new-activation : (k : ℕ) → k < 32 → BytesBut (STACK + 8 * k) (STACK + 8 * k + 8) → NumbersBut 0 0 → state_in b' n' ≡ with_stack (state_in b n) (state_in b n).frames (b ! CALLS)
      (set (state_in b n).activations k (activation_in b' k)) (b ! DEPTH)
  unfolding state_in with_stack
  new-activation k l h g =
      by_parts _
      (frames-kept (λ m d e. h m (λ x y. omega arith)) (λ m d e. g m (λ x y. omega arith)))
      (h CALLS (λ x y. omega arith))
      (sym (set-up_to-by (activation_in b) (activation_in b') 32 k _ refl (λ j a q. activation-same j (λ m d e. h m (λ x y. q (omega arith))))))
      (h DEPTH (λ x y. omega arith))
      (vectors-kept (λ m d e. h m (λ x y. omega arith)) (λ m d e. g m (λ x y. omega arith)))
      (delays-kept (λ m d e. h m (λ x y. omega arith)) (λ m d e. g m (λ x y. omega arith)))
      (result-kept (λ m d e. g m (λ x y. omega arith)))
      (status-kept (λ m d e. h m (λ x y. omega arith)) (λ m d e. g m (λ x y. omega arith)))
