-- Counts of those that hold a value: what they say of what counts, and what a write does to them.
use mathlib.Core.Path.{◌≡◌, refl, sym, ap, ◌∙◌}
use mathlib.Core.List.{List, [], ◌∷◌}
use mathlib.Core.Option.{Option, none, some}
use mathlib.Core.Bool.{Bool, true, false, not, ◌||◌}
use Prim.Native.Nat.{ℕ, zero, suc, ◌+◌, ◌-◌, ◌≤◌, ◌<◌}
use native.Mathlib.Omega.{arith}
use lib.ListN.{get_elem?, length, set, take}
use lib.Dec.{eqb}
use borrow.Author.Tests.{eq-eqb, ne_eqb, eqb-true, eqb-false, lt-ltb, le-ltb}
use Rattle.layout.specs.Records.{◌!◌}
use Rattle.layout.specs.Tests.{any}
use Rattle.machine.specs.Try.{Try, got, stuck, stop, ◌>>=◌, at, put, or_stuck, stuck_unless}
use Rattle.machine.specs.States.{place, live_activations, live_frames, pending, promise_counts, refers, held, register, with_stack, with_frame, with_register, assign, vector_counts, free_promise}
use Rattle.machine.specs.States.{free_vector, free, is_force, is_promise, is_vector}
use Rattle.machine.specs.Steps.{alone}
use Rattle.machine.proofs.Tries.{or-stuck, put-there}
use Rattle.store.proofs.Free.{free-same}
use Rattle.machine.specs.declared.Activation.{Activation}
use Rattle.machine.specs.declared.End.{End}
use Rattle.machine.specs.declared.Frame.{Frame}
use Rattle.machine.specs.declared.Place.{Place}
use Rattle.machine.specs.declared.State.{State}
use Rattle.machine.specs.declared.Value.{Value}
use Rattle.store.specs.Counts.{one, holders, in_frame, in_frames, holding, forcers, forcing, refers_to, Counted, taken}

-- ---- what they say of what counts

none-held : (b : Bool) (n : ℕ) → (b || not (eqb n 0)) ≡ not (eqb (one b + n) 0)
none-held true n = rw (ne_eqb (1 + n) 0 (λ z. omega arith)) refl
none-held false n = let z : 0 + n ≡ n = omega arith in rw z refl

sum-held : (m n : ℕ) → (not (eqb m 0) || not (eqb n 0)) ≡ not (eqb (m + n) 0)
sum-held m n = go (eqb m 0) refl
  where
    go : (b : Bool) → eqb m 0 ≡ b → (not b || not (eqb n 0)) ≡ not (eqb (m + n) 0)
    go true e = let z : m + n ≡ n = let q = eqb-true m 0 e in omega arith in rw z refl
    go false e = rw (ne_eqb (m + n) 0 (λ z. eqb-false m 0 e (omega arith))) refl

pub one-most : (t : Bool) → one t ≤ 1
one-most true = omega arith
one-most false = omega arith

module _ (is : Value → Bool) where
  places-held : (cs : List Place) → any (λ (c : Place). is c.value) cs ≡ not (eqb (holders is cs) 0)
  unfolding any holders
  places-held [] = refl
  places-held (c ∷ cs) = rw (places-held cs) (none-held (is c.value) (holders is cs))

  frame-held : (f : Frame) → refers is f ≡ not (eqb (in_frame is f) 0)
  unfolding refers in_frame
  frame-held f = rw (places-held f.registers, places-held f.names) (sum-held (holders is f.registers) (holders is f.names))

  frames-held : (fs : List Frame) → any (refers is) fs ≡ not (eqb (in_frames is fs) 0)
  unfolding any in_frames
  frames-held [] = refl
  frames-held (f ∷ fs) = rw (frame-held f, frames-held fs) (sum-held (in_frame is f) (in_frames is fs))

  pub held-count : (s : State) → held is s ≡ not (eqb (holding is s) 0)
  unfolding held holding
  held-count s = frames-held (live_frames s)

  -- ---- what a write does to them

  pub holders-set : (cs : List Place) (i : ℕ) (c : Place) (v : Value) → get_elem? cs i ≡ some c → holders is (set cs i (place v)) + one (is c.value) ≡ holders is cs + one (is v)
  unfolding holders
  holders-set [] i c v e = let z : ◌≡◌ {A = ℕ} 0 1 = cc in absurd (omega arith)
  holders-set (b ∷ cs) zero c v e = let q : b ≡ c = cc in rw q (omega arith)
  holders-set (b ∷ cs) (suc i) c v e = let h = holders-set cs i c v e in omega arith

  pub frames-set : (fs : List Frame) (k : ℕ) (f g : Frame) → get_elem? fs k ≡ some f → in_frames is (set fs k g) + in_frame is f ≡ in_frames is fs + in_frame is g
  unfolding in_frames
  frames-set [] k f g e = let z : ◌≡◌ {A = ℕ} 0 1 = cc in absurd (omega arith)
  frames-set (h ∷ fs) zero f g e = let q : h ≡ f = cc in rw q (omega arith)
  frames-set (h ∷ fs) (suc k) f g e = let r = frames-set fs k f g e in omega arith

  -- ---- no fewer than one that holds it, no more than there are

  pub places-some : (cs : List Place) (i : ℕ) (c : Place) → get_elem? cs i ≡ some c → one (is c.value) ≤ holders is cs
  unfolding holders
  places-some [] i c e = let z : ◌≡◌ {A = ℕ} 0 1 = cc in absurd (omega arith)
  places-some (b ∷ cs) zero c e = let q : b ≡ c = cc in rw q (omega arith)
  places-some (b ∷ cs) (suc i) c e = let h = places-some cs i c e in omega arith

  pub frames-some : (fs : List Frame) (k : ℕ) (f : Frame) → get_elem? fs k ≡ some f → in_frame is f ≤ in_frames is fs
  unfolding in_frames
  frames-some [] k f e = let z : ◌≡◌ {A = ℕ} 0 1 = cc in absurd (omega arith)
  frames-some (g ∷ fs) zero f e = let q : g ≡ f = cc in rw q (omega arith)
  frames-some (g ∷ fs) (suc k) f e = let h = frames-some fs k f e in omega arith

  pub places-most : (cs : List Place) → holders is cs ≤ length cs
  unfolding holders
  places-most [] = omega arith
  places-most (c ∷ cs) = let h = places-most cs in let g = one-most (is c.value) in omega arith

pub take-set : {A : Type 0} (xs : List A) (n k : ℕ) (x : A) → take n (set xs k x) ≡ set (take n xs) k x
take-set [] zero k x = refl
take-set [] (suc n) k x = refl
take-set (y ∷ xs) zero zero x = refl
take-set (y ∷ xs) zero (suc k) x = refl
take-set (y ∷ xs) (suc n) zero x = refl
take-set (y ∷ xs) (suc n) (suc k) x = ap (λ l. y ∷ l) (take-set xs n k x)

module _ (is : Value → Bool) (s : State) (k d : ℕ) (f : Frame) (u v : Value) where
  frame-count : (g : Frame) → register f d ≡ got u → with_register f d v ≡ got g → in_frame is g + one (is u) ≡ in_frame is f + one (is v)
  unfolding register with_register in_frame at ◌>>=◌ or_stuck
  frame-count g e w = go (get_elem? f.registers d) refl (put f.registers d (place v)) refl e w
    where
      go : (o : Option Place) → get_elem? f.registers d ≡ o → (p : Try (List Place)) → put f.registers d (place v) ≡ p
          → (or_stuck o >>= λ (c : Place). got c.value) ≡ got u →
          (p >>= λ (rs : List Place). got (record { function = f.function; version = f.version; registers = rs; names = f.names })) ≡ got g
          → in_frame is g + one (is u) ≡ in_frame is f + one (is v)
      go none o p q e w = let z : ◌≡◌ {A = ℕ} 0 1 = cc in absurd (omega arith)
      go (some c) o stuck q e w = let z : ◌≡◌ {A = ℕ} 0 1 = cc in absurd (omega arith)
      go (some c) o (stop x) q e w = let z : ◌≡◌ {A = ℕ} 0 1 = cc in absurd (omega arith)
      go (some c) o (got rs) q e w =
          let a : c.value ≡ u = cc in
          let r = (put-there f.registers rs d (place v) q).1 in
          let b : record { function = f.function; version = f.version; registers = rs; names = f.names } ≡ g = cc in
          let h = holders-set is f.registers d c v o in
          rw (sym b, sym r, sym a) (omega arith)

  -- one that held u holds v
  pub assign-count : (t : State) → at (live_frames s) k ≡ got f → register f d ≡ got u → assign s k d v ≡ got t → holding is t + one (is u) ≡ holding is s + one (is v)
  unfolding assign holding live_frames with_frame with_stack ◌>>=◌ at
  assign-count t a e w = go (with_register f d v) refl (rw a at w)
    where
      go : (o : Try Frame) → with_register f d v ≡ o → (o >>= λ (g : Frame). got (with_frame s k g)) ≡ got t → holding is t + one (is u) ≡ holding is s + one (is v)
      go stuck q w = let z : ◌≡◌ {A = ℕ} 0 1 = cc in absurd (omega arith)
      go (stop x) q w = let z : ◌≡◌ {A = ℕ} 0 1 = cc in absurd (omega arith)
      go (got g) q w =
          let b : with_frame s k g ≡ t = cc in
          let h = frame-count g e q in
          let r = frames-set is (take s.calls s.frames) k f g (or-stuck _ f a) in
          rw (sym b, take-set s.frames s.calls k g) (omega arith)

-- ---- the free place, and a sole holder

-- the first 256 counts are of vectors, the next of promises
pub of-vector : (v : ℕ) → v < 256 → refers_to v ≡ is_vector v
unfolding refers_to
of-vector v h = rw (lt-ltb v 256 h) refl

pub of-promise : (p : ℕ) → refers_to (256 + p) ≡ is_promise p
unfolding refers_to
of-promise p = let e : 256 + p - 256 ≡ p = omega arith in rw (le-ltb (256 + p) 256 (omega arith), e) refl

module _ (c : List ℕ) (s : State) (C : Counted c s) where
  pub vector-count : (v : ℕ) → v < 256 → c ! v ≡ holding (is_vector v) s
  vector-count v h = C.held v (omega arith) ∙ ap (λ (is : Value → Bool). holding is s) (of-vector v h)

  pub promise-count : (p : ℕ) → p < 256 → c ! (256 + p) ≡ holding (is_promise p) s
  promise-count p h = C.held (256 + p) (omega arith) ∙ ap (λ (is : Value → Bool). holding is s) (of-promise p)

  pub vector-counts : (v : ℕ) → v < 256 → vector_counts s v ≡ not (eqb (c ! v) 0)
  unfolding vector_counts
  vector-counts v h = held-count (is_vector v) s ∙ ap (λ n. not (eqb n 0)) (sym (vector-count v h))

  twice : (t : Bool) → t ≡ (t || t)
  twice true = refl
  twice false = refl

  pub free_vector_lem : free_vector s ≡ free End.Vectors (λ i. taken c (0 + i) (0 + i)) 64 0
  unfolding free_vector taken
  free_vector_lem = free-same End.Vectors (vector_counts s) (λ i. taken c (0 + i) (0 + i)) 64 0 (λ j h. let e : 0 + j ≡ j = omega arith in rw e (vector-counts j (omega arith) ∙ twice _))

  pub force-count : (p : ℕ) → p < 256 → pending s p ≡ not (eqb (c ! (512 + p)) 0)
  unfolding pending forcing any forcers
  force-count p h = go (live_activations s) ∙ ap (λ n. not (eqb n 0)) (sym (C.forced p h))
    where
      go : (l : List Activation) → any (λ (a : Activation). is_force p a.opener) l ≡ not (eqb (forcers p l) 0)
      go [] = refl
      go (a ∷ l) = rw (go l) (none-held (is_force p a.opener) (forcers p l))

  pub promise-counts : (p : ℕ) → p < 256 → promise_counts s p ≡ (not (eqb (c ! (256 + p)) 0) || not (eqb (c ! (512 + p)) 0))
  unfolding promise_counts
  promise-counts p h = rw (held-count (is_promise p) s, sym (promise-count p h), force-count p h) refl

  pub free-promise : free_promise s ≡ free End.Promises (λ i. taken c (256 + i) (512 + i)) 64 0
  unfolding free_promise taken
  free-promise = free-same End.Promises (promise_counts s) (λ i. taken c (256 + i) (512 + i)) 64 0 (λ j h. promise-counts j (omega arith))

-- a vector that the register a of the live frame k holds
pub alone-count : (s : State) (k a v : ℕ) (f : Frame) (t : State) → at (live_frames s) k ≡ got f → register f a ≡ got (Value.Vector v) → assign s k a Value.Empty ≡ got t
    → alone s k a v ≡ stuck_unless (eqb (holding (is_vector v) s) 1)
unfolding alone vector_counts ◌>>=◌ is_vector
alone-count s k a v f t l e w =
    let h = assign-count (is_vector v) s k a f (Value.Vector v) Value.Empty t l e w in
    rw (w, held-count (is_vector v) t) (ap stuck_unless (go (eqb (holding (is_vector v) s) 1) refl (rw (eq-eqb v v refl) at h)))
  where
    go : (b : Bool) → eqb (holding (is_vector v) s) 1 ≡ b → holding (is_vector v) t + 1 ≡ holding (is_vector v) s + 0 → not (not (eqb (holding (is_vector v) t) 0)) ≡ b
    go true q h = let z : holding (is_vector v) t ≡ 0 = let x : holding (is_vector v) s ≡ 1 = eqb-true _ _ q in omega arith in rw (eq-eqb _ _ z) refl
    go false q h = rw (ne_eqb (holding (is_vector v) t) 0 (λ z. eqb-false (holding (is_vector v) s) 1 q (omega arith))) refl
