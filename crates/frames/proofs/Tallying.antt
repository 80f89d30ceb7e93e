-- The counts at the start of a budget.
use mathlib.Core.Path.{◌≡◌, refl, sym, ap, ◌∙◌}
use mathlib.Core.List.{List}
use mathlib.Core.Bool.{Bool, true, false, cond}
use Prim.Native.Nat.{ℕ, zero, suc, ◌+◌, ◌-◌, ◌*◌, ◌≤◌, ◌<◌}
use native.Mathlib.Numerals.{add-one}
use native.Mathlib.Omega.{arith}
use lib.IntN.{ℤ}
use lib.ListN.{get_or-replicate, get_elem?, length, length-replicate, replicate, take}
use lib.Dec.{eqb, ltb}
use borrow.Author.Tests.{eqb-true, eqb-false, le-ltb, lt-ltb, ltb-true, ltb-false}
use Rattle.layout.specs.Records.{◌!◌}
use Rattle.machine.specs.States.{is_force, live_activations, live_frames}
use Rattle.machine.specs.declared.Activation.{Activation}
use Rattle.machine.specs.declared.Frame.{Frame}
use Rattle.machine.specs.declared.Value.{Value}
use Rattle.store.specs.Lists.{up_to}
use Rattle.store.proofs.Lists.{get_elem?-up_to, missing-up_to, take-all-up_to, take-up_to}
use Rattle.store.specs.Store.{CALLS, DEPTH, activation_in, cell_in, frame_in, state_in, Sized}
use Rattle.store.specs.Counts.{one, in_frame, in_frames, holding, forcers, forcing, is_reference, references, refers_to, counts_at, more, Calm, Few, Pends, Ready, Recounts}
use Rattle.store.proofs.Counting.{one-most}
use Rattle.store.proofs.Recounting.{at-frame, at-holders, elsewhere, frame-most, hits}
use Rattle.store.proofs.Pushing.{length-repend, repend-forced, repend-frames, repend-held}
use Rattle.frames.specs.Frames.{Added, Nothing, Room, Tallied, at_most, cells_to}
use Rattle.frames.proofs.Dropping.{cells-all, frame-as, frame-none}

-- ---- a frame

cells-few : (is : Value → Bool) (b : List ℕ) (n : List ℤ) (k e : ℕ) → cells_to is b n k e ≤ e
unfolding cells_to
cells-few is b n k zero = omega arith
cells-few is b n k (suc e) = let h = cells-few is b n k e in let g = one-most (is (cell_in b n k e)) in omega arith

module _ (b : List ℕ) (n : List ℤ) (c : List ℕ) (k : ℕ) (g : k < 32) (M : Room c) where
  pub add-begun : length c ≡ 800 → Added b n c c k 0
  unfolding cells_to
  add-begun l = record { most = omega arith; more = λ i h. omega arith; long = l }

  pub add-few : (c' : List ℕ) (e : ℕ) → e < 24 → Added b n c c' k e → Few c'
  add-few c' e h A i a = let m = A.more i a in let f = cells-few (counts_at i k) b n k e in let r = M i a in omega arith

  pub add-cell : (c₁ c₂ : List ℕ) (e : ℕ) → e < 24 → Added b n c c₁ k e → Recounts more b n c₁ c₂ k e → Added b n c c₂ k (e + 1)
  unfolding cells_to
  add-cell c₁ c₂ e h A S = record {
    most = omega arith;
    more = λ i a. rw (add-one e) (go i (counts_at i k (cell_in b n k e)) (ap (λ (d : List ℕ). d ! i) S.counts ∙ hits more c₁ A.long i k g (cell_in b n k e) S.byte) (A.more i a));
    long = S.long;
  }
    where
      go : (i : ℕ) (t : Bool) → c₂ ! i ≡ cond t (c₁ ! i + 1) (c₁ ! i) → c₁ ! i ≡ c ! i + cells_to (counts_at i k) b n k e → c₂ ! i ≡ c ! i + (cells_to (counts_at i k) b n k e + one t)
      go i true x y = omega arith
      go i false x y = omega arith

  pub add_done : (c' : List ℕ) (e : ℕ) → 24 ≤ e → Added b n c c' k e → Added b n c c' k 24
  add_done c' e h A = let m = A.most in let z : e ≡ 24 = omega arith in rw (sym z) A

-- ---- the live calls

frames-more : (is : Value → Bool) (f : ℕ → Frame) (i m : ℕ) → in_frames is (up_to f i (suc m)) ≡ in_frames is (up_to f i m) + in_frame is (f (i + m))
unfolding in_frames up_to
frames-more is f i zero = let z : i + 0 ≡ i = omega arith in rw z (omega arith)
frames-more is f i (suc m) = let z : i + suc m ≡ suc i + m = omega arith in let h = frames-more is f (suc i) m in rw z (omega arith)

frames-few : (is : Value → Bool) (b : List ℕ) (n : List ℤ) (i m : ℕ) → in_frames is (up_to (frame_in b n) i m) ≤ 24 * m
unfolding in_frames up_to
frames-few is b n i zero = omega arith
frames-few is b n i (suc m) = let h = frames-few is b n (suc i) m in let g = frame-most is b n i in omega arith

references-few : (b : List ℕ) (n : List ℤ) (k j : ℕ) → references (get_elem? (up_to (frame_in b n) 0 k) j) ≤ 24
unfolding references
references-few b n k j = go (ltb j k) refl
  where
    go : (t : Bool) → ltb j k ≡ t → references (get_elem? (up_to (frame_in b n) 0 k) j) ≤ 24
    go true q = rw (get_elem?-up_to (frame_in b n) k j (ltb-true j k q)) (frame-most is_reference b n j)
    go false q = rw (missing-up_to (frame_in b n) k j (ltb-false j k q)) (omega arith)

pub tally-begun : (b : List ℕ) (n : List ℤ) (c : List ℕ) → Nothing c → Tallied b n c 0 0
unfolding in_frames forcers references up_to
tally-begun b n c N = record {
  calls = omega arith;
  depth = omega arith;
  held = λ i h. N.none i (omega arith);
  forced = λ p h. N.none (512 + p) (omega arith);
  frames = λ j h. N.none (768 + j) (omega arith);
  long = N.long;
}

module _ (b : List ℕ) (n : List ℤ) where
  pub tally-room : (c : List ℕ) (k : ℕ) → k < 32 → Tallied b n c k 0 → Room c
  unfolding forcers up_to
  tally-room c k h T i a = go (ltb i 512) refl (ltb i 768) refl
    where
      go : (s : Bool) → ltb i 512 ≡ s → (t : Bool) → ltb i 768 ≡ t → c ! i ≤ 744
      go true p t q = let e = T.held i (ltb-true i 512 p) in let f = frames-few (refers_to i) b n 0 k in omega arith
      go false p true q =
          let l = ltb-false i 512 p in
          let m = ltb-true i 768 q in
          let z : 512 + (i - 512) ≡ i = omega arith in
          let e = rw z at (T.forced (i - 512) (omega arith)) in
          omega arith
      go false p false q =
          let m = ltb-false i 768 q in
          let z : 768 + (i - 768) ≡ i = omega arith in
          let e = rw z at (T.frames (i - 768) (omega arith)) in
          let f = references-few b n k (i - 768) in
          omega arith

  pub tally-frame : (c c' : List ℕ) (k : ℕ) → k < 32 → Tallied b n c k 0 → Added b n c c' k 24 → Tallied b n c' (k + 1) 0
  unfolding references
  tally-frame c c' k h T A = record {
    calls = omega arith;
    depth = omega arith;
    held = λ i a.
        let x = A.more i (omega arith) in
        let y = T.held i a in
        let z = cells-all (counts_at i k) b n k ∙ frame-as (counts_at i k) (refers_to i) (λ u. at-holders k u i a) (frame_in b n k) in
        let q : 0 + k ≡ k = omega arith in
        let w = frames-more (refers_to i) (frame_in b n) 0 k in
        let u = ap (λ j. in_frame (refers_to i) (frame_in b n j)) q in
        rw (add-one k) (omega arith);
    forced = λ p a.
        let x = A.more (512 + p) (omega arith) in
        let z = cells-all (counts_at (512 + p) k) b n k ∙ frame-none (counts_at (512 + p) k) (λ u. elsewhere k u (512 + p) (omega arith) (λ y. omega arith)) (frame_in b n k) in
        (let w : c' ! (512 + p) ≡ c ! (512 + p) = omega arith in w) ∙ T.forced p a;
    frames = λ j a. let x = A.more (768 + j) (omega arith) in each j a x (T.frames j a) (eqb j k) refl (ltb j k) refl;
    long = A.long;
  }
    where
      each : (j : ℕ) → j < 32 → c' ! (768 + j) ≡ c ! (768 + j) + cells_to (counts_at (768 + j) k) b n k 24 → c ! (768 + j) ≡ references (get_elem? (up_to (frame_in b n) 0 k) j)
          → (s : Bool) → eqb j k ≡ s → (t : Bool) → ltb j k ≡ t → c' ! (768 + j) ≡ references (get_elem? (up_to (frame_in b n) 0 (k + 1)) j)
      each j a x y true p t q =
          let e = eqb-true j k p in
          let u = rw e at x in
          let w = rw (e, missing-up_to (frame_in b n) k k (omega arith)) at y in
          let z = cells-all (counts_at (768 + k) k) b n k ∙ frame-as (counts_at (768 + k) k) is_reference (at-frame k) (frame_in b n k) in
          rw (e, get_elem?-up_to (frame_in b n) (k + 1) k (omega arith)) (omega arith)
      each j a x y false p t q =
          let e = eqb-false j k p in
          let z = cells-all (counts_at (768 + j) k) b n k ∙ frame-none (counts_at (768 + j) k) (λ u. elsewhere k u (768 + j) (omega arith) (λ y. e (omega arith))) (frame_in b n k) in
          (let w : c' ! (768 + j) ≡ c ! (768 + j) = omega arith in w) ∙ y ∙ same t q
        where
          same : (t : Bool) → ltb j k ≡ t → references (get_elem? (up_to (frame_in b n) 0 k) j) ≡ references (get_elem? (up_to (frame_in b n) 0 (k + 1)) j)
          same true q = let l = ltb-true j k q in rw (get_elem?-up_to (frame_in b n) k j l, get_elem?-up_to (frame_in b n) (k + 1) j (omega arith)) refl
          same false q = let l = ltb-false j k q in let e : j ≡ k → ⊥ = eqb-false j k p in rw (missing-up_to (frame_in b n) k j l, missing-up_to (frame_in b n) (k + 1) j (omega arith)) refl

-- ---- the live activations

activations-more : (p : ℕ) (f : ℕ → Activation) (i m : ℕ) → forcers p (up_to f i (suc m)) ≡ forcers p (up_to f i m) + one (is_force p (f (i + m)).opener)
unfolding forcers up_to
activations-more p f i zero = let z : i + 0 ≡ i = omega arith in rw z (omega arith)
activations-more p f i (suc m) = let z : i + suc m ≡ suc i + m = omega arith in let h = activations-more p f (suc i) m in rw z (omega arith)

forces-few : (p : ℕ) (f : ℕ → Activation) (i m : ℕ) → forcers p (up_to f i m) ≤ m
unfolding forcers up_to
forces-few p f i zero = omega arith
forces-few p f i (suc m) = let h = forces-few p f (suc i) m in let g = one-most (is_force p (f i).opener) in omega arith

module _ (b : List ℕ) (n : List ℤ) (c : List ℕ) (k d : ℕ) (T : Tallied b n c k d) where
  pub tally-calm : Calm c
  tally-calm p h = let e = T.forced p h in let f = forces-few p (activation_in b) 0 d in let l = T.depth in omega arith

  pub tally-force : (c' : List ℕ) {a : Activation} → d < 32 → a ≡ activation_in b d → Pends c c' a.opener → Tallied b n c' k (d + 1)
  tally-force c' {a = a} h e (q, y) = record {
    calls = T.calls;
    depth = omega arith;
    held = λ i x. ap (λ (l : List ℕ). l ! i) q ∙ repend-held more c a.opener i x ∙ T.held i x;
    forced = λ p x.
        let z : 0 + d ≡ d = omega arith in
        let w = activations-more p (activation_in b) 0 d in
        let u = ap (λ j. one (is_force p (activation_in b j).opener)) z in
        rw (add-one d) (go p (is_force p (activation_in b d).opener)
        (ap (λ (l : List ℕ). l ! (512 + p)) q ∙ repend-forced more c a.opener p x T.long ∙ ap
        (λ (y : Activation). cond (is_force p y.opener) (c ! (512 + p) + 1) (c ! (512 + p))) e) (T.forced p x) (w ∙ ap (λ m. forcers p (up_to (activation_in b) 0 d) + m) u));
    frames = λ j x. ap (λ (l : List ℕ). l ! (768 + j)) q ∙ repend-frames more c a.opener j y ∙ T.frames j x;
    long = ap length q ∙ length-repend more c a.opener ∙ T.long;
  }
    where
      go : (p : ℕ) (t : Bool) {x y z : ℕ} → x ≡ cond t (c ! (512 + p) + 1) (c ! (512 + p)) → c ! (512 + p) ≡ y → z ≡ y + one t → x ≡ z
      go p true e f g = omega arith
      go p false e f g = omega arith

-- ---- all of them

take-most : {A : Type 0} (f : ℕ → A) (m : ℕ) → take m (up_to f 0 32) ≡ up_to f 0 (at_most m)
take-most f m = go (ltb m 32) refl
  where
    go : (t : Bool) → ltb m 32 ≡ t → take m (up_to f 0 32) ≡ up_to f 0 (cond t m 32)
    go true q = let h = ltb-true m 32 q in take-up_to f 32 m (omega arith)
    go false q = let h = ltb-false m 32 q in take-all-up_to f 32 m h

pub tally-done : (b : List ℕ) (n : List ℤ) (c : List ℕ) {d j : ℕ} → Sized b n → d ≡ at_most (b ! DEPTH) → Tallied b n c (at_most (b ! CALLS)) j → j ≤ d → d ≤ j → Ready b n c
unfolding holding forcing live_frames live_activations state_in
tally-done b n c {d = d} {j = j} s e T l m =
    let z : j ≡ at_most (b ! DEPTH) = (let y : j ≡ d = omega arith in y ∙ e) in
    record {
      bytes = s.0;
      numbers = s.1;
      counts = T.long;
      counted = record {
        held = λ i a. T.held i a ∙ ap (in_frames (refers_to i)) (sym (take-most (frame_in b n) (b ! CALLS)));
        forced = λ p a. T.forced p a ∙ ap (λ m. forcers p (up_to (activation_in b) 0 m)) z ∙ ap (forcers p) (sym (take-most (activation_in b) (b ! DEPTH)));
        frames = λ k a. T.frames k a ∙ ap (λ (l : List Frame). references (get_elem? l k)) (sym (take-most (frame_in b n) (b ! CALLS)));
      };
    }

pub at-most : {m n : ℕ} → m ≡ n → m < 32 → m ≡ at_most n
at-most {m = m} {n = n} e h = rw (lt-ltb n 32 (omega arith)) e

pub at_least : {m n : ℕ} → m ≡ n → 32 ≤ m → 32 ≡ at_most n
at_least {m = m} {n = n} e h = rw (le-ltb n 32 (omega arith)) refl

pub tally-all : (b : List ℕ) (n : List ℤ) (c : List ℕ) (x : ℕ) {k m : ℕ} → m ≡ at_most x → Tallied b n c k 0 → k ≤ m → m ≤ k → Tallied b n c (at_most x) 0
tally-all b n c x {k = k} {m = m} e T g h = let z : k ≡ m = omega arith in rw (sym e, sym z) T

-- ---- the start

pub nothing-counted : {c : List ℕ} → c ≡ replicate 800 0 → Nothing c
nothing-counted e = rw e (record { none = λ i l. get_or-replicate {A = ℕ} 800 i 0 0 l; long = length-replicate {A = ℕ} 800 0 })
