-- A call or a force that ends.
use mathlib.Core.Path.{◌≡◌, refl, sym, ap, ◌∙◌}
use mathlib.Core.List.{List}
use mathlib.Core.Bool.{Bool, true, false, cond}
use Prim.Native.Nat.{ℕ, zero, suc, ◌+◌, ◌-◌, ◌≤◌, ◌<◌}
use native.Mathlib.Omega.{arith}
use lib.IntN.{ℤ}
use lib.ListN.{get_elem?, length, length-set, set, take}
use lib.Seq.{get_or-set_same, get_or-set_other}
use borrow.Author.Tests.{eq-eqb, eqb-true, eqb-false, ltb-true, ltb-false}
use lib.Dec.{eqb, ltb}
use Rattle.layout.specs.Records.{◌!◌}
use Rattle.layout.proofs.Lists.{get_take, take_none}
use Rattle.machine.specs.Try.{at, or_stuck}
use Rattle.machine.specs.States.{is_force, live_activations, live_frames, with_stack}
use Rattle.machine.specs.declared.Activation.{Activation}
use Rattle.machine.specs.declared.Frame.{Frame}
use Rattle.machine.specs.declared.Opener.{Opener}
use Rattle.machine.specs.declared.Value.{Value}
use Rattle.store.specs.Lists.{up_to}
use Rattle.store.proofs.Lists.{missing-up_to}
use Rattle.layout.proofs.Lists.{none-taken}
use Rattle.store.specs.Store.{CALLS, DEPTH, activation_in, forced_by, frame_in, state_in, Live}
use Rattle.store.specs.Counts.{one, in_frame, in_frames, holding, forcers, forcing, is_reference, references, referring, refers_to, counts_at, repend, fewer, Ready}
use Rattle.store.proofs.Kept.{new-stack}
use Rattle.store.proofs.Counting.{frames-some}
use Rattle.store.proofs.Recounting.{at-frame, at-holders, elsewhere, live-frame, referring-live}
use Rattle.store.proofs.Pushing.{length-repend, repend-forced, repend-frames, repend-held}
use Rattle.frames.proofs.Dropping.{frame-as, frame-none}
use Rattle.frames.specs.Frames.{Dropped, Ending, Forcing, Held, Lives, with_less}

-- ---- live or not

pub none_here : (b : List ℕ) (k : ℕ) → 32 ≤ k → Lives false b k
unfolding Lives at or_stuck live_frames state_in
none_here b k h n = rw (none-taken (up_to (frame_in b n) 0 32) (b ! CALLS) k (missing-up_to (frame_in b n) 32 k h)) refl

pub lives_by : (b : List ℕ) (k : ℕ) {c : ℕ} → c ≡ b ! CALLS → k < 32 → Lives (ltb k c) b k
unfolding Lives at or_stuck live_frames state_in
lives_by b k {c = c} e h = go (ltb k c) refl
  where
    go : (t : Bool) → ltb k c ≡ t → Lives t b k
    go true q = (h, omega (arith, ltb-true k c q, e))
    go false q = λ n. rw (take_none (up_to (frame_in b n) 0 32) (b ! CALLS) k (omega (arith, ltb-false k c q, e))) refl

-- ---- the last one

frames-last : (is : Value → Bool) (f : ℕ → Frame) (m i j : ℕ) → m < j → in_frames is (take (suc m) (up_to f i j)) ≡ in_frames is (take m (up_to f i j)) + in_frame is (f (i + m))
unfolding in_frames up_to
frames-last is f m i zero h = absurd (omega arith)
frames-last is f zero i (suc j) h = let z : i + 0 ≡ i = omega arith in rw z (none j)
  where
    none : (j : ℕ) → in_frame is (f i) + in_frames is (take 0 (up_to f (suc i) j)) ≡ 0 + in_frame is (f i)
    none zero = omega arith
    none (suc j) = omega arith
frames-last is f (suc m) i (suc j) h = let g = frames-last is f m (suc i) j (omega arith) in let z : i + suc m ≡ suc i + m = omega arith in rw z (omega arith)

forcers-last : (p : ℕ) (f : ℕ → Activation) (m i j : ℕ) → m < j → forcers p (take (suc m) (up_to f i j)) ≡ forcers p (take m (up_to f i j)) + one (is_force p (f (i + m)).opener)
unfolding forcers up_to
forcers-last p f m i zero h = absurd (omega arith)
forcers-last p f zero i (suc j) h = let z : i + 0 ≡ i = omega arith in rw z (none j)
  where
    none : (j : ℕ) → one (is_force p (f i).opener) + forcers p (take 0 (up_to f (suc i) j)) ≡ 0 + one (is_force p (f i).opener)
    none zero = omega arith
    none (suc j) = omega arith
forcers-last p f (suc m) i (suc j) h = let g = forcers-last p f m (suc i) j (omega arith) in let z : i + suc m ≡ suc i + m = omega arith in rw z (omega arith)

-- ---- fewer of them

-- the bytes that say how many
less-is : (b : List ℕ) (n : List ℤ) (b' : List ℕ) {m : ℕ} → b' ! CALLS ≡ m → b' ! DEPTH ≡ b ! DEPTH - 1 → ((i : ℕ) → (CALLS ≤ i → i < CALLS + 2 → ⊥) → b' ! i ≡ b ! i)
    → state_in b' n ≡ with_less (state_in b n) m
unfolding with_less with_stack state_in
less-is b n b' x y h = new-stack b b' n n h (λ i q. refl) ∙ (λ t. with_stack (state_in b n) (state_in b n).frames (x t) (state_in b n).activations (y t))

less-same : (b : List ℕ) (n : List ℤ) (is : Value → Bool) → holding is (with_less (state_in b n) (b ! CALLS)) ≡ holding is (state_in b n)
unfolding holding with_less with_stack live_frames state_in
less-same b n is = refl

less-refers : (b : List ℕ) (n : List ℤ) (j : ℕ) → referring j (with_less (state_in b n) (b ! CALLS)) ≡ referring j (state_in b n)
unfolding with_less with_stack live_frames state_in
less-refers b n j = refl

-- ---- a call

module _ {b : List ℕ} {n : List ℤ} {c : List ℕ} (R : Ready b n c) where
  newest : (E : Ending b) → Live b (b ! CALLS - 1)
  newest E = let a = E.calls in let f = E.few in (omega arith, omega arith)

  pub held-newest : Ending b → {k : ℕ} → k ≡ b ! CALLS → Held b n c (k - 1)
  unfolding holding
  held-newest E {k = k} e = rw e (record { counted = λ i a. all i (ltb i 512) refl (eqb i (768 + (b ! CALLS - 1))) refl; own = own-count; long = R.counts })
    where
      own-count : c ! (768 + (b ! CALLS - 1)) ≡ in_frame (counts_at (768 + (b ! CALLS - 1)) (b ! CALLS - 1)) (frame_in b n (b ! CALLS - 1))
      own-count =
          let j = b ! CALLS - 1 in
          R.counted.frames j (newest E).0 ∙ referring-live b n j (newest E) ∙ sym (frame-as (counts_at (768 + j) j) is_reference (at-frame j) (frame_in b n j))

      all : (i : ℕ) (s : Bool) → ltb i 512 ≡ s → (t : Bool) → eqb i (768 + (b ! CALLS - 1)) ≡ t → in_frame (counts_at i (b ! CALLS - 1)) (frame_in b n (b ! CALLS - 1)) ≤ c ! i
      all i true p t q =
          let j = b ! CALLS - 1 in
          let a = ltb-true i 512 p in
          let g = frames-some (refers_to i) (live_frames (state_in b n)) j (frame_in b n j) (live-frame (refers_to i) b n j (newest E)) in
          let h = R.counted.held i a in
          let x = frame-as (counts_at i j) (refers_to i) (λ u. at-holders j u i a) (frame_in b n j) in
          omega arith
      all i false p true q = let z = eqb-true i (768 + (b ! CALLS - 1)) q in rw z (let x = own-count in omega arith)
      all i false p false q = let j = b ! CALLS - 1 in let x = frame-none (counts_at i j) (λ u. elsewhere j u i (ltb-false i 512 p) (eqb-false i (768 + j) q)) (frame_in b n j) in omega arith

  -- the bytes of a call that ends
  abbrev pub fewer_calls : List ℕ
  fewer_calls = set (set b CALLS (b ! CALLS - 1)) DEPTH (b ! DEPTH - 1)

  calls-less : (is : Value → Bool) → Ending b → holding is (with_less (state_in b n) (b ! CALLS - 1)) + in_frame is (frame_in b n (b ! CALLS - 1)) ≡ holding is (state_in b n)
  unfolding holding with_less with_stack live_frames state_in
  calls-less is E =
      let a = E.calls in
      let f = E.few in
      let z : suc (b ! CALLS - 1) ≡ b ! CALLS = omega arith in
      let y : 0 + (b ! CALLS - 1) ≡ b ! CALLS - 1 = omega arith in
      let g = frames-last is (frame_in b n) (b ! CALLS - 1) 0 32 (omega arith) in
      let p = ap (λ m. in_frames is (take m (up_to (frame_in b n) 0 32))) z in
      let q = ap (λ m. in_frame is (frame_in b n m)) y in
      omega arith

  forces-less : (p : ℕ) (m : ℕ) → 0 < b ! DEPTH → b ! DEPTH ≤ 32 → forcing p (with_less (state_in b n) m) + one (is_force p (activation_in b (b ! DEPTH - 1)).opener) ≡ forcing p (state_in b n)
  unfolding forcing with_less with_stack live_activations state_in
  forces-less p m a f =
      let z : suc (b ! DEPTH - 1) ≡ b ! DEPTH = omega arith in
      let y : 0 + (b ! DEPTH - 1) ≡ b ! DEPTH - 1 = omega arith in
      let g = forcers-last p (activation_in b) (b ! DEPTH - 1) 0 32 (omega arith) in
      let u = ap (λ d. forcers p (take d (up_to (activation_in b) 0 32))) z in
      let q = ap (λ d. one (is_force p (activation_in b d).opener)) y in
      omega arith

  -- the frame that ends refers to nothing any more
  own-less : Ending b → (j : ℕ) → j < 32 → {c' : List ℕ} → Dropped b n c c' (b ! CALLS - 1) → (s : Bool) → eqb j (b ! CALLS - 1) ≡ s → (t : Bool) → ltb j (b ! CALLS) ≡ t → c' !
      (768 + j) ≡ referring j (with_less (state_in b n) (b ! CALLS - 1))
  unfolding with_less with_stack live_frames references state_in
  own-less E j a {c' = c'} D true p t q =
      let m = b ! CALLS - 1 in
      let z = eqb-true j m p in
      let x = D.less (768 + m) (let l = (newest E).0 in omega arith) in
      let w = (held-newest E refl).own in
      rw (z, take_none (up_to (frame_in b n) 0 32) m m (omega arith)) (omega arith)
  own-less E j a {c' = c'} D false p t q = unchanged ∙ R.counted.frames j a ∙ same t q
    where
      unchanged : c' ! (768 + j) ≡ c ! (768 + j)
      unchanged =
          let m = b ! CALLS - 1 in
          let x = D.less (768 + j) (omega arith) in
          let z = frame-none (counts_at (768 + j) m) (λ u. elsewhere m u (768 + j) (omega arith) (λ y. eqb-false j m p (omega arith))) (frame_in b n m) in
          omega arith

      same : (t : Bool) → ltb j (b ! CALLS) ≡ t → references (get_elem? (take (b ! CALLS) (up_to (frame_in b n) 0 32)) j) ≡ references
          (get_elem? (take (b ! CALLS - 1) (up_to (frame_in b n) 0 32)) j)
      same true q =
          let l = ltb-true j (b ! CALLS) q in
          let z : j ≡ b ! CALLS - 1 → ⊥ = eqb-false j (b ! CALLS - 1) p in
          rw (get_take (up_to (frame_in b n) 0 32) (b ! CALLS) j l, get_take (up_to (frame_in b n) 0 32) (b ! CALLS - 1) j (omega arith)) refl
      same false q = let l = ltb-false j (b ! CALLS) q in rw (take_none (up_to (frame_in b n) 0 32) (b ! CALLS) j l, take_none (up_to (frame_in b n) 0 32) (b ! CALLS - 1) j (omega arith)) refl

  pub call-closed : Ending b → {k : ℕ} {c' : List ℕ} → k ≡ b ! CALLS → Dropped b n c c' (k - 1) → (state_in fewer_calls n ≡ with_less (state_in b n) (b ! CALLS - 1)) × Ready fewer_calls n c'
  unfolding is_force
  call-closed E {k = k} {c' = c'} e D =
      let lb = R.bytes in
      let s = closed_is E in (
        s,
        record {
          bytes = simp (length-set, lb);
          numbers = R.numbers;
          counts = D.long;
          counted = record {
            held = λ i a.
                let j = b ! CALLS - 1 in
                let x = rw e at (D.less i (omega arith)) in
                let v = frame-as (counts_at i j) (refers_to i) (λ u. at-holders j u i a) (frame_in b n j) in
                let y = R.counted.held i a in
                let z = calls-less (refers_to i) E in
                let w = ap (holding (refers_to i)) s in
                omega arith;
            frames = λ j a. own-less E j a (rw e at D) (eqb j (b ! CALLS - 1)) refl (ltb j (b ! CALLS)) refl ∙ sym (ap (referring j) s);
            forced = λ p a. let x = dropped-force p a (rw e at D) in let y = R.counted.forced p a in let z = rw E.opener at
                (forces-less p (b ! CALLS - 1) E.depth E.low) in let w = ap (forcing p) s in omega arith;
          };
        },
      )
    where
      dropped-force : (p : ℕ) → p < 256 → Dropped b n c c' (b ! CALLS - 1) → c' ! (512 + p) ≡ c ! (512 + p)
      dropped-force p a D =
          let j = b ! CALLS - 1 in
          let x = D.less (512 + p) (omega arith) in
          let z = frame-none (counts_at (512 + p) j) (λ u. elsewhere j u (512 + p) (omega arith) (λ y. omega arith)) (frame_in b n j) in
          omega arith

      closed_is : Ending b → state_in fewer_calls n ≡ with_less (state_in b n) (b ! CALLS - 1)
      closed_is E =
          let lb = R.bytes in
          let l : length (set b CALLS (b ! CALLS - 1)) ≡ 2632 = simp (length-set, lb) in
          let x = get_or-set_other (set b CALLS (b ! CALLS - 1)) DEPTH CALLS (b ! DEPTH - 1) 0 (λ z. omega arith) ∙ get_or-set_same b CALLS (b ! CALLS - 1) 0 (omega arith) in
          let y = get_or-set_same (set b CALLS (b ! CALLS - 1)) DEPTH (b ! DEPTH - 1) 0 (omega arith) in
          less-is b n fewer_calls x y (λ m q. get_or-set_other (set b CALLS (b ! CALLS - 1)) DEPTH m (b ! DEPTH - 1) 0 (λ z. q (omega arith) (omega arith)) ∙ get_or-set_other b CALLS m
          (b ! CALLS - 1) 0 (λ z. q (omega arith) (omega arith)))

  -- ---- a force

  force-closed : {p : ℕ} → Forcing b p → p < 256 → (state_in (set b DEPTH (b ! DEPTH - 1)) n ≡ with_less (state_in b n) (b ! CALLS)) × Ready (set b DEPTH (b ! DEPTH - 1)) n
      (set c (512 + p) (c ! (512 + p) - 1))
  unfolding repend forced_by
  force-closed {p = p} F h =
      let lb = R.bytes in
      let lc = R.counts in
      let x = get_or-set_other b DEPTH CALLS (b ! DEPTH - 1) 0 (λ z. omega arith) in
      let y = get_or-set_same b DEPTH (b ! DEPTH - 1) 0 (omega arith) in
      let s = less-is b n (set b DEPTH (b ! DEPTH - 1)) x y (λ m q. get_or-set_other b DEPTH m (b ! DEPTH - 1) 0 (λ z. q (omega arith) (omega arith))) in (
        s,
        record {
          bytes = simp (length-set, lb);
          numbers = R.numbers;
          counts = length-repend fewer c (Opener.Force p) ∙ lc;
          counted = record {
            frames = λ j a. repend-frames fewer c (Opener.Force p) j h ∙ R.counted.frames j a ∙ sym (ap (referring j) s ∙ refers-same j);
            held = λ i a. repend-held fewer c (Opener.Force p) i a ∙ R.counted.held i a ∙ sym (ap (holding (refers_to i)) s ∙ holds_same i);
            forced = λ q a. go q (is_force q (Opener.Force p)) (repend-forced fewer c (Opener.Force p) q a lc) (R.counted.forced q a)
                (rw F.opener at (forces-less q (b ! CALLS) F.depth F.low)) ∙ sym (ap (forcing q) s);
          };
        },
      )
    where
      refers-same : (j : ℕ) → referring j (with_less (state_in b n) (b ! CALLS)) ≡ referring j (state_in b n)
      refers-same j = less-refers b n j

      holds_same : (i : ℕ) → holding (refers_to i) (with_less (state_in b n) (b ! CALLS)) ≡ holding (refers_to i) (state_in b n)
      holds_same i = less-same b n (refers_to i)

      go : (q : ℕ) (t : Bool) {x y : ℕ} → x ≡ cond t (c ! (512 + q) - 1) (c ! (512 + q)) → c ! (512 + q) ≡ forcing q (state_in b n) → y + one t ≡ forcing q (state_in b n) → x ≡ y
      go q true e f g = omega arith
      go q false e f g = omega arith

  pub force-some : {p w : ℕ} → w ≡ p → Forcing b p → p < 256 → 0 < c ! (512 + w)
  unfolding is_force
  force-some {p = p} e F h =
      let g = rw (F.opener, eq-eqb p p refl) at (forces-less p (b ! CALLS) F.depth F.low) in
      let y = R.counted.forced p h in
      rw e (omega arith)

  pub force-closed-by : {p w : ℕ} → w ≡ p → Forcing b p → p < 256 → (state_in (set b DEPTH (b ! DEPTH - 1)) n ≡ with_less (state_in b n) (b ! CALLS)) × Ready (set b DEPTH (b ! DEPTH - 1)) n
      (set c (512 + w) (c ! (512 + w) - 1))
  force-closed-by e F h = rw e (force-closed F h)
