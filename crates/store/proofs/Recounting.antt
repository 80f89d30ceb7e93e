-- The counts after a cell was written.
use mathlib.Core.Path.{◌≡◌, refl, sym, ap, ◌∙◌}
use mathlib.Core.List.{List, [], ◌∷◌}
use mathlib.Core.Option.{some}
use mathlib.Core.Bool.{Bool, true, false, cond, ◌&&◌}
use mir.Syntax.{w16}
use mir.Val.{Fits}
use Prim.Native.Nat.{ℕ, zero, suc, ◌+◌, ◌-◌, ◌*◌, ◌≤◌, ◌<◌}
use native.Mathlib.Omega.{arith}
use lib.IntN.{ℤ}
use lib.ListN.{get_elem?, length, length-set, set, take}
use lib.Seq.{get_or-set_same, get_or-set_other}
use lib.Dec.{eqb, ltb}
use borrow.Author.Tests.{eq-eqb, ne_eqb, eqb-true, eqb-false, lt-ltb, le-ltb, ltb-true, ltb-false}
use Rattle.layout.specs.Records.{◌!◌}
use Rattle.layout.proofs.Lists.{get_other, get_take, none-taken, take_none}
use Rattle.machine.specs.States.{place, live_activations, live_frames, is_promise, is_vector, with_frame, with_stack}
use Rattle.machine.specs.declared.Frame.{Frame}
use Rattle.machine.specs.declared.Value.{Value}
use Rattle.store.specs.Lists.{up_to}
use Rattle.store.proofs.Lists.{get_elem?-up_to, length-up_to, missing-up_to}
use Rattle.store.specs.Store.{◌#◌, PLACES, CALLS, value_of, cell_in, frame_in, state_in, Live, Puts}
use Rattle.store.specs.Counts.{one, holders, in_frame, in_frames, holding, forcing, references, referring, is_reference, refers_to, counts_at, Covers, Few, Byte, Ready, Recounts}
use Rattle.store.specs.Counts.{changed, recount, fewer, more}
use Rattle.store.proofs.Counting.{holders-set, frames-set, frames-some, places-some, places-most, take-set}
use Rattle.store.proofs.Puts.{put-integer, put-number, put-place}
use Rattle.store.proofs.Pushing.{forcing-most}
use Rattle.store.proofs.Frames.{put-frame, put-names, put-registers, same_names, same-registers}

-- ---- what a count refers to

-- where a value in a cell of the frame k counts, by its kind
module _ (i k : ℕ) where
  pub none-there : (u : Value) → is_reference u ≡ false → counts_at i k u ≡ false
  unfolding counts_at is_reference refers_to is_vector is_promise
  none-there Value.Empty e = both (ltb i 512) (ltb i 256)
    where
      both : (s t : Bool) → cond s (cond t (is_vector i) (is_promise (i - 256)) Value.Empty) false ≡ false
      both true true = refl
      both true false = refl
      both false t = refl
  none-there (Value.Integer z) e = both (ltb i 512) (ltb i 256)
    where
      both : (s t : Bool) → cond s (cond t (is_vector i) (is_promise (i - 256)) (Value.Integer z)) false ≡ false
      both true true = refl
      both true false = refl
      both false t = refl
  none-there (Value.Vector v) e = cc
  none-there (Value.Promise p) e = cc

  vector-there : (v : ℕ) → v < 256 → counts_at i k (Value.Vector v) ≡ cond (ltb i 512) (eqb i v) (eqb i (768 + k))
  unfolding counts_at is_reference refers_to is_vector is_promise
  vector-there v a = go (ltb i 512) (ltb i 256) refl
    where
      go : (s t : Bool) → ltb i 256 ≡ t → cond s (cond t (is_vector i) (is_promise (i - 256)) (Value.Vector v)) (eqb i (768 + k)) ≡ cond s (eqb i v) (eqb i (768 + k))
      go true true q = refl
      go true false q = let g = ltb-false i 256 q in sym (ne_eqb i v (λ z. omega arith))
      go false t q = refl

  promise-there : (p : ℕ) → p < 256 → counts_at i k (Value.Promise p) ≡ cond (ltb i 512) (eqb i (256 + p)) (eqb i (768 + k))
  unfolding counts_at is_reference refers_to is_vector is_promise
  promise-there p a = go (ltb i 512) (ltb i 256) refl
    where
      same : 256 ≤ i → (t : Bool) → eqb (i - 256) p ≡ t → t ≡ eqb i (256 + p)
      same g true r = let e = eqb-true (i - 256) p r in sym (eq-eqb i (256 + p) (omega arith))
      same g false r = let e = eqb-false (i - 256) p r in sym (ne_eqb i (256 + p) (λ z. e (omega arith)))

      go : (s t : Bool) → ltb i 256 ≡ t → cond s (cond t (is_vector i) (is_promise (i - 256)) (Value.Promise p)) (eqb i (768 + k)) ≡ cond s (eqb i (256 + p)) (eqb i (768 + k))
      go true true q = let g = ltb-true i 256 q in sym (ne_eqb i (256 + p) (λ z. omega arith))
      go true false q = same (ltb-false i 256 q) (eqb (i - 256) p) refl
      go false t q = refl

-- a value in a cell is counted where it refers to something, and in its frame
module _ (f : ℕ → ℕ) (c : List ℕ) (l : length c ≡ 800) (i k : ℕ) (h : k < 32) where
  twice : (j : ℕ) → j < 512 → changed f (changed f c j) (768 + k) ! i ≡ cond (cond (ltb i 512) (eqb i j) (eqb i (768 + k))) (f (c ! i)) (c ! i)
  twice j a = low (ltb i 512) refl
    where
      first : (t : Bool) → eqb i j ≡ t → changed f c j ! i ≡ cond t (f (c ! i)) (c ! i)
      first true q = let e = eqb-true i j q in rw e (get_or-set_same c j (f (c ! j)) 0 (omega arith))
      first false q = get_or-set_other c j i (f (c ! j)) 0 (eqb-false i j q)

      second : 512 ≤ i → (t : Bool) → eqb i (768 + k) ≡ t → changed f (changed f c j) (768 + k) ! i ≡ cond t (f (c ! i)) (c ! i)
      second g true q =
          let e = eqb-true i (768 + k) q in
          let m : length (changed f c j) ≡ 800 = simp (length-set, l) in
          rw e (get_or-set_same (changed f c j) (768 + k) (f (changed f c j ! (768 + k))) 0 (omega arith) ∙ ap f (get_or-set_other c j (768 + k) (f (c ! j)) 0 (λ z. omega arith)))
      second g false q = get_or-set_other (changed f c j) (768 + k) i (f (changed f c j ! (768 + k))) 0 (eqb-false i (768 + k) q) ∙ get_or-set_other c j i (f (c ! j)) 0 (λ z. omega arith)

      low : (t : Bool) → ltb i 512 ≡ t → changed f (changed f c j) (768 + k) ! i ≡ cond (cond t (eqb i j) (eqb i (768 + k))) (f (c ! i)) (c ! i)
      low true q = let g = ltb-true i 512 q in get_or-set_other (changed f c j) (768 + k) i (f (changed f c j ! (768 + k))) 0 (λ z. omega arith) ∙ first (eqb i j) refl
      low false q = second (ltb-false i 512 q) (eqb i (768 + k)) refl

  pub hits : (u : Value) → Byte u → recount f c k u ! i ≡ cond (counts_at i k u) (f (c ! i)) (c ! i)
  unfolding recount Byte is_reference
  hits Value.Empty b = rw (none-there i k Value.Empty refl) refl
  hits (Value.Integer z) b = rw (none-there i k (Value.Integer z) refl) refl
  hits (Value.Vector v) b = rw (vector-there i k v b) (twice v (omega arith))
  hits (Value.Promise p) b = rw (promise-there i k p b) (twice (256 + p) (omega arith))

-- where a value in a cell of the frame k counts
module _ (k : ℕ) (u : Value) where
  pub at-holders : (i : ℕ) → i < 512 → counts_at i k u ≡ refers_to i u
  unfolding counts_at
  at-holders i h = rw (lt-ltb i 512 h) refl

  pub at-frame : counts_at (768 + k) k u ≡ is_reference u
  unfolding counts_at
  at-frame = rw (le-ltb (768 + k) 512 (omega arith), eq-eqb (768 + k) (768 + k) refl) (go (is_reference u))
    where
      go : (t : Bool) → (t && true) ≡ t
      go true = refl
      go false = refl

-- neither what it refers to nor its frame
pub elsewhere : (k : ℕ) (u : Value) (i : ℕ) → 512 ≤ i → (i ≡ 768 + k → ⊥) → counts_at i k u ≡ false
unfolding counts_at
elsewhere k u i h n = rw (le-ltb i 512 h, ne_eqb i (768 + k) n) (go (is_reference u))
  where
    go : (t : Bool) → (t && false) ≡ false
    go true = refl
    go false = refl

pub length-recount : (f : ℕ → ℕ) (c : List ℕ) (k : ℕ) (u : Value) → length (recount f c k u) ≡ length c
unfolding recount
length-recount f c k Value.Empty = refl
length-recount f c k (Value.Integer z) = refl
length-recount f c k (Value.Vector v) = simp length-set
length-recount f c k (Value.Promise p) = simp length-set

-- ---- how many there are

module _ (is : Value → Bool) (b : List ℕ) (n : List ℤ) where
  pub frame-most : (k : ℕ) → in_frame is (frame_in b n k) ≤ 24
  unfolding in_frame frame_in
  frame-most k =
      let r = places-most is (frame_in b n k).registers in
      let x = places-most is (frame_in b n k).names in
      let p : length (frame_in b n k).registers ≡ 16 = length-up_to (λ i. place (cell_in b n k i)) 16 in
      let q : length (frame_in b n k).names ≡ 8 = length-up_to (λ i. place (cell_in b n k (16 + i))) 8 in
      omega arith

  frames-most : (m i j : ℕ) → in_frames is (take m (up_to (frame_in b n) i j)) ≤ 24 * j
  unfolding in_frames up_to
  frames-most zero i j = go (up_to (frame_in b n) i j)
    where
      go : (l : List Frame) → in_frames is (take 0 l) ≤ 24 * j
      go [] = omega arith
      go (f ∷ l) = omega arith
  frames-most (suc m) i zero = omega arith
  frames-most (suc m) i (suc j) = let h = frames-most m (suc i) j in let g = frame-most i in omega arith

  pub holding-most : holding is (state_in b n) ≤ 768
  unfolding holding live_frames state_in
  holding-most = frames-most (b ! CALLS) 0 32

  module _ (k : ℕ) (L : Live b k) where
    pub live-frame : get_elem? (live_frames (state_in b n)) k ≡ some (frame_in b n k)
    unfolding live_frames state_in
    live-frame = get_take (up_to (frame_in b n) 0 32) (b ! CALLS) k L.1 ∙ get_elem?-up_to (frame_in b n) 32 k L.0

    pub in_frame_lem : (e : ℕ) → e < 24 → one (is (cell_in b n k e)) ≤ in_frame is (frame_in b n k)
    unfolding in_frame frame_in
    in_frame_lem e h = go (ltb e 16) refl
      where
        go : (t : Bool) → ltb e 16 ≡ t → one (is (cell_in b n k e)) ≤ in_frame is (frame_in b n k)
        go true q = let p = places-some is (frame_in b n k).registers e (place (cell_in b n k e)) (get_elem?-up_to (λ i. place (cell_in b n k i)) 16 e (ltb-true e 16 q)) in omega arith
        go false q =
            let g = ltb-false e 16 q in
            let z : 16 + (e - 16) ≡ e = omega arith in
            let p = places-some is (frame_in b n k).names (e - 16) (place (cell_in b n k e))
            (get_elem?-up_to (λ i. place (cell_in b n k (16 + i))) 8 (e - 16) (omega arith) ∙ ap (λ i. some (place (cell_in b n k i))) z) in
            omega arith

    pub holding-some : (e : ℕ) → e < 24 → one (is (cell_in b n k e)) ≤ holding is (state_in b n)
    unfolding holding
    holding-some e h = let p = frames-some is (live_frames (state_in b n)) k (frame_in b n k) live-frame in let q = in_frame_lem e h in omega arith

-- what refers in a frame: no more than it has cells
pub referring-most : (b : List ℕ) (n : List ℤ) (k : ℕ) → referring k (state_in b n) ≤ 24
unfolding live_frames state_in references
referring-most b n k = go (ltb k (b ! CALLS)) refl (ltb k 32) refl
  where
    go : (s : Bool) → ltb k (b ! CALLS) ≡ s → (t : Bool) → ltb k 32 ≡ t → references (get_elem? (take (b ! CALLS) (up_to (frame_in b n) 0 32)) k) ≤ 24
    go false p t q = rw (take_none (up_to (frame_in b n) 0 32) (b ! CALLS) k (ltb-false k (b ! CALLS) p)) (omega arith)
    go true p false q = rw (none-taken (up_to (frame_in b n) 0 32) (b ! CALLS) k (missing-up_to (frame_in b n) 32 k (ltb-false k 32 q))) (omega arith)
    go true p true q = rw (live-frame is_reference b n k (ltb-true k 32 q, ltb-true k (b ! CALLS) p)) (frame-most is_reference b n k)

pub referring-live : (b : List ℕ) (n : List ℤ) (k : ℕ) → Live b k → referring k (state_in b n) ≡ in_frame is_reference (frame_in b n k)
unfolding references
referring-live b n k L = ap references (live-frame is_reference b n k L)

-- ---- a cell that was written

-- a count less what was there and more what is
balance : (s t : Bool) {c c₁ c₂ x y : ℕ} → c₁ ≡ cond s (c - 1) c → c₂ ≡ cond t (c₁ + 1) c₁ → c ≡ x → y + one s ≡ x + one t → one s ≤ x → c₂ ≡ y
balance true true p q r w h = omega arith
balance true false p q r w h = omega arith
balance false true p q r w h = omega arith
balance false false p q r w h = omega arith

module _ {b b' : List ℕ} {n n' : List ℤ} {k e : ℕ} {v : Value} (P : Puts b n b' n' k e v) (L : Live b k) (h : e < 24) where
  frame-written : (is : Value → Bool) → in_frame is (frame_in b' n' k) + one (is (cell_in b n k e)) ≡ in_frame is (frame_in b n k) + one (is v)
  unfolding in_frame frame_in
  frame-written is = go (ltb e 16) refl
    where
      go : (t : Bool) → ltb e 16 ≡ t → in_frame is (frame_in b' n' k) + one (is (cell_in b n k e)) ≡ in_frame is (frame_in b n k) + one (is v)
      go true q =
          let l = ltb-true e 16 q in
          let r = ap (holders is) (put-registers P L.0 l) in
          let x = ap (holders is) (same_names P L.0 l) in
          let s = holders-set is (frame_in b n k).registers e (place (cell_in b n k e)) v (get_elem?-up_to (λ i. place (cell_in b n k i)) 16 e l) in
          omega arith
      go false q =
          let l = ltb-false e 16 q in
          let z : 16 + (e - 16) ≡ e = omega arith in
          let r = ap (holders is) (same-registers P L.0 l h) in
          let x = ap (holders is) (put-names P L.0 (e - 16) (sym z) (omega arith)) in
          let s = holders-set is (frame_in b n k).names (e - 16) (place (cell_in b n k e)) v
          (get_elem?-up_to (λ i. place (cell_in b n k (16 + i))) 8 (e - 16) (omega arith) ∙ ap (λ i. some (place (cell_in b n k i))) z) in
          omega arith

  live_written : live_frames (state_in b' n') ≡ set (live_frames (state_in b n)) k (frame_in b' n' k)
  unfolding live_frames with_frame with_stack
  live_written = ap live_frames (put-frame P L.0 h) ∙ take-set (state_in b n).frames (state_in b n).calls k (frame_in b' n' k)

  pub holding-written : (is : Value → Bool) → holding is (state_in b' n') + one (is (cell_in b n k e)) ≡ holding is (state_in b n) + one (is v)
  unfolding holding
  holding-written is =
      let f = frames-set is (live_frames (state_in b n)) k (frame_in b n k) (frame_in b' n' k) (live-frame is b n k L) in
      let w = frame-written is in
      rw live_written (omega arith)

  pub forcing-written : (p : ℕ) → forcing p (state_in b' n') ≡ forcing p (state_in b n)
  unfolding forcing live_activations with_frame with_stack
  forcing-written p = ap (forcing p) (put-frame P L.0 h)

  -- as many calls live as did
  live-after : Live b' k
  live-after = (L.0, omega (arith, L.0, L.1, P.bytes CALLS (λ z. omega (arith, L.0, h, z)) (λ z. omega (arith, L.0, h, z))))

  -- taken out and added
  module _ {c c₁ c₂ : List ℕ} (R : Ready b n c) (S : Recounts fewer b n c c₁ k e) (T : Recounts more b' n' c₁ c₂ k e) where
    taken_out : (i : ℕ) → c₁ ! i ≡ cond (counts_at i k (cell_in b n k e)) (c ! i - 1) (c ! i)
    taken_out i = ap (λ (d : List ℕ). d ! i) S.counts ∙ hits fewer c R.counts i k L.0 (cell_in b n k e) S.byte

    added : (i : ℕ) → c₂ ! i ≡ cond (counts_at i k v) (c₁ ! i + 1) (c₁ ! i)
    added i = ap (λ (d : List ℕ). d ! i) T.counts ∙ hits more c₁ S.long i k L.0 (cell_in b' n' k e) T.byte ∙ ap (λ (u : Value). cond (counts_at i k u) (c₁ ! i + 1) (c₁ ! i))
        P.holds

    kept-one : (i : ℕ) → i < 512 → c₂ ! i ≡ holding (refers_to i) (state_in b' n')
    kept-one i a =
        balance (refers_to i (cell_in b n k e)) (refers_to i v) (rw (at-holders k (cell_in b n k e) i a) at (taken_out i)) (rw (at-holders k v i a) at (added i)) (R.counted.held i a)
        (holding-written (refers_to i))
        (holding-some (refers_to i) b n k L e h)

    untouched : (i : ℕ) → ((u : Value) → counts_at i k u ≡ false) → c₂ ! i ≡ c ! i
    untouched i f = rw (f v) at (added i) ∙ rw (f (cell_in b n k e)) at (taken_out i)

    kept_frame : (j : ℕ) → j < 32 → c₂ ! (768 + j) ≡ referring j (state_in b' n')
    kept_frame j a = go (eqb j k) refl
      where
        go : (t : Bool) → eqb j k ≡ t → c₂ ! (768 + j) ≡ referring j (state_in b' n')
        go true q =
            let z = eqb-true j k q in
            rw z (balance (is_reference (cell_in b n k e)) (is_reference v) (rw (at-frame k (cell_in b n k e)) at (taken_out (768 + k))) (rw (at-frame k v) at (added (768 + k)))
            (R.counted.frames k L.0 ∙ referring-live b n k L) (frame-written is_reference) (in_frame_lem is_reference b n k L e h) ∙ sym (referring-live b' n' k live-after))
        go false q =
            let z = eqb-false j k q in
            untouched (768 + j) (λ u. elsewhere k u (768 + j) (omega arith) (λ y. z (omega arith))) ∙ R.counted.frames j a ∙ ap references
            (sym (ap (λ (l : List Frame). get_elem? l j) live_written ∙ get_other (live_frames (state_in b n)) k j (frame_in b' n' k) z))

    pub recounted : Ready b' n' c₂
    recounted = record {
      bytes = P.sized.0;
      numbers = P.sized.1;
      counts = T.long;
      counted = record {
        held = kept-one;
        forced = λ p a. untouched (512 + p) (λ u. elsewhere k u (512 + p) (omega arith) (λ z. omega arith)) ∙ R.counted.forced p a ∙ sym (forcing-written p);
        frames = kept_frame;
      };
    }

-- ---- before a count changes

module _ {b : List ℕ} {n : List ℤ} {c : List ℕ} (R : Ready b n c) where
  pub few-ready : Few c
  few-ready i h = go (ltb i 512) refl (ltb i 768) refl
    where
      go : (s : Bool) → ltb i 512 ≡ s → (t : Bool) → ltb i 768 ≡ t → c ! i ≤ 768
      go true p t q = let l = ltb-true i 512 p in let e = R.counted.held i l in let m = holding-most (refers_to i) b n in omega arith
      go false p true q =
          let l = ltb-false i 512 p in
          let g = ltb-true i 768 q in
          let z : 512 + (i - 512) ≡ i = omega arith in
          let e = rw z at (R.counted.forced (i - 512) (omega arith)) in
          let m = forcing-most (i - 512) b n in
          omega arith
      go false p false q =
          let g = ltb-false i 768 q in
          let z : 768 + (i - 768) ≡ i = omega arith in
          let e = rw z at (R.counted.frames (i - 768) (omega arith)) in
          let m = referring-most b n (i - 768) in
          omega arith

  pub few-left : {k e : ℕ} {c₁ : List ℕ} → k < 32 → Recounts fewer b n c c₁ k e → Few c₁
  few-left {k = k} {e = e} {c₁ = c₁} g S i h = go (counts_at i k (cell_in b n k e)) (ap (λ (d : List ℕ). d ! i) S.counts ∙ hits fewer c R.counts i k g (cell_in b n k e) S.byte)
      (few-ready i h)
    where
      go : (s : Bool) → c₁ ! i ≡ cond s (c ! i - 1) (c ! i) → c ! i ≤ 768 → c₁ ! i ≤ 768
      go true x f = omega arith
      go false x f = omega arith

  pub covers-ready : {k e : ℕ} → Live b k → e < 24 → Covers c k (cell_in b n k e)
  covers-ready {k = k} {e = e} L h i a = go (ltb i 512) refl (eqb i (768 + k)) refl
    where
      none : {t : Bool} → t ≡ false → one t ≤ c ! i
      none q = rw q (omega arith)

      go : (s : Bool) → ltb i 512 ≡ s → (t : Bool) → eqb i (768 + k) ≡ t → one (counts_at i k (cell_in b n k e)) ≤ c ! i
      go true p t q = let l = ltb-true i 512 p in let m = holding-some (refers_to i) b n k L e h in let z = R.counted.held i l in rw (at-holders k (cell_in b n k e) i l) (omega arith)
      go false p true q =
          let z = eqb-true i (768 + k) q in
          let y = R.counted.frames k L.0 ∙ referring-live b n k L in
          let m = in_frame_lem is_reference b n k L e h in
          rw (z, at-frame k (cell_in b n k e)) (omega arith)
      go false p false q =
          let l = ltb-false i 512 p in
          let z = eqb-false i (768 + k) q in
          none (elsewhere k (cell_in b n k e) i l z)

-- ---- what a walk has in hand

pub byte-vector : {u : Value} {v : ℕ} → Byte u → u ≡ Value.Vector v → v < 256
unfolding Byte
byte-vector b e = rw e at b

pub byte-promise : {u : Value} {p : ℕ} → Byte u → u ≡ Value.Promise p → p < 256
unfolding Byte
byte-promise b e = rw e at b

pub of-byte-vector : {p : ℕ} → p < 256 → Byte (Value.Vector p)
unfolding Byte
of-byte-vector h = h

pub of-byte-promise : {p : ℕ} → p < 256 → Byte (Value.Promise p)
unfolding Byte
of-byte-promise h = h

module _ (c : List ℕ) {u : Value} (B : Byte u) (k : ℕ) where
  pub some-vector : {v : ℕ} → Covers c k u → u ≡ Value.Vector v → 0 < c ! v
  unfolding refers_to is_vector
  some-vector {v = v} C q =
      let l = byte-vector B q in
      let g : counts_at v k u ≡ true = at-holders k u v (omega arith) ∙ rw (q, lt-ltb v 256 l) (eq-eqb v v refl) in
      let w : 1 ≤ c ! v = rw g at (C v (omega arith)) in
      omega arith

  pub some-promise : {p : ℕ} → Covers c k u → u ≡ Value.Promise p → 0 < c ! (256 + p)
  unfolding refers_to is_promise
  some-promise {p = p} C q =
      let l = byte-promise B q in
      let y : 256 + p - 256 ≡ p = omega arith in
      let g : counts_at (256 + p) k u ≡ true = at-holders k u (256 + p) (omega arith) ∙ rw (q, le-ltb (256 + p) 256 (omega arith), y) (eq-eqb p p refl) in
      let w : 1 ≤ c ! (256 + p) = rw g at (C (256 + p) (omega arith)) in
      omega arith

  pub few-vector : {v : ℕ} → Few c → u ≡ Value.Vector v → c ! v ≤ 768
  few-vector {v = v} F q = let l = byte-vector B q in F v (omega arith)

  pub few-promise : {p : ℕ} → Few c → u ≡ Value.Promise p → c ! (256 + p) ≤ 768
  few-promise {p = p} F q = let l = byte-promise B q in F (256 + p) (omega arith)

-- the count of a frame, behind that of what one of its cells refers to
pub some-frame : (c : List ℕ) (k : ℕ) (u : Value) (i x : ℕ) → k < 32 → Covers c k u → is_reference u ≡ true → i < 512 → 1 ≤ set c i x ! (768 + k)
some-frame c k u i x h C q a =
    let w : 1 ≤ c ! (768 + k) = rw (at-frame k u ∙ q) at (C (768 + k) (omega arith)) in
    let e = get_or-set_other c i (768 + k) x 0 (λ z. omega arith) in
    omega arith

pub few-frame : (c : List ℕ) (k i x : ℕ) → k < 32 → Few c → i < 512 → Fits w16 (set c i x ! (768 + k) + 1)
few-frame c k i x h F a = let e = get_or-set_other c i (768 + k) x 0 (λ z. omega arith) in let m = F (768 + k) (omega arith) in omega arith

pub is-vector : {u : Value} {v : ℕ} → u ≡ Value.Vector v → is_reference u ≡ true
unfolding is_reference
is-vector e = ap is_reference e

pub is-promise : {u : Value} {p : ℕ} → u ≡ Value.Promise p → is_reference u ≡ true
unfolding is_reference
is-promise e = ap is_reference e

pub covered : (c : List ℕ) (k : ℕ) {u v : Value} → u ≡ v → Covers c k v → Covers c k u
covered c k e C i h = rw e (C i h)

-- a cell whose value is in hand, by its kind
module _ (f : ℕ → ℕ) (b : List ℕ) (n : List ℤ) (c : List ℕ) (k e : ℕ) {u : Value} (q : u ≡ cell_in b n k e) (B : Byte u) (l : length c ≡ 800) where
  of-value : (c₁ : List ℕ) → recount f c k u ≡ c₁ → Recounts f b n c c₁ k e
  of-value c₁ r = record { counts = sym r ∙ ap (recount f c k) q; byte = rw q at B; long = ap length (sym r) ∙ length-recount f c k u ∙ l }

  pub of-empty : u ≡ Value.Empty → Recounts f b n c c k e
  unfolding recount
  of-empty h = of-value c (ap (recount f c k) h)

  pub of-integer : {z : ℤ} → u ≡ Value.Integer z → Recounts f b n c c k e
  unfolding recount
  of-integer h = of-value c (ap (recount f c k) h)

  pub of-vectors : {v : ℕ} → u ≡ Value.Vector v → Recounts f b n c (changed f (changed f c v) (768 + k)) k e
  unfolding recount
  of-vectors {v = v} h = of-value (changed f (changed f c v) (768 + k)) (ap (recount f c k) h)

  pub of-promises : {p : ℕ} → u ≡ Value.Promise p → Recounts f b n c (changed f (changed f c (256 + p)) (768 + k)) k e
  unfolding recount
  of-promises {p = p} h = of-value (changed f (changed f c (256 + p)) (768 + k)) (ap (recount f c k) h)

-- a cell that is written, its old value taken out and its new one added
module _ (b : List ℕ) (n : List ℤ) (c : List ℕ) (k e : ℕ) (R : Ready b n c) (L : Live b k) (h : e < 24) where
  -- an integer counts nowhere
  uncounted : (f : ℕ → ℕ) (b' : List ℕ) (n' : List ℤ) (c₁ : List ℕ) {z : ℤ} → cell_in b' n' k e ≡ Value.Integer z → length c₁ ≡ 800 → Recounts f b' n' c₁ c₁ k e
  unfolding recount Byte
  uncounted f b' n' c₁ q l = record { counts = sym (ap (recount f c₁ k) q); byte = rw q (omega arith); long = l }

  pub number_put : {y z : ℤ} → y ≡ z → b ! (32 * k + e) ≡ 1 → Puts b n b (set n (32 * k + e) y) k e (Value.Integer z) × Ready b (set n (32 * k + e) y) c
  unfolding cell_in value_of
  number_put {z = z} q t =
      let P = put-number b n k e R.bytes R.numbers (L.0, h) z t in
      rw q (P, recounted P L h R (uncounted fewer b n c {z = n # (32 * k + e)} (rw t refl) R.counts) (uncounted more b (set n (32 * k + e) z) c P.holds R.counts))

  module _ {c₁ : List ℕ} (S : Recounts fewer b n c c₁ k e) where
    pub integer-put : {y z : ℤ} → y ≡ z → Puts b n (set b (32 * k + e) 1) (set n (32 * k + e) y) k e (Value.Integer z) × Ready (set b (32 * k + e) 1) (set n (32 * k + e) y) c₁
    integer-put {z = z} q =
        let P = put-integer b n k e R.bytes R.numbers (L.0, h) z in
        rw q (P, recounted P L h R S (uncounted more (set b (32 * k + e) 1) (set n (32 * k + e) z) c₁ P.holds S.long))

    pub place-put : (t p : ℕ) {c₂ : List ℕ} → Recounts more (set (set b (32 * k + e) t) (PLACES + 32 * k + e) p) n c₁ c₂ k e
        → Puts b n (set (set b (32 * k + e) t) (PLACES + 32 * k + e) p) n k e (value_of t p (n # (32 * k + e))) × Ready (set (set b (32 * k + e) t) (PLACES + 32 * k + e) p) n c₂
    place-put t p T = let P = put-place b n k e R.bytes R.numbers (L.0, h) t p in (P, recounted P L h R S T)

-- the number behind a tag that is not an integer's says nothing
pub tagged : (t p : ℕ) (y z : ℤ) → (t ≡ 1 → ⊥) → value_of t p y ≡ value_of t p z
unfolding value_of
tagged t p y z h = rw (ne_eqb t 1 h) refl

tagged-integer : (t p : ℕ) (z : ℤ) → t ≡ 1 → Value.Integer z ≡ value_of t p z
unfolding value_of
tagged-integer t p z h = rw h refl

-- a cell that was put to a value, told otherwise
pub puts-as : {b b' : List ℕ} {n n' : List ℤ} {k e : ℕ} {u v : Value} → u ≡ v → Puts b n b' n' k e u → Puts b n b' n' k e v
puts-as q P = record { holds = P.holds ∙ q; bytes = P.bytes; numbers = P.numbers; sized = P.sized }

pub puts-integer : {b b' : List ℕ} {n n' : List ℤ} {k e : ℕ} (t p : ℕ) {y z : ℤ} → Puts b n b' n' k e (Value.Integer y) → t ≡ 1 → y ≡ z → Puts b n b' n' k e (value_of t p z)
puts-integer t p {z = z} P h q = puts-as (ap Value.Integer q ∙ tagged-integer t p z h) P
