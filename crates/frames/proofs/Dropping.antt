-- All cells of a frame taken out of the counts, or added to them.
use mathlib.Core.Path.{◌≡◌, refl, ap, ◌∙◌}
use mathlib.Core.List.{List, [], ◌∷◌}
use mathlib.Core.Bool.{Bool, true, false, cond}
use Prim.Native.Nat.{ℕ, zero, suc, ◌+◌, ◌-◌, ◌≤◌, ◌<◌}
use native.Mathlib.Numerals.{add-one}
use native.Mathlib.Omega.{arith}
use lib.IntN.{ℤ}
use lib.ListN.{length}
use lib.Dec.{ltb}
use borrow.Author.Tests.{ltb-true, ltb-false}
use Rattle.layout.specs.Records.{◌!◌}
use Rattle.machine.specs.States.{place}
use Rattle.machine.specs.declared.Frame.{Frame}
use Rattle.machine.specs.declared.Place.{Place}
use Rattle.machine.specs.declared.Value.{Value}
use Rattle.store.specs.Lists.{up_to}
use Rattle.store.specs.Store.{cell_in, frame_in}
use Rattle.store.specs.Counts.{one, holders, in_frame, is_reference, counts_at, Covers, Recounts, fewer}
use Rattle.frames.specs.Frames.{Dropped, Held, cells_to}
use Rattle.store.proofs.Recounting.{at-frame, hits, none-there}
use Rattle.store.proofs.Counting.{one-most}

-- those that hold such a value, one place more
holders-more : (is : Value → Bool) (f : ℕ → Place) (i m : ℕ) → holders is (up_to f i (suc m)) ≡ holders is (up_to f i m) + one (is (f (i + m)).value)
unfolding holders up_to
holders-more is f i zero = let z : i + 0 ≡ i = omega arith in rw z (omega arith)
holders-more is f i (suc m) = let z : i + suc m ≡ suc i + m = omega arith in let h = holders-more is f (suc i) m in rw z (omega arith)

module _ (is : Value → Bool) (b : List ℕ) (n : List ℤ) (k : ℕ) where
  registers-to : (e : ℕ) → cells_to is b n k e ≡ holders is (up_to (λ r. place (cell_in b n k r)) 0 e)
  unfolding cells_to holders up_to
  registers-to zero = refl
  registers-to (suc e) =
      let h = registers-to e in
      let g = holders-more is (λ r. place (cell_in b n k r)) 0 e in
      let z : 0 + e ≡ e = omega arith in
      let q = ap (λ i. one (is (cell_in b n k i))) z in
      omega arith

  names-to : (x : ℕ) → cells_to is b n k (16 + x) ≡ cells_to is b n k 16 + holders is (up_to (λ y. place (cell_in b n k (16 + y))) 0 x)
  unfolding cells_to holders up_to
  names-to zero = omega arith
  names-to (suc x) =
      let h = names-to x in
      let g = holders-more is (λ y. place (cell_in b n k (16 + y))) 0 x in
      let z : 0 + x ≡ x = omega arith in
      let q = ap (λ i. one (is (cell_in b n k (16 + i)))) z in
      let y : 16 + suc x ≡ suc (16 + x) = omega arith in
      rw y (omega arith)

  pub cells-all : cells_to is b n k 24 ≡ in_frame is (frame_in b n k)
  unfolding in_frame frame_in
  cells-all = let r = registers-to 16 in let x = names-to 8 in omega arith

  cells-more : (e m : ℕ) → cells_to is b n k e ≤ cells_to is b n k (e + m)
  unfolding cells_to
  cells-more e zero = let z : e + 0 ≡ e = omega arith in rw z (omega arith)
  cells-more e (suc m) = let z : e + suc m ≡ suc (e + m) = omega arith in let h = cells-more e m in rw z (omega arith)

  pub cells-most : (e : ℕ) → e < 24 → cells_to is b n k e + one (is (cell_in b n k e)) ≤ in_frame is (frame_in b n k)
  unfolding cells_to
  cells-most e h = let g = cells-more (suc e) (23 - e) in let z : suc e + (23 - e) ≡ 24 = omega arith in let a = cells-all in let y = ap (cells_to is b n k) z in omega arith

  -- what holds such a value from a cell on is among what holds such another, where each such value is such another
  cells_rest : (js : Value → Bool) → ((u : Value) → one (is u) ≤ one (js u)) → (e m : ℕ) → cells_to is b n k (e + m) + cells_to js b n k e ≤ cells_to js b n k (e + m) + cells_to is b n k e
  unfolding cells_to
  cells_rest js h e zero = let z : e + 0 ≡ e = omega arith in rw z (omega arith)
  cells_rest js h e (suc m) = let z : e + suc m ≡ suc (e + m) = omega arith in let g = cells_rest js h e m in let l = h (cell_in b n k (e + m)) in rw z (omega arith)

-- ---- a frame's own count

-- a value counts nowhere but where it refers to something
pub within : (i k : ℕ) → k < 32 → (u : Value) → one (counts_at i k u) ≤ one (counts_at (768 + k) k u)
within i k h u = rw (at-frame k u) (go (is_reference u) refl)
  where
    go : (t : Bool) → is_reference u ≡ t → one (counts_at i k u) ≤ one t
    go true q = one-most (counts_at i k u)
    go false q = rw (none-there i k u q) (omega arith)

-- no cell of a frame holds what none is
places-none : (is : Value → Bool) → ((u : Value) → is u ≡ false) → (cs : List Place) → holders is cs ≡ 0
unfolding holders
places-none is h [] = refl
places-none is h (c ∷ cs) = let g = places-none is h cs in let e = ap one (h c.value) in omega arith

pub frame-none : (is : Value → Bool) → ((u : Value) → is u ≡ false) → (f : Frame) → in_frame is f ≡ 0
unfolding in_frame
frame-none is h f = let r = places-none is h f.registers in let x = places-none is h f.names in omega arith

-- two tests that agree
pub frame-as : (is js : Value → Bool) → ((u : Value) → is u ≡ js u) → (f : Frame) → in_frame is f ≡ in_frame js f
frame-as is js h f = ap (λ (t : Value → Bool). in_frame t f) (λ i u. h u i)

-- ---- the loop

-- the first e cells of the frame are out of the counts
pub record Fewer (b : List ℕ) (n : List ℤ) (c c' : List ℕ) (k e : ℕ) : Type 0 where
  pub most : e ≤ 24
  pub less : (i : ℕ) → i < 800 → c' ! i + cells_to (counts_at i k) b n k e ≡ c ! i
  pub long : length c' ≡ 800

module _ (b : List ℕ) (n : List ℤ) (c : List ℕ) (k : ℕ) (g : k < 32) (H : Held b n c k) where
  pub drop-begun : Fewer b n c c k 0
  unfolding cells_to
  drop-begun = record { most = omega arith; less = λ i h. omega arith; long = H.long }

  pub drop-covers : (c' : List ℕ) (e : ℕ) → e < 24 → Fewer b n c c' k e → Covers c' k (cell_in b n k e)
  drop-covers c' e h F i a = let m = cells-most (counts_at i k) b n k e h in let l = F.less i a in let q = H.counted i a in omega arith

  -- something is left of the frame
  pub drop-left : (c' : List ℕ) (e : ℕ) → Fewer b n c c' k e → (c' ! (768 + k) ≡ 0 → ⊥) → e < 24
  drop-left c' e F h = go (ltb e 24) refl
    where
      go : (t : Bool) → ltb e 24 ≡ t → e < 24
      go true q = ltb-true e 24 q
      go false q =
          let m = F.most in
          let z : e ≡ 24 = (let l = ltb-false e 24 q in omega arith) in
          let y = ap (cells_to (counts_at (768 + k) k) b n k) z in
          let x = cells-all (counts_at (768 + k) k) b n k in
          let w = F.less (768 + k) (omega arith) in
          let o = H.own in
          absurd (h (omega arith))

  pub drop-one : (c₁ c₂ : List ℕ) (e : ℕ) → e < 24 → Fewer b n c c₁ k e → Recounts fewer b n c₁ c₂ k e → Fewer b n c c₂ k (e + 1)
  unfolding cells_to
  drop-one c₁ c₂ e h F S = record {
    most = omega arith;
    less = λ i a. rw (add-one e) (go i (counts_at i k (cell_in b n k e)) (ap (λ (d : List ℕ). d ! i) S.counts ∙ hits fewer c₁ F.long i k g (cell_in b n k e) S.byte) (F.less i a)
        (drop-covers c₁ e h F i a));
    long = S.long;
  }
    where
      go : (i : ℕ) (t : Bool) → c₂ ! i ≡ cond t (c₁ ! i - 1) (c₁ ! i) → c₁ ! i + cells_to (counts_at i k) b n k e ≡ c ! i → one t ≤ c₁ ! i → c₂ ! i +
          (cells_to (counts_at i k) b n k e + one t) ≡ c ! i
      go i true x y z = omega arith
      go i false x y z = omega arith

  -- the cells that are left refer to nothing
  pub drop-done : (c' : List ℕ) (e : ℕ) → c' ! (768 + k) ≡ 0 → Fewer b n c c' k e → Dropped b n c c' k
  drop-done c' e h F = record { less = all; long = F.long }
    where
      all : (i : ℕ) → i < 800 → c' ! i + in_frame (counts_at i k) (frame_in b n k) ≡ c ! i
      all i a =
          let m = F.most in
          let z : e + (24 - e) ≡ 24 = omega arith in
          let r = rw z at (cells_rest (counts_at i k) b n k (counts_at (768 + k) k) (within i k g) e (24 - e)) in
          let s = rw z at (cells-more (counts_at i k) b n k e (24 - e)) in
          let x = cells-all (counts_at i k) b n k in
          let y = cells-all (counts_at (768 + k) k) b n k in
          let w = F.less (768 + k) (omega arith) in
          let l = F.less i a in
          let o = H.own in
          omega arith
