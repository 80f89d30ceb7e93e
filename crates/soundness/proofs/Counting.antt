-- What counts: a value that a live call holds stands in a cell, and a free place is in none.
use mathlib.Core.Path.{◌≡◌, refl, sym, ap, ◌∙◌}
use mathlib.Core.Logic.{◌⊎◌, inl, inr}
use mathlib.Core.List.{List, [], ◌∷◌, map}
use mathlib.Core.Option.{some}
use mathlib.Core.Bool.{Bool, true, false, false≢true}
use Prim.Native.Nat.{ℕ, zero, suc, ◌+◌, ◌-◌, ◌≤◌, ◌<◌}
use native.Mathlib.Omega.{arith}
use lib.ListN.{get_or, get_elem?, take}
use lib.Dec.{ltb}
use borrow.Author.Tests.{eqb-true, lt-ltb, le-ltb, ltb-true, ltb-false}
use Rattle.layout.specs.Bounds.{REGISTERS}
use Rattle.layout.specs.Tests.{any}
use Rattle.layout.proofs.Lists.{get_in, get-some, get_take, take_in}
use Rattle.rules.proofs.Follows.{or-either, or_left, or_right, not-true as not-false}
use Rattle.machine.specs.Try.{Try, got, ◌>>=◌, each}
use Rattle.machine.specs.States.{place, live_frames, is_vector, is_promise, refers, held, vector_counts, promise_counts, free}
use Rattle.machine.specs.declared.End.{End}
use Rattle.machine.specs.declared.Frame.{Frame}
use Rattle.machine.specs.declared.Place.{Place}
use Rattle.machine.specs.declared.State.{State}
use Rattle.machine.specs.declared.Value.{Value}
use Rattle.soundness.proofs.Cells.{CELLS, Sized, Whole, no_frame, frame_at, cell, cell_at, at_out}
use Rattle.soundness.proofs.Progress.{Good}
use Rattle.soundness.proofs.Types.{clash, eqb_same}
use Rattle.runs.proofs.Lists.{any_at, any-find}

-- ---- lists

-- one after the other, each with a result
pub each-some : {A B : Type 0} (g : A → Try B) (l : List A) → ((i : ℕ) (x : A) → get_elem? l i ≡ some x → (y : B) × (g x ≡ got y)) → (ys : List B) × (each g l ≡ got ys)
unfolding each ◌>>=◌
each-some g [] h = ([], refl)
each-some g (x ∷ l) h = let y = h 0 x refl in let ys = each-some g l (λ i z e. h (suc i) z e) in (y.0 ∷ ys.0, rw (y.1, ys.1) refl)

pub each_map : {A B : Type 0} (g : A → Try B) (f : A → B) (l : List A) → ((i : ℕ) (x : A) → get_elem? l i ≡ some x → g x ≡ got (f x)) → each g l ≡ got (map f l)
unfolding each ◌>>=◌
each_map g f [] h = refl
each_map g f (x ∷ l) h = rw (h 0 x refl, each_map g f l (λ i z e. h (suc i) z e)) refl

-- ---- cells

module _ (is : Value → Bool) (f : Frame) (w : Whole f) where
  -- a cell that holds such a value is referred to
  pub refers-cell : (c : ℕ) → c < CELLS → is (cell f c) ≡ true → refers is f ≡ true
  unfolding refers cell
  refers-cell c hc h = go (ltb c REGISTERS) refl h
    where
      go : (b : Bool) → ltb c REGISTERS ≡ b → is (cell f c) ≡ true → refers is f ≡ true
      go true e q = or_left {a = any (λ (p : Place). is p.value) f.registers} _ (any_at (λ (p : Place). is p.value) f.registers c (get_or f.registers c (place Value.Empty)) (get-some f.registers c _ (omega (arith, w.registers, ltb-true c REGISTERS e))) (rw e at q))
      go false e q = or_right (any (λ (p : Place). is p.value) f.registers) (any_at (λ (p : Place). is p.value) f.names (c - REGISTERS) (get_or f.names (c - REGISTERS) (place Value.Empty)) (get-some f.names (c - REGISTERS) _ (omega (arith, w.names, ltb-false c REGISTERS e))) (rw e at q))

  -- and what is referred to stands in a cell
  pub cell-refers : refers is f ≡ true → (c : ℕ) × (is (cell f c) ≡ true)
  unfolding refers cell
  cell-refers h = go (or-either (any (λ (p : Place). is p.value) f.registers) (any (λ (p : Place). is p.value) f.names) h)
    where
      go : (any (λ (p : Place). is p.value) f.registers ≡ true) ⊎ (any (λ (p : Place). is p.value) f.names ≡ true) → (c : ℕ) × (is (cell f c) ≡ true)
      go (inl e) =
          let t = any-find (λ (p : Place). is p.value) f.registers e in
          let g = get_in f.registers t.0 (place Value.Empty) t.1 t.2 in
          (t.0, rw (lt-ltb t.0 REGISTERS (omega (arith, g.0, w.registers)), g.1) t.3)
      go (inr e) =
          let t = any-find (λ (p : Place). is p.value) f.names e in
          let g = get_in f.names t.0 (place Value.Empty) t.1 t.2 in
          let m : REGISTERS + t.0 - REGISTERS ≡ t.0 = omega arith in
          (REGISTERS + t.0, rw (le-ltb (REGISTERS + t.0) REGISTERS (omega arith), m, g.1) t.3)

module _ (is : Value → Bool) (s : State) (sz : Sized s.frames) (hn : s.calls ≤ 32) where
  pub held-cell : (k c : ℕ) → k < s.calls → c < CELLS → is (cell_at s.frames k c) ≡ true → held is s ≡ true
  unfolding held live_frames cell_at frame_at
  held-cell k c hk hc h = any_at (refers is) (take s.calls s.frames) k (get_or s.frames k no_frame) (get_take s.frames s.calls k hk ∙ get-some s.frames k no_frame (omega (arith, sz.frames))) (refers-cell is (get_or s.frames k no_frame) (sz.whole k (omega arith)) c hc h)

  pub cell-held : held is s ≡ true → (k : ℕ) × (c : ℕ) × (k < s.calls) × (is (cell_at s.frames k c) ≡ true)
  unfolding held live_frames cell_at frame_at
  cell-held h =
      let t = any-find (refers is) (take s.calls s.frames) h in
      let hk = take_in s.frames s.calls t.0 t.1 t.2 in
      let g = get_in s.frames t.0 no_frame t.1 (sym (get_take s.frames s.calls t.0 hk) ∙ t.2) in
      let q = cell-refers is (get_or s.frames t.0 no_frame) (sz.whole t.0 (omega arith)) (rw g.1 t.3) in
      (t.0, q.0, hk, q.1)

-- ---- values at a place

pub is-vector : (v : ℕ) (x : Value) → is_vector v x ≡ true → x ≡ Value.Vector v
unfolding is_vector
is-vector v Value.Empty h = absurd (false≢true h)
is-vector v (Value.Integer z) h = absurd (false≢true h)
is-vector v (Value.Vector w) h = ap Value.Vector (sym (eqb-true v w h))
is-vector v (Value.Promise p) h = absurd (false≢true h)

pub vector-is : (v : ℕ) (x : Value) → x ≡ Value.Vector v → is_vector v x ≡ true
unfolding is_vector
vector-is v x e = rw e (eqb_same v)

pub promise-at : (p : ℕ) (x : Value) → x ≡ Value.Promise p → is_promise p x ≡ true
unfolding is_promise
promise-at p x e = rw e (eqb_same p)

-- a cell that holds something is one of the frame's
in_cells : (s : State) → Sized s.frames → (k c : ℕ) → k < 32 → (x : Value) → cell_at s.frames k c ≡ x → (x ≡ Value.Empty → ⊥) → c < CELLS
in_cells s sz k c hk x e n = go (ltb c CELLS) refl
  where
    go : (b : Bool) → ltb c CELLS ≡ b → c < CELLS
    go true h = ltb-true c CELLS h
    go false h = absurd (n (sym e ∙ at_out s.frames sz k c hk (ltb-false c CELLS h)))

module _ (s : State) (sz : Sized s.frames) (hn : s.calls ≤ 32) where
  -- a vector, a promise that does not count is in no cell
  pub vector-free : (v : ℕ) → vector_counts s v ≡ false → (k c : ℕ) → k < s.calls → cell_at s.frames k c ≡ Value.Vector v → ⊥
  unfolding vector_counts
  vector-free v h k c hk e = clash (held-cell (is_vector v) s sz hn k c hk (in_cells s sz k c (omega arith) _ e (λ z. let q : ◌≡◌ {A = ℕ} 0 1 = cc in omega arith)) (vector-is v _ e)) h

  pub promise-free : (p : ℕ) → promise_counts s p ≡ false → (k c : ℕ) → k < s.calls → cell_at s.frames k c ≡ Value.Promise p → ⊥
  unfolding promise_counts
  promise-free p h k c hk e = clash (or_left {a = held (is_promise p) s} _ (held-cell (is_promise p) s sz hn k c hk (in_cells s sz k c (omega arith) _ e (λ z. let q : ◌≡◌ {A = ℕ} 0 1 = cc in omega arith)) (promise-at p _ e))) h

  pub vector-alone : (v : ℕ) → ((k c : ℕ) → k < s.calls → cell_at s.frames k c ≡ Value.Vector v → ⊥) → vector_counts s v ≡ false
  unfolding vector_counts
  vector-alone v h = not-false _ (λ e. let t = cell-held (is_vector v) s sz hn e in h t.0 t.1 t.2 (is-vector v _ t.3))

-- a place that is found does not count
pub free-ok : (e : End) (counts : ℕ → Bool) (n i : ℕ) → Good (λ (j : ℕ). (counts j ≡ false) × (j < i + n)) (free e counts n i)
unfolding free Good
free-ok e counts zero i = tt
free-ok e counts (suc n) i = go (counts i) refl (free-ok e counts n (suc i))
  where
    go : (b : Bool) → counts i ≡ b → Good (λ (j : ℕ). (counts j ≡ false) × (j < suc i + n)) (free e counts n (suc i)) → Good (λ (j : ℕ). (counts j ≡ false) × (j < i + suc n)) (elim b [ true ↦ free e counts n (suc i) | false ↦ got i ])
    go true q ih = let m : suc i + n ≡ i + suc n = omega arith in rw m at ih
    go false q ih = (q, omega arith)
