-- VEC: its operands one after the other, and the vector that they make.
use Rattle.std.specs.Prelude.{None, Some, Option as Optional}
use Rattle.std.specs.Option.{is_some}
use mathlib.Core.Path.{◌≡◌, refl, sym, ap, ◌∙◌}
use mathlib.Core.List.{List, [], ◌∷◌, ◌++◌, append_assoc}
use mathlib.Core.Bool.{Bool, true, false, cond}
use Prim.Native.Nat.{ℕ, zero, suc, ◌+◌, ◌*◌, ◌≤◌, ◌<◌}
use native.Mathlib.Nat.{not-suc-le-zero, le_of_suc-le-suc}
use native.Mathlib.Numerals.{add-one}
use native.Mathlib.Omega.{arith}
use lib.IntN.{ℤ, pos}
use lib.ListN.{drop, get_or, length, length-set, replicate, set, take}
use lib.Seq.{drop-cons, get_or-set_same, get_or-set_other, take-suc}
use lib.Dec.{eqb, ltb}
use borrow.Author.Tests.{eqb-true, eqb-false, ltb-true, ltb-false}
use Rattle.layout.specs.Records.{◌!◌}
use Rattle.program.specs.Program.{Program, Version, VEC}
use Rattle.machine.specs.Try.{Try, got, stuck, stop, ◌>>=◌, each}
use Rattle.machine.specs.Allowed.{execute_with, free_within}
use Rattle.machine.proofs.Within.{vec-within}
use Rattle.machine.specs.States.{an_integer, assign, integer, live_frames, new_vector, over, with_vector}
use Rattle.machine.specs.declared.End.{End}
use Rattle.machine.specs.declared.State.{State}
use Rattle.machine.specs.declared.Value.{Value}
use Rattle.store.specs.Answers.{whole_of}
use Rattle.store.specs.Lists.{up_to}
use Rattle.store.proofs.Lists.{up_to-same}
use Rattle.store.specs.Store.{◌#◌, PLACES, ITEM, LENGTHS, cell_in, frame_in, state_in, value_of, vector_in, Live}
use Rattle.store.specs.Counts.{Ready}
use Rattle.store.proofs.Frames.{frame-live, outside, register-in, register-out}
use Rattle.store.proofs.Kept.{new-vector}
use Rattle.store.proofs.Vectors.{vector-counted}
use Rattle.listing.specs.Listing.{Gathers, Small, numbers_of, pick_in, vector_made}

-- ---- the operands

is_number : (t p : ℕ) (x z : ℤ) → an_integer (value_of t p x) ≡ got z → z ≡ x
unfolding value_of an_integer
is_number t p x z = go (eqb t 1) (eqb t 2) (eqb t 3)
  where
    go : (s u w : Bool) → an_integer (cond s (Value.Integer x) (cond u (Value.Vector p) (cond w (Value.Promise p) Value.Empty))) ≡ got z → z ≡ x
    go true u w e = cc
    go false true w e = cc
    go false false true e = cc
    go false false false e = cc

-- an integer in a register is its number
number_is : (b : List ℕ) (n : List ℤ) (k r : ℕ) (z : ℤ) → integer (frame_in b n k) r ≡ got z → (r < 16) × (z ≡ n # (32 * k + r))
unfolding integer ◌>>=◌ cell_in
number_is b n k r z e = go (ltb r 16) refl
  where
    go : (t : Bool) → ltb r 16 ≡ t → (r < 16) × (z ≡ n # (32 * k + r))
    go true q = let l = ltb-true r 16 q in (l, is_number (b ! (32 * k + r)) (b ! (PLACES + 32 * k + r)) (n # (32 * k + r)) z (rw (register-in b n k r l) at e))
    go false q = let f = rw (register-out b n k r (ltb-false r 16 q)) at e in let y : ◌≡◌ {A = ℕ} 0 1 = cc in absurd (omega arith)

numbers-append : (n : List ℤ) (k : ℕ) (rs : List ℕ) (r : ℕ) → numbers_of n k (rs ++ (r ∷ [])) ≡ numbers_of n k rs ++ (n # (32 * k + r) ∷ [])
unfolding numbers_of
numbers-append n k [] r = refl
numbers-append n k (q ∷ rs) r = ap (λ l. n # (32 * k + q) ∷ l) (numbers-append n k rs r)

pub drop_all : {A : Type 0} (l : List A) (i : ℕ) → length l ≤ i → drop i l ≡ []
drop_all [] zero h = refl
drop_all [] (suc i) h = refl
drop_all (x ∷ l) zero h = absurd (not-suc-le-zero h)
drop_all (x ∷ l) (suc i) h = drop_all l i (le_of_suc-le-suc h)

pub take_all : {A : Type 0} (l : List A) (i : ℕ) → length l ≤ i → take i l ≡ l
take_all [] zero h = refl
take_all [] (suc i) h = refl
take_all (x ∷ l) zero h = absurd (not-suc-le-zero h)
take_all (x ∷ l) (suc i) h = ap (λ m. x ∷ m) (take_all l i (le_of_suc-le-suc h))

append-none : {A : Type 0} (l : List A) → l ++ [] ≡ l
append-none [] = refl
append-none (x ∷ l) = ap (λ m. x ∷ m) (append-none l)

-- the first i hold integers
pub record Gathered (b : List ℕ) (n : List ℤ) (k : ℕ) (rs : List ℕ) (i : ℕ) : Type 0 where
  pub most : i ≤ length rs
  pub some : each (integer (frame_in b n k)) rs ≡ (each (integer (frame_in b n k)) (drop i rs) >>= λ ys. got (numbers_of n k (take i rs) ++ ys))
  pub small : (j : ℕ) → j < i → rs ! j < 16

module _ (b : List ℕ) (n : List ℤ) (k : ℕ) (rs : List ℕ) where
  pub gather-begun : Gathered b n k rs 0
  unfolding numbers_of ◌>>=◌
  gather-begun = record { most = omega arith; some = go (each (integer (frame_in b n k)) rs); small = λ j h. absurd (omega arith) }
    where
      go : (t : Try (List ℤ)) → t ≡ (t >>= λ ys. got ([] ++ ys))
      go (got ys) = refl
      go stuck = refl
      go (stop e) = refl

  module _ (i : ℕ) (G : Gathered b n k rs i) where
    module _ (h : i < length rs) where
      cons : drop i rs ≡ rs ! i ∷ drop (suc i) rs
      cons = drop-cons rs i 0 h

      pub gather-on : {z : ℤ} → integer (frame_in b n k) (rs ! i) ≡ got z → Gathered b n k rs (i + 1)
      unfolding each ◌>>=◌
      gather-on {z = z} e =
          let q = number_is b n k (rs ! i) z e in
          record {
            most = omega arith;
            some = rw (add-one i, take-suc rs i 0 h, numbers-append n k (take i rs) (rs ! i))
                (G.some ∙ rw (cons, e, q.1) (go (each (integer (frame_in b n k)) (drop (suc i) rs)) (numbers_of n k (take i rs)) (n # (32 * k + rs ! i))));
            small = λ j a. one j (eqb j i) refl a q.0;
          }
        where
          go : (t : Try (List ℤ)) (l : List ℤ) (x : ℤ) → ((t >>= λ ys. got (x ∷ ys)) >>= λ ys. got (l ++ ys)) ≡ (t >>= λ ys. got ((l ++ (x ∷ [])) ++ ys))
          go (got ys) l x = ap got (sym (append_assoc l (x ∷ []) ys))
          go stuck l x = refl
          go (stop e) l x = refl

          one : (j : ℕ) (t : Bool) → eqb j i ≡ t → j < i + 1 → rs ! i < 16 → rs ! j < 16
          one j true q a l = rw (eqb-true j i q) l
          one j false q a l = let y = eqb-false j i q in G.small j (omega arith)

      pub gather-stuck : integer (frame_in b n k) (rs ! i) ≡ stuck → Gathers false b n k rs
      unfolding Gathers each ◌>>=◌
      gather-stuck e = G.some ∙ rw (cons, e) refl

      -- by the answer of the read
      pub gather-next : (r : Optional ℤ) → whole_of r ≡ integer (frame_in b n k) (rs ! i) → is_some r ≡ true → Gathered b n k rs (i + 1)
      unfolding whole_of
      gather-next (Some z) e h = gather-on (sym e)
      gather-next None e h = let z : ◌≡◌ {A = ℕ} 0 1 = cc in absurd (omega arith)

      pub gather-ends : (r : Optional ℤ) → whole_of r ≡ integer (frame_in b n k) (rs ! i) → is_some r ≡ false → Gathers false b n k rs
      unfolding whole_of
      gather-ends (Some z) e h = let z : ◌≡◌ {A = ℕ} 0 1 = cc in absurd (omega arith)
      gather-ends None e h = gather-stuck (sym e)

    pub gather-done : length rs ≤ i → Gathers true b n k rs
    unfolding Gathers each ◌>>=◌
    gather-done h = (G.some ∙ rw (drop_all rs i h, take_all rs i h) (ap got (append-none (numbers_of n k rs))), λ j a. G.small j (omega arith))

-- ---- the vector

shifted : {A : Type 0} (f : ℕ → A) (i n : ℕ) → up_to f (suc i) n ≡ up_to (λ j. f (suc j)) i n
unfolding up_to
shifted f i zero = refl
shifted f i (suc n) = ap (λ l. f (suc i) ∷ l) (shifted f (suc i) n)

over-up_to : (xs : List ℤ) (m : ℕ) → over xs (replicate m (pos 0)) ≡ up_to (λ j. get_or xs j (pos 0)) 0 m
unfolding over up_to
over-up_to [] zero = refl
over-up_to [] (suc m) = ap (λ l. pos 0 ∷ l) (over-up_to [] m ∙ sym (shifted (λ j. get_or [] j (pos 0)) 0 m))
over-up_to (x ∷ xs) zero = refl
over-up_to (x ∷ xs) (suc m) = ap (λ l. x ∷ l) (over-up_to xs m ∙ sym (shifted (λ j. get_or (x ∷ xs) j (pos 0)) 0 m))

pub pick_at : (n : List ℤ) (k : ℕ) (rs : List ℕ) (j : ℕ) → j < length rs → pick_in n k rs j ≡ n # (32 * k + rs ! j)
unfolding numbers_of
pick_at n k [] j h = absurd (not-suc-le-zero h)
pick_at n k (r ∷ rs) zero h = refl
pick_at n k (r ∷ rs) (suc j) h = pick_at n k rs j (le_of_suc-le-suc h)

pub pick-none : (n : List ℤ) (k : ℕ) (rs : List ℕ) (j : ℕ) → length rs ≤ j → pick_in n k rs j ≡ pos 0
unfolding numbers_of
pick-none n k [] j h = refl
pick-none n k (r ∷ rs) zero h = absurd (not-suc-le-zero h)
pick-none n k (r ∷ rs) (suc j) h = pick-none n k rs j (le_of_suc-le-suc h)

length-numbers : (n : List ℤ) (k : ℕ) (rs : List ℕ) → length (numbers_of n k rs) ≡ length rs
unfolding numbers_of
length-numbers n k [] = refl
length-numbers n k (r ∷ rs) = ap suc (length-numbers n k rs)

-- the first j items are made
pub record Filled (n n' : List ℤ) (k v : ℕ) (rs : List ℕ) (j : ℕ) : Type 0 where
  pub most : j ≤ 16
  pub items : (i : ℕ) → i < j → n' # (ITEM + 16 * v + i) ≡ pick_in n k rs i
  pub kept : (m : ℕ) → (ITEM + 16 * v ≤ m → m < ITEM + 16 * v + j → ⊥) → n' # m ≡ n # m
  pub long : length n' ≡ 2129

module _ (n : List ℤ) (k v : ℕ) (rs : List ℕ) (hk : k < 32) (hv : v < 64) (S : Small rs) where
  pub fill-begun : length n ≡ 2129 → Filled n n k v rs 0
  fill-begun l = record { most = omega arith; items = λ i a. absurd (omega arith); kept = λ m q. refl; long = l }

  module _ (n' : List ℤ) (j : ℕ) (F : Filled n n' k v rs j) where
    pick_same : pick_in n' k rs j ≡ pick_in n k rs j
    pick_same = go (ltb j (length rs)) refl
      where
        go : (t : Bool) → ltb j (length rs) ≡ t → pick_in n' k rs j ≡ pick_in n k rs j
        go true q = let h = ltb-true j (length rs) q in let s = S j h in pick_at n' k rs j h ∙ F.kept (32 * k + rs ! j) (λ x y. omega arith) ∙ sym (pick_at n k rs j h)
        go false q = let h = ltb-false j (length rs) q in pick-none n' k rs j h ∙ sym (pick-none n k rs j h)

    pub fill_one : {y : ℤ} → j < 16 → y ≡ pick_in n' k rs j → Filled n (set n' (ITEM + 16 * v + j) y) k v rs (j + 1)
    fill_one {y = y} h e =
        let l = F.long in
        record {
          most = omega arith;
          items = λ i a. one i (eqb i j) refl a;
          kept = λ m q. get_or-set_other n' (ITEM + 16 * v + j) m y (pos 0) (λ z. q (omega arith) (omega arith)) ∙ F.kept m (λ x z. q (omega arith) (omega arith));
          long = simp (length-set, l);
        }
      where
        one : (i : ℕ) (t : Bool) → eqb i j ≡ t → i < j + 1 → set n' (ITEM + 16 * v + j) y # (ITEM + 16 * v + i) ≡ pick_in n k rs i
        one i true q a = let z = eqb-true i j q in let l = F.long in rw z (get_or-set_same n' (ITEM + 16 * v + j) y (pos 0) (omega arith) ∙ e ∙ pick_same)
        one i false q a = let z = eqb-false i j q in get_or-set_other n' (ITEM + 16 * v + j) (ITEM + 16 * v + i) y (pos 0) (λ r. z (omega arith)) ∙ F.items i (omega arith)

    pub fill_done : (b c : List ℕ) → 16 ≤ j → Ready b n c → (state_in (set b (LENGTHS + v) (length rs)) n' ≡ vector_made b n k v rs) × Ready (set b (LENGTHS + v) (length rs)) n' c
    unfolding vector_in new_vector
    fill_done b c h R =
        let b' = set b (LENGTHS + v) (length rs) in
        let q = F.most in
        let lb = R.bytes in
        let e = new-vector b b' n n' v hv (λ m x. get_or-set_other b (LENGTHS + v) m (length rs) 0 (λ z. x (omega arith) (omega arith)))
        (λ m x. F.kept m (λ y z. x (omega arith) (omega arith))) in
        let l = get_or-set_same b (LENGTHS + v) (length rs) 0 (omega arith) ∙ sym (length-numbers n k rs) in
        let f = up_to-same (λ i. n' # (ITEM + 16 * v + i)) (λ i. pick_in n k rs i) 0 16 (λ i a d. F.items i (omega arith)) ∙ sym (over-up_to (numbers_of n k rs) 16) in
        let s = e ∙ ap (with_vector (state_in b n) v) (same b' n' l f) in
        (s, record { bytes = simp (length-set, lb); numbers = F.long; counts = R.counts; counted = rw s (vector-counted (state_in b n) v (new_vector (numbers_of n k rs)) c R.counted) })
      where
        same : (b' : List ℕ) (n' : List ℤ) → b' ! (LENGTHS + v) ≡ length (numbers_of n k rs) → up_to (λ i. n' # (ITEM + 16 * v + i)) 0 16 ≡ over (numbers_of n k rs) (replicate 16 (pos 0))
            → vector_in b' n' v ≡ new_vector (numbers_of n k rs)
        same b' n' l f = λ t. record { length = l t; items = f t }

-- ---- the instruction

pub gathered : (t : Bool) (b : List ℕ) (n : List ℤ) (k : ℕ) (rs : List ℕ) → Gathers t b n k rs → t ≡ true → (each (integer (frame_in b n k)) rs ≡ got (numbers_of n k rs)) × Small rs
unfolding Gathers
gathered t b n k rs G e = rw e at G

module _ (P : Program) (W : Version) (b : List ℕ) (n : List ℤ) (k d : ℕ) (rs : List ℕ) (most : ℕ) where
  pub vec-stuck : (t : Bool) → Gathers t b n k rs → t ≡ false → execute_with most P (state_in b n) k (frame_in b n k) W (VEC d rs) ≡ stuck
  unfolding ◌>>=◌ Gathers
  vec-stuck t G e = let M = rw e at G in vec-within most P (state_in b n) k (frame_in b n k) W d rs ∙ rw M refl

  module _ (t : Bool) (G : Gathers t b n k rs) (e : t ≡ true) where
    pub vec-none : free_within most (state_in b n) ≡ stop End.Vectors → execute_with most P (state_in b n) k (frame_in b n k) W (VEC d rs) ≡ stop End.Vectors
    unfolding ◌>>=◌
    vec-none f = vec-within most P (state_in b n) k (frame_in b n k) W d rs ∙ rw ((gathered t b n k rs G e).0, f) refl

    pub vec-full : {w : ℕ} → free_within most (state_in b n) ≡ got w → Live b k → 16 ≤ d → execute_with most P (state_in b n) k (frame_in b n k) W (VEC d rs) ≡ stuck
    unfolding ◌>>=◌ assign with_vector live_frames
    vec-full {w = w} f L l = vec-within most P (state_in b n) k (frame_in b n k) W d rs ∙ rw ((gathered t b n k rs G e).0, f, frame-live b n k L, outside b n k d (Value.Vector w) l) refl

    pub vec-done : {w : ℕ} {s : State} → free_within most (state_in b n) ≡ got w → s ≡ vector_made b n k w rs → execute_with most P (state_in b n) k (frame_in b n k) W (VEC d rs) ≡ assign s k d
        (Value.Vector w)
    unfolding ◌>>=◌
    vec-done f g = vec-within most P (state_in b n) k (frame_in b n k) W d rs ∙ rw ((gathered t b n k rs G e).0, f, g) refl
