-- Vectors: their items, and an item written.
use mathlib.Core.Path.{◌≡◌, refl, sym, ap, ◌∙◌}
use mathlib.Core.List.{List}
use mathlib.Core.Bool.{Bool, true, false}
use Prim.Native.Nat.{ℕ, min, ◌+◌, ◌*◌, ◌≤◌, ◌<◌}
use native.Mathlib.Omega.{arith}
use lib.IntN.{ℤ, pos}
use lib.ListN.{length, length-set, get_or, set}
use lib.Seq.{get_or-set_same, get_or-set_other, get_or-take}
use lib.Dec.{eqb, ltb}
use borrow.Author.Tests.{eqb-true, eqb-false, ltb-true, ltb-false}
use Rattle.layout.specs.Records.{◌!◌}
use Rattle.machine.specs.Try.{got, stuck, at, or_stuck}
use Rattle.machine.specs.States.{items_of, live_activations, live_frames, with_vector}
use Rattle.machine.specs.declared.State.{State}
use Rattle.machine.specs.declared.Vector.{Vector}
use Rattle.store.specs.Lists.{up_to}
use Rattle.store.proofs.Lists.{length-up_to, get_elem?-up_to, missing-up_to, get_or-up_to, take-up_to, take-all-up_to, up_to-same, set-up_to-by}
use Rattle.store.specs.Store.{◌#◌, LENGTHS, ITEM, vector_in, state_in}
use Rattle.store.specs.Counts.{Counted, Ready, forcing, holding}
use Rattle.store.specs.Acts.{with_item}
use Rattle.store.proofs.Kept.{new-vector}

-- no count depends on vectors and promises
item-counted : (s : State) (v : ℕ) (w : Vector) (j : ℕ) (x : ℤ) (c : List ℕ) → Counted c s → Counted c (with_item s v w j x)
unfolding with_item with_vector holding forcing live_frames live_activations
item-counted s v w j x c C = record { held = λ i h. C.held i h; forced = λ p h. C.forced p h; frames = λ k h. C.frames k h }

pub vector-counted : (s : State) (v : ℕ) (w : Vector) (c : List ℕ) → Counted c s → Counted c (with_vector s v w)
unfolding with_vector holding forcing live_frames live_activations
vector-counted s v w c C = record { held = λ i h. C.held i h; forced = λ p h. C.forced p h; frames = λ k h. C.frames k h }

-- the items from the place i on up to j are copied
pub record Copied (n n' : List ℤ) (v w j : ℕ) : Type 0 where
  pub most : j ≤ 16
  pub items : (i : ℕ) → i < j → n' # (ITEM + 16 * w + i) ≡ n # (ITEM + 16 * v + i)
  pub kept : (m : ℕ) → (ITEM + 16 * w ≤ m → m < ITEM + 16 * w + j → ⊥) → n' # m ≡ n # m
  pub long : length n' ≡ 2129

module _ (n : List ℤ) (v w : ℕ) (hv : v < 64) (hw : w < 64) where
  pub copy-begun : length n ≡ 2129 → Copied n n v w 0
  copy-begun l = record { most = omega arith; items = λ i a. absurd (omega arith); kept = λ m q. refl; long = l }

  pub copy-one : (n' : List ℤ) (j : ℕ) (y : ℤ) → j < 16 → Copied n n' v w j → y ≡ n' # (ITEM + 16 * v + j) → Copied n (set n' (ITEM + 16 * w + j) y) v w (j + 1)
  copy-one n' j y h C e =
      let l = C.long in
      record {
        most = omega arith;
        items = λ i a. one i (eqb i j) refl a;
        kept = λ m q. get_or-set_other n' (ITEM + 16 * w + j) m y (pos 0) (λ z. q (omega arith) (omega arith)) ∙ C.kept m (λ x z. q (omega arith) (omega arith));
        long = simp (length-set, l);
      }
    where
      one : (i : ℕ) (t : Bool) → eqb i j ≡ t → i < j + 1 → set n' (ITEM + 16 * w + j) y # (ITEM + 16 * w + i) ≡ n # (ITEM + 16 * v + i)
      one i true q a =
          let z = eqb-true i j q in
          let l = C.long in
          rw z (get_or-set_same n' (ITEM + 16 * w + j) y (pos 0) (omega arith) ∙ e ∙ C.kept (ITEM + 16 * v + j) (λ x r. omega arith))
      one i false q a = let z = eqb-false i j q in get_or-set_other n' (ITEM + 16 * w + j) (ITEM + 16 * w + i) y (pos 0) (λ r. z (omega arith)) ∙ C.items i (omega arith)

  pub copied-vector : (b : List ℕ) (n' : List ℤ) (c : List ℕ) (j : ℕ) → Copied n n' v w j → 16 ≤ j → Ready b n c
      → (state_in (set b (LENGTHS + w) (b ! (LENGTHS + v))) n' ≡ with_vector (state_in b n) w (vector_in b n v)) × Ready (set b (LENGTHS + w) (b ! (LENGTHS + v))) n' c
  unfolding vector_in
  copied-vector b n' c j C h R =
      let b' = set b (LENGTHS + w) (b ! (LENGTHS + v)) in
      let q = C.most in
      let lb = R.bytes in
      let e = new-vector b b' n n' w hw (λ m x. get_or-set_other b (LENGTHS + w) m (b ! (LENGTHS + v)) 0 (λ z. x (omega arith) (omega arith)))
      (λ m x. C.kept m (λ y z. x (omega arith) (omega arith))) in
      let l = get_or-set_same b (LENGTHS + w) (b ! (LENGTHS + v)) 0 (omega arith) in
      let f = up_to-same (λ i. n' # (ITEM + 16 * w + i)) (λ i. n # (ITEM + 16 * v + i)) 0 16 (λ i a d. C.items i (omega arith)) in
      let s = e ∙ ap (with_vector (state_in b n) w) (same-vector b' n' b n l f) in
      (s, record { bytes = simp (length-set, lb); numbers = C.long; counts = R.counts; counted = rw s (vector-counted (state_in b n) w (vector_in b n v) c R.counted) })
    where
      same-vector : (b' : List ℕ) (n' : List ℤ) (b : List ℕ) (n : List ℤ) → b' ! (LENGTHS + w) ≡ b ! (LENGTHS + v) → up_to (λ i. n' # (ITEM + 16 * w + i)) 0 16 ≡ up_to
          (λ i. n # (ITEM + 16 * v + i)) 0 16 → vector_in b' n' w ≡ vector_in b n v
      same-vector b' n' b n l f = λ t. record { length = l t; items = f t }

module _ (b : List ℕ) (n : List ℤ) (v : ℕ) where
  pub vector-at : v < 64 → at (state_in b n).vectors v ≡ got (vector_in b n v)
  unfolding at or_stuck state_in
  vector-at h = rw (get_elem?-up_to (vector_in b n) 64 v h) refl

  pub vector-outside : 64 ≤ v → at (state_in b n).vectors v ≡ stuck
  unfolding at or_stuck state_in
  vector-outside h = rw (missing-up_to (vector_in b n) 64 v h) refl

  count-few : b ! (LENGTHS + v) < 16 → length (items_of (vector_in b n v)) ≡ b ! (LENGTHS + v)
  unfolding items_of vector_in
  count-few h = rw (take-up_to (λ j. n # (ITEM + 16 * v + j)) 16 (b ! (LENGTHS + v)) (omega arith)) (length-up_to _ _)

  count-many : 16 ≤ b ! (LENGTHS + v) → length (items_of (vector_in b n v)) ≡ 16
  unfolding items_of vector_in
  count-many h = rw (take-all-up_to (λ j. n # (ITEM + 16 * v + j)) 16 (b ! (LENGTHS + v)) h) (length-up_to _ 16)

  pub count-most : min (b ! (LENGTHS + v)) 16 ≡ length (items_of (vector_in b n v))
  count-most = go (ltb (b ! (LENGTHS + v)) 16) refl
    where
      go : (t : Bool) → ltb (b ! (LENGTHS + v)) 16 ≡ t → min (b ! (LENGTHS + v)) 16 ≡ length (items_of (vector_in b n v))
      go true e = let l = ltb-true _ _ e in let q = count-few l in omega arith
      go false e = let l = ltb-false _ _ e in let q = count-many l in omega arith

  pub inside : (j : ℕ) → j < length (items_of (vector_in b n v)) → (j < b ! (LENGTHS + v)) × (j < 16)
  inside j h = go (ltb (b ! (LENGTHS + v)) 16) refl
    where
      go : (t : Bool) → ltb (b ! (LENGTHS + v)) 16 ≡ t → (j < b ! (LENGTHS + v)) × (j < 16)
      go true e = let l = ltb-true _ _ e in let q = count-few l in (omega arith, omega arith)
      go false e = let l = ltb-false _ _ e in let q = count-many l in (omega arith, omega arith)

  pub item-at : (j : ℕ) → j < length (items_of (vector_in b n v)) → get_or (items_of (vector_in b n v)) j (pos 0) ≡ n # (ITEM + 16 * v + j)
  unfolding items_of vector_in
  item-at j h =
      let q = inside j h in
      get_or-take (b ! (LENGTHS + v)) (up_to (λ i. n # (ITEM + 16 * v + i)) 0 16) j (pos 0) q.0 ∙ get_or-up_to (λ i. n # (ITEM + 16 * v + i)) 16 j (pos 0) q.1

  written : (j : ℕ) (x : ℤ) → v < 64 → j < 16 → length n ≡ 2129 → vector_in b (set n (ITEM + 16 * v + j) x) v ≡ record {
    length = (vector_in b n v).length;
    items = set
        (vector_in b n v).items j x;
  }
  unfolding vector_in
  written j x h l s =
      let p = sym (set-up_to-by (λ i. n # (ITEM + 16 * v + i)) (λ i. set n (ITEM + 16 * v + j) x # (ITEM + 16 * v + i)) 16 j x (get_or-set_same n (ITEM + 16 * v + j) x (pos 0) (omega arith))
      (λ i a q. get_or-set_other n (ITEM + 16 * v + j) (ITEM + 16 * v + i) x (pos 0) (λ z. q (omega arith)))) in
      λ t. record { length = b ! (LENGTHS + v); items = p t }

  pub item-set : (j : ℕ) (x : ℤ) → v < 64 → j < 16 → length n ≡ 2129 → state_in b (set n (ITEM + 16 * v + j) x) ≡ with_item (state_in b n) v (vector_in b n v) j x
  unfolding with_item
  item-set j x h l s =
      new-vector b b n (set n (ITEM + 16 * v + j) x) v h (λ m q. refl) (λ m q. get_or-set_other n (ITEM + 16 * v + j) m x (pos 0) (λ z. q (omega arith) (omega arith))) ∙ ap
      (with_vector (state_in b n) v) (written j x h l s)

  pub item-written : (c : List ℕ) (j : ℕ) (x y : ℤ) → v < 64 → j < 16 → Ready b n c → y ≡ x → (state_in b (set n (ITEM + 16 * v + j) y) ≡ with_item (state_in b n) v (vector_in b n v) j x)
      × Ready b (set n (ITEM + 16 * v + j) y) c
  item-written c j x y h l R e =
      let s = item-set j x h l R.numbers in
      rw e (s, record { bytes = R.bytes; numbers = simp (length-set, R.numbers); counts = R.counts; counted = rw s (item-counted (state_in b n) v (vector_in b n v) j x c R.counted) })
