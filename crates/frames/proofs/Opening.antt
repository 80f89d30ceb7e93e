-- A frame that is opened.
use mathlib.Core.Path.{◌≡◌, refl, sym, ap, ◌∙◌, subst}
use mathlib.Core.List.{List, [], ◌∷◌, ◌++◌}
use mathlib.Core.Bool.{Bool, true, false, cond}
use native.Mathlib.Numerals.{add-one}
use Prim.Native.Nat.{ℕ, zero, suc, ◌+◌, ◌-◌, ◌*◌, ◌≤◌, ◌<◌}
use native.Mathlib.Omega.{arith}
use lib.IntN.{ℤ}
use lib.ListN.{get_elem?, get_or, length, length-set, replicate, set, take}
use Rattle.std.proofs.lemmas.List.{get_or-replicate, length-replicate}
use Rattle.std.proofs.lemmas.Slice.{put_mid-paste}
use borrow.Rule.Slice.PartMut.{put_mid}
use lib.Seq.{get_or-set_same, get_or-set_other, take-suc-set, paste, paste-zero, paste-suc}
use lib.Dec.{eqb, ltb}
use borrow.Author.Tests.{eqb-true, eqb-false, ltb-true, ltb-false}
use Rattle.layout.specs.Records.{◌!◌}
use Rattle.layout.proofs.Lists.{get_other, get-same, get_take, take_none}
use Rattle.machine.specs.States.{place, is_promise, is_vector, live_activations, live_frames, new_frame, with_frame, with_stack}
use Rattle.machine.specs.declared.Frame.{Frame}
use Rattle.machine.specs.declared.State.{State}
use Rattle.machine.specs.declared.Value.{Value}
use Rattle.store.specs.Lists.{up_to}
use Rattle.store.proofs.Lists.{length-up_to, up_to-same}
use Rattle.store.specs.Store.{CALLS, DEPTH, value_of, cell_in, frame_in, state_in, Cleared}
use Rattle.store.specs.Counts.{one, holders, in_frame, in_frames, holding, forcing, is_reference, references, refers_to, Counted, Ready}
use Rattle.store.specs.Acts.{with_open}
use Rattle.store.proofs.Kept.{new-frame, new-stack}

module _ (b : List ℕ) (k : ℕ) (h : k < 32) where
  clear-begun : length b ≡ 2632 → Cleared b b k 0
  clear-begun l = record { within = omega arith; empty = λ c a. absurd (omega arith); kept = λ i q. refl; long = l }

  clear-one : (c : List ℕ) (j : ℕ) → Cleared b c k j → j < 24 → Cleared b (set c (32 * k + j) 0) k (j + 1)
  clear-one c j C a =
      let l = C.long in
      record {
        within = omega arith;
        empty = λ t d. one t (eqb t j) refl d;
        kept = λ i q. get_or-set_other c (32 * k + j) i 0 0 (λ z. q (omega arith) (omega arith)) ∙ C.kept i q;
        long = simp (length-set, l);
      }
    where
      one : (t : ℕ) (s : Bool) → eqb t j ≡ s → t < j + 1 → set c (32 * k + j) 0 ! (32 * k + t) ≡ 0
      one t true q d = let z = eqb-true t j q in let l = C.long in rw z (get_or-set_same c (32 * k + j) 0 0 (omega arith))
      one t false q d = let z = eqb-false t j q in get_or-set_other c (32 * k + j) (32 * k + t) 0 0 (λ y. z (omega arith)) ∙ C.empty t (let w : t ≡ j → ⊥ = z in omega arith)

  -- the first m tags of the frame, of 24 zeros written over them
  filled : length b ≡ 2632 → (m : ℕ) → m ≤ 24 → Cleared b (paste b (32 * k) (replicate 24 0) m) k m
  filled l zero a = subst (λ (c : List ℕ). Cleared b c k 0) (paste-zero b (32 * k) (replicate 24 0)) (clear-begun l)
  filled l (suc m) a =
      let zeros : List ℕ = replicate 24 0 in
      let C = rw add-one at (clear-one (paste b (32 * k) zeros m) m (filled l m (omega arith)) (omega arith)) in
      let zero-there : 0 ≡ get_or zeros m 0 = sym (get_or-replicate 24 m 0 0 (omega arith)) in
      subst (λ (c : List ℕ). Cleared b c k (suc m))
      (ap (set (paste b (32 * k) zeros m) (32 * k + m)) zero-there ∙ paste-suc b (32 * k) zeros m 0 (omega arith) (omega (arith, length-replicate {A = ℕ} 24 0))) C

  pub cleared-by : (size m : ℕ) (u : List ℕ) → length b ≡ 2632 → u ≡ replicate m 0 → size ≡ 24 → m ≡ 24 → Cleared b (put_mid (32 * k) size b u) k 24
  cleared-by size m u l e n q =
      subst (λ (c : List ℕ). Cleared b c k 24)
      (sym (put_mid-paste (32 * k) size b u (replicate 24 0) 24 (e ∙ ap (λ (i : ℕ). replicate i 0) q) (sym n) refl))
      (filled l 24 (omega arith))

-- ---- a frame of empty cells counts for nothing

in_frames-append : (is : Value → Bool) (fs gs : List Frame) → in_frames is (fs ++ gs) ≡ in_frames is fs + in_frames is gs
unfolding in_frames
in_frames-append is [] gs = omega arith
in_frames-append is (f ∷ fs) gs = let h = in_frames-append is fs gs in omega arith

none-hold : (is : Value → Bool) → is Value.Empty ≡ false → (m : ℕ) → holders is (replicate m (place Value.Empty)) ≡ 0
unfolding holders
none-hold is e zero = refl
none-hold is e (suc m) = let h = none-hold is e m in let g : one (is Value.Empty) ≡ 0 = ap one e in omega arith

empty-refers : (i : ℕ) → refers_to i Value.Empty ≡ false
unfolding refers_to is_vector is_promise
empty-refers i = go (ltb i 256)
  where
    go : (t : Bool) → cond t (is_vector i) (is_promise (i - 256)) Value.Empty ≡ false
    go true = refl
    go false = refl

open-counted : (b : List ℕ) (n : List ℤ) (f v : ℕ) (c : List ℕ) → b ! CALLS < 32 → Counted c (state_in b n) → Counted c (with_open (state_in b n) (new_frame f v))
unfolding with_open with_stack holding forcing references is_reference live_frames live_activations in_frame state_in in_frames
open-counted b n f v c h C = record {
  held = λ i a. C.held i a ∙ go (refers_to i) (empty-refers i);
  forced = λ p a. C.forced p a;
  frames = λ k a. C.frames k a ∙ other k (ltb k (b ! CALLS)) refl (eqb k (b ! CALLS)) refl;
}
  where
    new : in_frame is_reference (new_frame f v) ≡ 0
    new = let r = none-hold is_reference refl 16 in let x = none-hold is_reference refl 8 in omega arith

    other : (k : ℕ) (s : Bool) → ltb k (b ! CALLS) ≡ s → (t : Bool) → eqb k (b ! CALLS) ≡ t
        → references (get_elem? (take (b ! CALLS) (up_to (frame_in b n) 0 32)) k) ≡ references (get_elem? (take (b ! CALLS + 1) (set (up_to (frame_in b n) 0 32) (b ! CALLS) (new_frame f v))) k)
    other k true p t q =
        let l = ltb-true k (b ! CALLS) p in
        rw (
          get_take (up_to (frame_in b n) 0 32) (b ! CALLS) k l,
          get_take (set (up_to (frame_in b n) 0 32) (b ! CALLS) (new_frame f v)) (b ! CALLS + 1) k (omega arith),
          get_other
              (up_to (frame_in b n) 0 32) (b ! CALLS) k (new_frame f v) (λ z. omega arith),
        ) refl
    other k false p true q =
        let z = eqb-true k (b ! CALLS) q in
        let m : b ! CALLS < length (up_to (frame_in b n) 0 32) = rw (length-up_to (frame_in b n) 32) h in
        rw (
          z,
          take_none (up_to (frame_in b n) 0 32) (b ! CALLS) (b ! CALLS) (omega arith),
          get_take (set (up_to (frame_in b n) 0 32) (b ! CALLS) (new_frame f v)) (b ! CALLS + 1) (b ! CALLS)
              (omega arith),
          get-same (up_to (frame_in b n) 0 32) (b ! CALLS) (new_frame f v) m,
        ) (sym new)
    other k false p false q =
        let l = ltb-false k (b ! CALLS) p in
        let z = eqb-false k (b ! CALLS) q in
        let d : b ! CALLS + 1 ≤ k = (let y : k ≡ b ! CALLS → ⊥ = z in omega arith) in
        rw (take_none (up_to (frame_in b n) 0 32) (b ! CALLS) k l, take_none (set (up_to (frame_in b n) 0 32) (b ! CALLS) (new_frame f v)) (b ! CALLS + 1) k d) refl

    go : (is : Value → Bool) → is Value.Empty ≡ false → in_frames is (take (b ! CALLS) (up_to (frame_in b n) 0 32)) ≡ in_frames is
        (take (b ! CALLS + 1) (set (up_to (frame_in b n) 0 32) (b ! CALLS) (new_frame f v)))
    go is e =
        let m : b ! CALLS < length (up_to (frame_in b n) 0 32) = rw (length-up_to (frame_in b n) 32) h in
        let r = none-hold is e 16 in
        let x = none-hold is e 8 in
        let q = in_frames-append is (take (b ! CALLS) (up_to (frame_in b n) 0 32)) (new_frame f v ∷ []) in
        rw (add-one (b ! CALLS), take-suc-set (up_to (frame_in b n) 0 32) (b ! CALLS) (new_frame f v) m) (omega arith)

module _ (b c : List ℕ) (n : List ℤ) (h : b ! CALLS < 32) (C : Cleared b c (b ! CALLS) 24) (f v : ℕ) where
  abbrev owned : List ℕ
  owned = set (set c (32 * b ! CALLS + 24) f) (32 * b ! CALLS + 25) v

  owned-kept : (i : ℕ) → (i ≡ 32 * b ! CALLS + 24 → ⊥) → (i ≡ 32 * b ! CALLS + 25 → ⊥) → owned ! i ≡ c ! i
  owned-kept i p q = get_or-set_other (set c (32 * b ! CALLS + 24) f) (32 * b ! CALLS + 25) i v 0 q ∙ get_or-set_other c (32 * b ! CALLS + 24) i f 0 p

  empty-cell : (j : ℕ) → j < 24 → cell_in owned n (b ! CALLS) j ≡ Value.Empty
  unfolding cell_in value_of
  empty-cell j a = rw (owned-kept (32 * b ! CALLS + j) (λ z. omega arith) (λ z. omega arith), C.empty j a) refl

  frame-new : frame_in owned n (b ! CALLS) ≡ new_frame f v
  unfolding frame_in up_to
  frame-new =
      let l = C.long in
      let m : length (set c (32 * b ! CALLS + 24) f) ≡ 2632 = simp (length-set, l) in
      let e = get_or-set_other (set c (32 * b ! CALLS + 24) f) (32 * b ! CALLS + 25) (32 * b ! CALLS + 24) v 0 (λ z. omega arith) ∙ get_or-set_same c (32 * b ! CALLS + 24) f 0 (omega arith) in
      let w = get_or-set_same (set c (32 * b ! CALLS + 24) f) (32 * b ! CALLS + 25) v 0 (omega arith) in
      let rs = up_to-same (λ r. place (cell_in owned n (b ! CALLS) r)) (λ r. place Value.Empty) 0 16 (λ r a d. ap place (empty-cell r (omega arith))) in
      let xs = up_to-same (λ x. place (cell_in owned n (b ! CALLS) (16 + x))) (λ x. place Value.Empty) 0 8 (λ x a d. ap place (empty-cell (16 + x) (omega arith))) in
      λ t. record { function = e t; version = w t; registers = rs t; names = xs t }

  owned-is : length n ≡ 2129 → state_in (set owned CALLS (b ! CALLS + 1)) n ≡ with_open (state_in b n) (new_frame f v)
  unfolding with_open with_frame with_stack state_in
  owned-is sn =
      let l = C.long in
      let m : length owned ≡ 2632 = simp (length-set, l) in
      let p = new-frame b owned n n (b ! CALLS) h (λ i q r. owned-kept i (λ z. q (omega arith) (omega arith)) (λ z. q (omega arith) (omega arith)) ∙ C.kept i
      (λ x y. q (omega arith) (omega arith))) (λ i q. refl) in
      let r = new-stack owned (set owned CALLS (b ! CALLS + 1)) n n (λ i q. get_or-set_other owned CALLS i (b ! CALLS + 1) 0 (λ z. q (omega arith) (omega arith))) (λ i q. refl) in
      let u = get_or-set_same owned CALLS (b ! CALLS + 1) 0 (omega arith) in
      let d = get_or-set_other owned CALLS DEPTH (b ! CALLS + 1) 0 (λ z. omega arith) ∙ owned-kept DEPTH (λ z. omega arith) (λ z. omega arith) ∙ C.kept DEPTH (λ x y. omega arith) in
      let x = set owned CALLS (b ! CALLS + 1) ! CALLS in
      let y = set owned CALLS (b ! CALLS + 1) ! DEPTH in
      r
      ∙ ap (λ (s : State). with_stack s s.frames x s.activations y) (p ∙ ap (with_frame (state_in b n) (b ! CALLS)) frame-new)
      ∙ (λ t. with_stack (state_in b n) (set (state_in b n).frames (b ! CALLS) (new_frame f v)) (u t) (state_in b n).activations (d t))

  opened_frame : {c' : List ℕ} → Ready b n c' → (state_in (set owned CALLS (b ! CALLS + 1)) n ≡ with_open (state_in b n) (new_frame f v)) × Ready (set owned CALLS (b ! CALLS + 1)) n c'
  opened_frame {c' = c'} R =
      let l = C.long in
      let s = owned-is R.numbers in
      (s, record { bytes = simp (length-set, l); numbers = R.numbers; counts = R.counts; counted = rw s (open-counted b n f v c' h R.counted) })

-- with the number of calls in hand
pub opened-by : (b c : List ℕ) (n : List ℤ) (c' : List ℕ) (f v : ℕ) {k : ℕ} → k ≡ b ! CALLS → b ! CALLS < 32 → Cleared b c k 24 → Ready b n c'
    → (state_in (set (set (set c (32 * k + 24) f) (32 * k + 25) v) CALLS (b ! CALLS + 1)) n ≡ with_open (state_in b n) (new_frame f v)) × Ready
    (set (set (set c (32 * k + 24) f) (32 * k + 25) v) CALLS (b ! CALLS + 1)) n c'
opened-by b c n c' f v e h C R = rw e (opened_frame b c n h (rw e at C) f v R)
