-- Frames: what the cells say of registers, and what a write to a cell makes of the state.
use Rattle.std.specs.Prelude.{None, Option, Some}
use mathlib.Core.Path.{◌≡◌, refl, sym, ap, ◌∙◌}
use mathlib.Core.List.{List}
use mathlib.Core.Bool.{Bool, true, false}
use Prim.Native.Nat.{ℕ, ◌+◌, ◌*◌, ◌≤◌, ◌<◌}
use native.Mathlib.Omega.{arith}
use lib.IntN.{ℤ}
use lib.ListN.{length, set}
use lib.Dec.{ltb}
use borrow.Author.Tests.{lt-ltb, le-ltb, ltb-true, ltb-false}
use Rattle.layout.specs.Records.{◌!◌}
use Rattle.layout.proofs.Lists.{get_take}
use Rattle.machine.specs.Frames.{read_of}
use Rattle.machine.specs.declared.State.{State}
use Rattle.machine.specs.Try.{Try, got, stuck, stop, ◌>>=◌, ◌>>◌, at, put, or_stuck, stuck_unless}
use Rattle.machine.specs.States.{place, live_frames, register, named, with_register, with_name, with_frame, assign, store}
use Rattle.machine.specs.declared.End.{End}
use Rattle.machine.specs.declared.Value.{Value}
use Rattle.store.specs.Lists.{up_to}
use Rattle.store.proofs.Lists.{length-up_to, get_elem?-up_to, missing-up_to, up_to-same, set-up_to-by}
use Rattle.store.specs.Store.{CALLS, cell_in, frame_in, state_in, Live, Puts}
use Rattle.store.proofs.Kept.{cell_same, new-frame}

module _ (b : List ℕ) (n : List ℤ) (k : ℕ) where
  pub frame-live : Live b k → at (live_frames (state_in b n)) k ≡ got (frame_in b n k)
  unfolding at or_stuck live_frames state_in
  frame-live (l, h) = rw (get_take (up_to (frame_in b n) 0 32) (b ! CALLS) k h, get_elem?-up_to (frame_in b n) 32 k l) refl

  pub register-in : (r : ℕ) → r < 16 → register (frame_in b n k) r ≡ got (cell_in b n k r)
  unfolding register frame_in at or_stuck ◌>>=◌
  register-in r h = rw (get_elem?-up_to (λ i. place (cell_in b n k i)) 16 r h) refl

  pub register-out : (r : ℕ) → 16 ≤ r → register (frame_in b n k) r ≡ stuck
  unfolding register frame_in at or_stuck ◌>>=◌
  register-out r h = rw (missing-up_to (λ i. place (cell_in b n k i)) 16 r h) refl

  pub name_in : (x : ℕ) → x < 8 → named (frame_in b n k) x ≡ got (cell_in b n k (16 + x))
  unfolding named frame_in at or_stuck ◌>>=◌
  name_in x h = rw (get_elem?-up_to (λ i. place (cell_in b n k (16 + i))) 8 x h) refl

  pub name_out : (x : ℕ) → 8 ≤ x → named (frame_in b n k) x ≡ stuck
  unfolding named frame_in at or_stuck ◌>>=◌
  name_out x h = rw (missing-up_to (λ i. place (cell_in b n k (16 + i))) 8 x h) refl

  pub unnamed : (x : ℕ) (v : Value) → 8 ≤ x → with_name (frame_in b n k) x v ≡ stuck
  unfolding with_name frame_in put stuck_unless ◌>>=◌ ◌>>◌
  unnamed x v h = rw (le-ltb x (length (frame_in b n k).names) (rw (length-up_to (λ i. place (cell_in b n k (16 + i))) 8) h)) refl

  pub outside : (r : ℕ) (v : Value) → 16 ≤ r → with_register (frame_in b n k) r v ≡ stuck
  unfolding with_register frame_in put stuck_unless ◌>>=◌ ◌>>◌
  outside r v h = rw (le-ltb r (length (frame_in b n k).registers) (rw (length-up_to (λ i. place (cell_in b n k i)) 16) h)) refl

-- ---- a cell that was put

module _ {b b' : List ℕ} {n n' : List ℤ} {k c : ℕ} {v : Value} (P : Puts b n b' n' k c v) (g : k < 32) where
  other-cell : (j : ℕ) → j < 24 → c < 24 → (j ≡ c → ⊥) → cell_in b' n' k j ≡ cell_in b n k j
  other-cell j h l q = cell_same b b' n n' k j (P.bytes _ (λ z. q (omega arith)) (λ z. omega arith)) (P.bytes _ (λ z. omega arith) (λ z. q (omega arith)))
      (P.numbers _ (λ z. q (omega arith)))

  pub put-registers : c < 16 → set (up_to (λ i. place (cell_in b n k i)) 0 16) c (place v) ≡ up_to (λ i. place (cell_in b' n' k i)) 0 16
  put-registers h = set-up_to-by (λ i. place (cell_in b n k i)) (λ i. place (cell_in b' n' k i)) 16 c (place v) (ap place P.holds)
      (λ j a q. ap place (other-cell j (omega arith) (omega arith) q))

  pub same_names : c < 16 → up_to (λ x. place (cell_in b n k (16 + x))) 0 8 ≡ up_to (λ x. place (cell_in b' n' k (16 + x))) 0 8
  same_names h = up_to-same (λ x. place (cell_in b n k (16 + x))) (λ x. place (cell_in b' n' k (16 + x))) 0 8
      (λ x a d. ap place (sym (other-cell (16 + x) (omega arith) (omega arith) (λ z. omega arith))))

  -- the version that a frame is of
  kept-owner : (i : ℕ) → 24 ≤ i → i < 26 → c < 24 → b ! (32 * k + i) ≡ b' ! (32 * k + i)
  kept-owner i l m h = sym (P.bytes (32 * k + i) (λ z. omega arith) (λ z. omega arith))

  put-register : c < 16 → with_register (frame_in b n k) c v ≡ got (frame_in b' n' k)
  unfolding with_register frame_in put stuck_unless ◌>>=◌ ◌>>◌
  put-register h =
      let f = kept-owner 24 (omega arith) (omega arith) (omega arith) in
      let w = kept-owner 25 (omega arith) (omega arith) (omega arith) in
      let l = lt-ltb c (length (frame_in b n k).registers) (rw (length-up_to (λ i. place (cell_in b n k i)) 16) h) in
      rw l (λ t. got (record { function = f t; version = w t; registers = put-registers h t; names = same_names h t }))

  pub put-names : (x : ℕ) → c ≡ 16 + x → x < 8 → set (up_to (λ i. place (cell_in b n k (16 + i))) 0 8) x (place v) ≡ up_to (λ i. place (cell_in b' n' k (16 + i))) 0 8
  put-names x q h =
      let e : cell_in b' n' k (16 + x) ≡ v = ap (cell_in b' n' k) (sym q) ∙ P.holds in
      set-up_to-by (λ i. place (cell_in b n k (16 + i))) (λ i. place (cell_in b' n' k (16 + i))) 8 x (place v) (ap place e)
      (λ j a r. ap place (other-cell (16 + j) (omega arith) (omega arith) (λ z. r (omega arith))))

  pub same-registers : 16 ≤ c → c < 24 → up_to (λ i. place (cell_in b n k i)) 0 16 ≡ up_to (λ i. place (cell_in b' n' k i)) 0 16
  same-registers l h = up_to-same (λ i. place (cell_in b n k i)) (λ i. place (cell_in b' n' k i)) 0 16 (λ i a d. ap place (sym (other-cell i (omega arith) (omega arith) (λ z. omega arith))))

  put-name : (x : ℕ) → c ≡ 16 + x → x < 8 → with_name (frame_in b n k) x v ≡ got (frame_in b' n' k)
  unfolding with_name frame_in put stuck_unless ◌>>=◌ ◌>>◌
  put-name x q h =
      let f = kept-owner 24 (omega arith) (omega arith) (omega arith) in
      let w = kept-owner 25 (omega arith) (omega arith) (omega arith) in
      let l = lt-ltb x (length (frame_in b n k).names) (rw (length-up_to (λ i. place (cell_in b n k (16 + i))) 8) h) in
      rw l (λ t. got (record { function = f t; version = w t; registers = same-registers (omega arith) (omega arith) t; names = put-names x q h t }))

  pub put-frame : c < 24 → state_in b' n' ≡ with_frame (state_in b n) k (frame_in b' n' k)
  put-frame h = new-frame b b' n n' k g (λ m q r. P.bytes m (λ z. q (omega arith) (omega arith)) (λ z. r (omega arith) (omega arith)))
      (λ m q. P.numbers m (λ z. q (omega arith) (omega arith)))

module _ {b b' : List ℕ} {n n' : List ℤ} {k c : ℕ} {v : Value} (P : Puts b n b' n' k c v) (L : Live b k) where
  pub assigned : c < 16 → assign (state_in b n) k c v ≡ got (state_in b' n')
  unfolding assign ◌>>=◌
  assigned h = rw (frame-live b n k L, put-register P L.0 h) (ap got (sym (put-frame P L.0 (omega arith))))

  pub stored : (x : ℕ) → c ≡ 16 + x → x < 8 → store (state_in b n) k x v ≡ got (state_in b' n')
  unfolding store ◌>>=◌
  stored x q h = rw (frame-live b n k L, put-name P L.0 x q h) (ap got (sym (put-frame P L.0 (omega arith))))

pub assign-out : (b : List ℕ) (n : List ℤ) (k r : ℕ) (v : Value) → Live b k → 16 ≤ r → assign (state_in b n) k r v ≡ stuck
unfolding assign ◌>>=◌
assign-out b n k r v L h = rw (frame-live b n k L, outside b n k r v h) refl

pub store_out : (b : List ℕ) (n : List ℤ) (k x : ℕ) (v : Value) → Live b k → 8 ≤ x → store (state_in b n) k x v ≡ stuck
unfolding store ◌>>=◌
store_out b n k x v L h = rw (frame-live b n k L, unnamed b n k x v h) refl

-- ---- what a reader answered

pub read-holds : {t : Try Value} {r : Option Value} {v : Value} → r ≡ read_of t → r ≡ Some v → t ≡ got v
unfolding read_of
read-holds {t = got u} {v = v} e h = let q : u ≡ v = cc in ap got q
read-holds {t = stuck} e h = let z : ◌≡◌ {A = ℕ} 0 1 = cc in absurd (omega arith)
read-holds {t = stop x} e h = let z : ◌≡◌ {A = ℕ} 0 1 = cc in absurd (omega arith)

pub read-outside : {t : Try Value} {r : Option Value} → r ≡ read_of t → r ≡ None → ((e : End) → t ≡ stop e → ⊥) → t ≡ stuck
unfolding read_of
read-outside {t = got u} e h n = let z : ◌≡◌ {A = ℕ} 0 1 = cc in absurd (omega arith)
read-outside {t = stuck} e h n = refl
read-outside {t = stop x} e h n = absurd (n x refl)

-- no register ends a run
pub register-goes : (b : List ℕ) (n : List ℤ) (k r : ℕ) (e : End) → register (frame_in b n k) r ≡ stop e → ⊥
register-goes b n k r e h = go (ltb r 16) refl
  where
    go : (t : Bool) → ltb r 16 ≡ t → ⊥
    go true q = let f = register-in b n k r (ltb-true _ _ q) in let z : ◌≡◌ {A = ℕ} 0 1 = cc in omega arith
    go false q = let f = register-out b n k r (ltb-false _ _ q) in let z : ◌≡◌ {A = ℕ} 0 1 = cc in omega arith

-- a live register can be assigned
pub assign-in : (b : List ℕ) (n : List ℤ) (k r : ℕ) (v : Value) → Live b k → r < 16 → (t : State) × (assign (state_in b n) k r v ≡ got t)
unfolding assign with_register frame_in put stuck_unless ◌>>=◌ ◌>>◌
assign-in b n k r v L h = (
  with_frame (state_in b n) k (record {
    function = (frame_in b n k).function;
    version = (frame_in b n k).version;
    registers = set (frame_in b n k).registers r
        (place v);
    names = (frame_in b n k).names;
  }),
  rw (frame-live b n k L, lt-ltb r (length (frame_in b n k).registers) (rw (length-up_to (λ i. place (cell_in b n k i)) 16) h)) refl,
)
