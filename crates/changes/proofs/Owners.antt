-- Live calls by the bytes of their frames.
use mathlib.Core.Path.{◌≡◌, refl, sym, subst}
use mathlib.Core.Bool.{Bool, true, false, cond}
use mathlib.Core.List.{List, []}
use Prim.Native.Nat.{ℕ, min, ◌+◌, ◌*◌, ◌<◌}
use native.Mathlib.Decide.{dec_lt}
use native.Mathlib.Omega.{arith}
use lib.IntN.{ℤ}
use lib.ListN.{take}
use lib.Dec.{eqb, ltb}
use borrow.Author.Tests.{ltb-true, ltb-false}
use Rattle.layout.specs.Records.{◌!◌}
use Rattle.layout.specs.Tests.{◌and◌, found}
use Rattle.program.specs.Program.{Program, Version, find_version}
use Rattle.machine.specs.Changes.{is_live, all_there, change_of}
use Rattle.machine.specs.States.{live_frames}
use Rattle.machine.proofs.Changes.{change-alike}
use Rattle.store.specs.Lists.{up_to}
use Rattle.store.specs.Store.{CALLS, frame_in, state_in}
use Rattle.store.proofs.Lists.{take-up_to, take-all-up_to}
use Rattle.changes.specs.Owners.{live_calls, owned_by}
use Rattle.changes.proofs.Lists.{any-up_to-none, any-up_to-some, any-up_to-same, all-up_to, all-up_to-not, all-up_to-same}

-- the count of frames, if it is one of a state
pub min-live : (b : List ℕ) → min (b ! CALLS) 32 ≡ live_calls b
unfolding live_calls
min-live b = go (ltb (b ! CALLS) 32) refl
  where
    go : (t : Bool) → ltb (b ! CALLS) 32 ≡ t → min (b ! CALLS) 32 ≡ cond t (b ! CALLS) 32
    go true e = let l = ltb-true _ _ e in omega arith
    go false e = let l = ltb-false _ _ e in omega arith

-- what holds of each number below k and of k
pub below_next : (T : ℕ → Type 0) (k : ℕ) → ((j : ℕ) → j < k → T j) → T k → (j : ℕ) → j < k + 1 → T j
below_next T k h t j l = go (dec_lt j k)
  where
    go : Dec (j < k) → T j
    go (yes m) = h j m
    go (no m) = let e : k ≡ j = omega arith in subst T e t

module _ (b : List ℕ) where
  -- the frames of the live calls
  live-frames : (n : List ℤ) → live_frames (state_in b n) ≡ up_to (frame_in b n) 0 (live_calls b)
  unfolding live_frames live_calls state_in
  live-frames n = go (ltb (b ! CALLS) 32) refl
    where
      go : (t : Bool) → ltb (b ! CALLS) 32 ≡ t → take (b ! CALLS) (up_to (frame_in b n) 0 32) ≡ up_to (frame_in b n) 0 (cond t (b ! CALLS) 32)
      go true e = let h : b ! CALLS < 32 = ltb-true _ _ e in take-up_to (frame_in b n) 32 (b ! CALLS) (omega arith)
      go false e = take-all-up_to (frame_in b n) 32 (b ! CALLS) (ltb-false _ _ e)

  -- ---- the calls that the bytes tell

  module _ (f w : ℕ) where
    pub none-live : ((k : ℕ) → k < live_calls b → (eqb (b ! (32 * k + 24)) f and eqb (b ! (32 * k + 25)) w) ≡ false) → is_live (owned_by b) f w ≡ false
    unfolding is_live frame_in owned_by
    none-live h = rw (live-frames []) (any-up_to-none _ (frame_in b []) 0 (live_calls b) (λ k a c. h k (omega arith)))

    pub one-live : (k : ℕ) → k < live_calls b → (eqb (b ! (32 * k + 24)) f and eqb (b ! (32 * k + 25)) w) ≡ true → is_live (owned_by b) f w ≡ true
    unfolding is_live frame_in owned_by
    one-live k h e = rw (live-frames []) (any-up_to-some _ (frame_in b []) 0 (live_calls b) k (omega arith) (omega arith) e)

  module _ (P : Program) where
    pub all_live : ((k : ℕ) → k < live_calls b → found (find_version P (b ! (32 * k + 24)) (b ! (32 * k + 25))) (λ (v : Version). true) ≡ true) → all_there P (owned_by b) ≡ true
    unfolding all_there frame_in owned_by
    all_live h = rw (live-frames []) (all-up_to _ (frame_in b []) 0 (live_calls b) (λ k a c. h k (omega arith)))

    pub one-gone : (k : ℕ) → k < live_calls b → found (find_version P (b ! (32 * k + 24)) (b ! (32 * k + 25))) (λ (v : Version). true) ≡ false → all_there P (owned_by b) ≡ false
    unfolding all_there frame_in owned_by
    one-gone k h e = rw (live-frames []) (all-up_to-not _ (frame_in b []) 0 (live_calls b) k (omega arith) (omega arith) e)

  -- THE LAW: a change sees no number of a state
  module _ (n : List ℤ) where
    live_same : (f w : ℕ) → is_live (state_in b n) f w ≡ is_live (owned_by b) f w
    unfolding is_live frame_in owned_by
    live_same f w = rw (live-frames n, live-frames []) (any-up_to-same _ _ (frame_in b n) (frame_in b []) 0 (live_calls b) (λ k a c. refl))

    there-same : (P : Program) → all_there P (state_in b n) ≡ all_there P (owned_by b)
    unfolding all_there frame_in owned_by
    there-same P = rw (live-frames n, live-frames []) (all-up_to-same _ _ (frame_in b n) (frame_in b []) 0 (live_calls b) (λ k a c. refl))

    pub owned : (old new : List ℕ) → change_of old new (owned_by b) ≡ change_of old new (state_in b n)
    owned old new = sym (change-alike old new (state_in b n) (owned_by b) live_same there-same)
