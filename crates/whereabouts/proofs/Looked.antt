-- A place of a live call, by the cells of the arrays.
use Rattle.std.specs.Prelude.{None, Some}
use mathlib.Core.Path.{◌≡◌, refl, sym, ap, ◌∙◌}
use mathlib.Core.Bool.{Bool, true, false}
use mathlib.Core.List.{List}
use Prim.Native.Nat.{ℕ, ◌+◌, ◌-◌, ◌<◌, ◌≤◌}
use native.Mathlib.Omega.{arith}
use lib.IntN.{ℤ}
use lib.Dec.{ltb}
use borrow.Author.Tests.{ltb-true, ltb-false}
use Rattle.layout.specs.Records.{◌!◌}
use Rattle.machine.specs.Frames.{read_of}
use Rattle.machine.specs.Try.{◌>>=◌, got, stuck}
use Rattle.machine.specs.declared.Value.{Value}
use Rattle.store.specs.Store.{CALLS, cell_in, frame_in, state_in}
use Rattle.store.proofs.Frames.{frame-live, name_in, name_out, register-in}
use Rattle.whereabouts.specs.Looks.{look_of, place_of}
use Rattle.whereabouts.proofs.Shown.{frame-ended, frame-outside}

module _ (b : List ℕ) (n : List ℤ) (k i : ℕ) where
  -- registers, then names, then nothing
  place_is : i < 24 → place_of (frame_in b n k) i ≡ got (cell_in b n k i)
  unfolding place_of
  place_is h = go (ltb i 16) refl
    where
      go : (t : Bool) → ltb i 16 ≡ t → place_of (frame_in b n k) i ≡ got (cell_in b n k i)
      go true e = rw e (register-in b n k i (ltb-true _ _ e))
      go false e =
          let l : 16 ≤ i = ltb-false _ _ e in
          let s : 16 + (i - 16) ≡ i = omega arith in
          rw e (name_in b n k (i - 16) (omega arith) ∙ ap (λ (j : ℕ). got (cell_in b n k j)) s)

  no_place : 24 ≤ i → place_of (frame_in b n k) i ≡ stuck
  unfolding place_of
  no_place h = go (ltb i 16) refl
    where
      go : (t : Bool) → ltb i 16 ≡ t → place_of (frame_in b n k) i ≡ stuck
      go true e = let l : i < 16 = ltb-true _ _ e in absurd (omega arith)
      go false e = rw e (name_out b n k (i - 16) (omega arith))

  pub outside-calls : 32 ≤ k → None ≡ read_of (look_of (state_in b n) k i)
  unfolding look_of read_of ◌>>=◌
  outside-calls h = rw (frame-outside b n k h) refl

  module _ {c : ℕ} (z : c ≡ b ! CALLS) where
    pub ended-call : c ≤ k → None ≡ read_of (look_of (state_in b n) k i)
    unfolding look_of read_of ◌>>=◌
    ended-call h = rw (frame-ended b n k (omega (arith, z, h))) refl

    module _ (h : k < 32) (l : k < c) where
      pub outside-frame : 24 ≤ i → None ≡ read_of (look_of (state_in b n) k i)
      unfolding look_of read_of ◌>>=◌
      outside-frame m = rw (frame-live b n k (h, omega (arith, z, l)), no_place m) refl

      pub looked : {v : Value} → i < 24 → v ≡ cell_in b n k i → Some v ≡ read_of (look_of (state_in b n) k i)
      unfolding look_of read_of ◌>>=◌
      looked m e = rw (frame-live b n k (h, omega (arith, z, l)), place_is m, e) refl
