-- New frames: what is put over a blank list, and the cells of a frame that a call opens.
use mathlib.Core.Path.{◌≡◌, refl, sym, ap, ◌∙◌}
use mathlib.Core.List.{List, [], ◌∷◌, map}
use mathlib.Core.Logic.{◌⊎◌, inl, inr}
use mathlib.Core.Bool.{Bool, true, false}
use Prim.Native.Nat.{ℕ, zero, suc, ◌-◌, ◌≤◌, ◌<◌}
use native.Mathlib.Nat.{le_of_suc-le-suc, not-suc-le-zero}
use native.Mathlib.Omega.{arith}
use lib.ListN.{length, get_or, replicate, length-replicate, get_or-eq_default}
use lib.Dec.{ltb}
use borrow.Author.Tests.{ltb-false}
use Rattle.layout.specs.Bounds.{REGISTERS, NAMES}
use Rattle.layout.proofs.Lists.{get-some}
use Rattle.program.specs.Program.{Version, Program}
use Rattle.sets.specs.Sets.{has}
use Rattle.rules.specs.Actions.{∅}
use Rattle.rules.proofs.Prefixes.{at_first}
use Rattle.rules.proofs.Follows.{has-empty}
use Rattle.rules.proofs.Touches.{Flowing, flows-body}
use Rattle.checker.proofs.Accepted.{Checked}
use Rattle.machine.specs.States.{place, over}
use Rattle.machine.specs.Calls.{frame_for}
use Rattle.machine.specs.declared.Frame.{Frame}
use Rattle.machine.specs.declared.Place.{Place}
use Rattle.machine.specs.declared.Value.{Value}
use Rattle.soundness.proofs.Cells.{Whole, cell, cell_at}
use Rattle.soundness.proofs.Types.{clash}
use Rattle.soundness.proofs.Invariant.{no_block, version_at, block_at, is_full, top, Gets, Keeps, Stands}
use Rattle.checker.proofs.Limits.{limited}

-- ---- a list put over another

-- the length stays
pub over-length : {A : Type 0} (xs ys : List A) → length (over xs ys) ≡ length ys
unfolding over
over-length [] ys = refl
over-length (x ∷ xs) [] = refl
over-length (x ∷ xs) (y ∷ ys) = ap suc (over-length xs ys)

-- n times d is d everywhere
pub blank-get : {A : Type 0} (n i : ℕ) (d : A) → get_or (replicate n d) i d ≡ d
blank-get zero i d = refl
blank-get (suc n) zero d = refl
blank-get (suc n) (suc i) d = blank-get n i d

-- put over n times d, a list is what it is
pub over-blank : {A : Type 0} (xs : List A) (n i : ℕ) (d : A) → length xs ≤ n → get_or (over xs (replicate n d)) i d ≡ get_or xs i d
unfolding over
over-blank [] n i d h = blank-get n i d
over-blank (x ∷ xs) zero i d h = absurd (not-suc-le-zero h)
over-blank (x ∷ xs) (suc n) zero d h = refl
over-blank (x ∷ xs) (suc n) (suc i) d h = over-blank xs n i d (le_of_suc-le-suc h)

-- ---- values put into places

-- there are as many places as values
places-length : (vs : List Value) → length (map place vs) ≡ length vs
places-length [] = refl
places-length (v ∷ vs) = ap suc (places-length vs)

-- each holds its value
places-get : (vs : List Value) (i : ℕ) → get_or (map place vs) i (place Value.Empty) ≡ place (get_or vs i Value.Empty)
places-get [] i = refl
places-get (v ∷ vs) zero = refl
places-get (v ∷ vs) (suc i) = places-get vs i

-- ---- the frame of a call of W with the values vs

-- it has the numbers of W
pub frame-function : (W : Version) (vs : List Value) → (frame_for W vs).function ≡ W.function
unfolding frame_for
frame-function W vs = refl

-- both of them
pub frame-version : (W : Version) (vs : List Value) → (frame_for W vs).version ≡ W.version
unfolding frame_for
frame-version W vs = refl

-- it has all its places
pub frame-whole : (W : Version) (vs : List Value) → Whole (frame_for W vs)
unfolding frame_for
frame-whole W vs = record { registers = over-length (map place vs) (replicate REGISTERS (place Value.Empty)) ∙ length-replicate REGISTERS (place Value.Empty); names = length-replicate NAMES (place Value.Empty) }

-- its cells hold the values, and the others nothing
pub frame-cell : (W : Version) (vs : List Value) (c : ℕ) → length vs ≤ REGISTERS → cell (frame_for W vs) c ≡ get_or vs c Value.Empty
unfolding frame_for cell
frame-cell W vs c h = go (ltb c REGISTERS) refl
  where
    go : (b : Bool) → ltb c REGISTERS ≡ b → cell (frame_for W vs) c ≡ get_or vs c Value.Empty
    go true e = rw e (ap (λ (p : Place). p.value) (over-blank (map place vs) REGISTERS c (place Value.Empty) (omega (arith, places-length vs)) ∙ places-get vs c))
    go false e = rw e (ap (λ (p : Place). p.value) (blank-get NAMES (c - REGISTERS) (place Value.Empty)) ∙ sym (get_or-eq_default vs Value.Empty {n = c} (omega (arith, ltb-false c REGISTERS e))))

-- ---- the body of a version at its first instruction

-- a call stands at the start of its body, where its parameters are full; nothing is captured yet
pub body-stands : (P : Program) (K : ℕ → ℕ → Bool) (fs : List Frame) (f : ℕ) → Checked P (version_at P fs f) → ((r : ℕ) → r < (version_at P fs f).parameters → is_full (cell_at fs f r) ≡ true) → ((r : ℕ) → K f r ≡ false) → Stands P K fs top f 0 0
unfolding block_at Gets Keeps
body-stands P K fs f ck full none_kept = record {
  action = a.body;
  does = record { there = get-some (version_at P fs f).blocks 0 no_block (limited P (version_at P fs f) ck).body; does = a.is_body };
  inside = omega arith;
  done = record { R = ∅; W = ∅; U = ∅; C = ∅ };
  is-done = at_first P (version_at P fs f) 0 (block_at (version_at P fs f) 0);
  ready = λ r h u _. inr (full r (read r h));
  keeps = λ r. none_kept r ∙ sym (has-empty 16 r);
  gets = tt;
}
  where
    a : Flowing P (version_at P fs f)
    a = flows-body P (version_at P fs f) ck.flow.of_version

    read : (r : ℕ) → (has a.body.R r ≡ true) ⊎ (has ∅ r ≡ true) → r < (version_at P fs f).parameters
    read r (inl h) = a.within r h
    read r (inr h) = clash h (has-empty 16 r)
