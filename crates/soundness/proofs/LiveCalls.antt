-- The versions and frames of live calls.
use mathlib.Core.Path.{◌≡◌, refl, sym, ◌∙◌}
use mathlib.Core.List.{List, [], ◌∷◌}
use mathlib.Core.Bool.{Bool}
use mathlib.Core.Option.{some}
use Prim.Native.Nat.{ℕ, ◌<◌}
use native.Mathlib.Omega.{arith}
use lib.ListN.{length, get_or, get_elem?}
use Rattle.program.specs.Program.{Block, Version, Program, first_mark, mark_of}
use Rattle.checker.proofs.Accepted.{Checked}
use Rattle.machine.specs.States.{live_frames}
use Rattle.machine.specs.declared.Frame.{Frame}
use Rattle.machine.specs.declared.Promise.{Promise}
use Rattle.machine.specs.declared.State.{State}
use Rattle.layout.proofs.Lists.{get_in, get_take, take_in}
use Rattle.soundness.proofs.Cells.{no_frame, frame_at}
use Rattle.soundness.proofs.Invariant.{Sure, version_at, block_at, no_block, Heap}

-- a version's mark is that of its body
pub mark-is : (v : Version) → 0 < length v.blocks → (block_at v 0).mark ≡ mark_of v
unfolding block_at first_mark
mark-is v h = go v.blocks h
  where
    go : (bs : List Block) → 0 < length bs → (get_or bs 0 no_block).mark ≡ first_mark bs
    go [] g = absurd (omega arith)
    go (b ∷ bs) g = refl

-- ---- live calls

-- a live call has its frame at its place
pub live-frame : (s : State) (k : ℕ) (f : Frame) → get_elem? (live_frames s) k ≡ some f → (k < s.calls) × (frame_at s.frames k ≡ f)
unfolding live_frames frame_at
live-frame s k f e = let h = take_in s.frames s.calls k f e in (h, (get_in s.frames k no_frame f (sym (get_take s.frames s.calls k h) ∙ e)).1)

-- the version at a live frame is checked
pub live-checked : (P : Program) → Sure P → {K : ℕ → ℕ → Bool} (fs : List Frame) (n : ℕ) (ps : List Promise) → Heap P K fs n ps → (k : ℕ) → k < n → Checked P (version_at P fs k)
live-checked P sure fs n ps H k h = sure _ _ _ (H.known k h)
