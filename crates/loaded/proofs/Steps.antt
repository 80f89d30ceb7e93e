-- Where a run stands by the loaded form: what the look-ups of its top activation do not find is not there.
use Rattle.std.specs.Prelude.{None, Some}
use mathlib.Core.Path.{◌≡◌, refl}
use mathlib.Core.List.{List}
use Prim.Native.Nat.{ℕ, ◌-◌}
use lib.ListN.{get_elem?}
use Rattle.program.specs.Program.{find_version}
use Rattle.machine.specs.Try.{got, stuck, ◌>>=◌, at, or_stuck}
use Rattle.machine.specs.States.{live_activations, live_frames}
use Rattle.machine.specs.Steps.{here}
use Rattle.machine.specs.declared.Activation.{Activation}
use Rattle.machine.specs.declared.Frame.{Frame}
use Rattle.machine.specs.declared.State.{State}
use Rattle.loaded.specs.Loaded.{program_in, version_in}
use Rattle.loaded.specs.Answers.{block_of, version_of}

module _ (s t : List ℕ) (x : State) (a : Activation) (f : Frame) (top : at (live_activations x) (x.depth - 1) ≡ got a) (framed : at (live_frames x) a.frame ≡ got f) where
  pub no-version : version_of s t None ≡ find_version (program_in s t) f.function f.version → here (program_in s t) x ≡ stuck
  unfolding here version_of or_stuck ◌>>=◌
  no-version v = rw (top, framed, ← v) refl

  pub no_block : (k : ℕ) → version_of s t (Some k) ≡ find_version (program_in s t) f.function f.version → block_of s t None ≡ get_elem? (version_in s t k).blocks a.block
      → here (program_in s t) x ≡ stuck
  unfolding here version_of block_of at or_stuck ◌>>=◌
  no_block k v b = rw (top, framed, ← v, ← b) refl
