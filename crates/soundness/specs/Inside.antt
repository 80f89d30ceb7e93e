-- 01, "Stuck": a state that points outside itself or its image. No begun run comes to one: the statement alone.
use Rattle.std.specs.Prelude.{◌≡◌, ℕ, ◌≤◌, ℤ, length, Ok}
use mathlib.Core.List.{List, Memᴰ}
use Rattle.std.proofs.Math.Option.{some}
use Rattle.std.proofs.Math.ListN.{get_elem?}
use Rattle.program.specs.Program.{Block, Version, Program}
use Rattle.machine.specs.Try.{got}
use Rattle.machine.specs.States.{kind_in, live_activations, register, named}
use Rattle.machine.specs.Begin.{begin_of}
use Rattle.machine.specs.Events.{Run, Event, program_in, after, history}
use Rattle.machine.specs.declared.Activation.{Activation}
use Rattle.machine.specs.declared.Frame.{Frame}
use Rattle.machine.specs.declared.State.{State}
use Rattle.machine.specs.declared.Status.{Status}
use Rattle.machine.specs.declared.Value.{Value}
use Rattle.soundness.specs.Claim.{Live, entered, begun}

-- nothing, or a value that is there: it has a kind
pub data There (P : Program) (s : State) : Value → Type 0 where
  nothing : There P s Value.Empty
  present : (v : Value) (k : ℕ) → kind_in P s v ≡ got k → There P s v

-- an activation is of a live call, whose version has its block, and stands at an instruction of it or at its end
pub record Standing (P : Program) (s : State) (a : Activation) : Type 0 where
  pub frame : Frame
  pub version : Version
  pub block : Block
  pub live : Live s a.frame frame
  pub found : entered P frame ≡ some version
  pub has : get_elem? version.blocks a.block ≡ some block
  pub inside : a.next ≤ length block.code

-- all that registers and names of live calls refer to is there, and so is, while the run goes on, the place of each activation, of those that wait too
pub record Inside (r : Run) : Type 0 where
  pub registers : (k i : ℕ) (f : Frame) (v : Value) → Live r.state k f → register f i ≡ got v → There (program_in r) r.state v
  pub names : (k i : ℕ) (f : Frame) (v : Value) → Live r.state k f → named f i ≡ got v → There (program_in r) r.state v
  pub activations : r.state.status ≡ Status.Running → (i : ℕ) (a : Activation) → get_elem? (live_activations r.state) i ≡ some a → Standing (program_in r) r.state a

-- after every list of events of every begun run, and wherever a step was tried: a step that asked for all of these, and not only for what it needs, would be stuck in none of them either
unfoldable pub NeverOutside : Type 0
NeverOutside =
    (image : List ℕ) (level f v : ℕ) (words buffer : List ℤ) → (begin_of image level f v words buffer).entry ≡ Ok tt
    → (events : List Event) → let r = begun image level f v words buffer in Inside (after events r) × ((b : Run) → Memᴰ b (history events r) → Inside b)
