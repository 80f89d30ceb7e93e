-- What an instruction does in a version of a program, as far as its code is told of them.
use Rattle.std.specs.Prelude.{List, ◌≡◌, Bool, ℕ, ℤ, Option, Some, None}
use Rattle.program.specs.Program.{Instr, Program, Version}
use Rattle.rules.specs.Types.{kind_of, within}
use Rattle.machine.specs.States.{kind_in, value}
use Rattle.machine.specs.Steps.{execute}
use Rattle.machine.specs.Try.{Try, got, stuck, ◌>>=◌, at}
use Rattle.machine.specs.declared.Frame.{Frame}
use Rattle.machine.specs.declared.State.{State}
use Rattle.store.specs.declared.Did.{Did}
use Rattle.store.specs.Store.{state_in, frame_in}
use Rattle.store.specs.Counts.{Ready}
use Rattle.store.specs.Acts.{Does}

-- the instruction i in the frame k, in each program and version of which T holds
abbrev pub ExecutesIf : (Program → Version → Type 0) → Did → List ℕ → List ℤ → List ℕ → List ℤ → List ℕ → ℕ → Instr → Type 0
ExecutesIf T r b n b' n' c' k i = ((P : Program) (W : Version) → T P W → Does r (execute P (state_in b n) k (frame_in b n k) W i) b n b' n') × Ready b' n' c'

-- is what the register a holds of a kind within that of the register d?
unfoldable pub typed_in : Program → Version → State → Frame → ℕ → ℕ → Try Bool
typed_in P W s f d a = do
  v ← value f a
  m ← kind_in P s v
  t ← at W.types d
  got (within m (kind_of t))

-- what the code is told of it
unfoldable pub typed_of : Option Bool → Try Bool
typed_of (Some fits) = got fits
typed_of None = stuck

-- the instruction i in the frame k, where the code is told whether its register a fits its register d
abbrev pub ExecutesTyped : Option Bool → Did → List ℕ → List ℤ → List ℕ → List ℤ → List ℕ → ℕ → ℕ → ℕ → Instr → Type 0
ExecutesTyped t r b n b' n' c' k d a i = ExecutesIf (λ P W. typed_in P W (state_in b n) (frame_in b n k) d a ≡ typed_of t) r b n b' n' c' k i
