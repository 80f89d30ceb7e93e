-- 02, 5, of a run in several parts: lists of single steps and budgets over a program, in two ranges. The statements alone.
use Rattle.std.specs.Prelude.{◌≡◌, List, [], ◌∷◌, ℕ, ◌≤◌, ◌<◌, ℤ, Ok}
use Rattle.layout.specs.Records.{◌!◌, records}
use Rattle.layout.specs.Forms.{moved}
use Rattle.layout.specs.declared.Form.{Form}
use Rattle.program.specs.Program.{Program, program_by}
use Rattle.checker.specs.Verdicts.{verdict_in, verdict_of}
use Rattle.machine.specs.Values.{NARROW-RANGE, RANGE}
use Rattle.machine.specs.Runs.{step_of_to, budget_of_to, buffer_of}
use Rattle.machine.specs.Begin.{begin_after, begin_of, program_of}
use Rattle.machine.specs.Events.{Reply, said, gave}
use Rattle.machine.specs.declared.State.{State}
use Rattle.runs.specs.Alike.{AllAlike}
use Rattle.runs.specs.Wider.{AllDefined}

-- a single step, or a budget with a lent buffer
pub data Drive : Type 0 where
  one : Drive
  many : ℕ → List ℤ → Drive

-- the state that it leaves, over a program, with integers in the range R
unfoldable pub left_to : ℕ → Program → Drive → State → State
left_to R P one s = (step_of_to R P s).state
left_to R P (many n buffer) s = (budget_of_to R P s n buffer).state

-- what it says
unfoldable pub told_to : ℕ → Program → Drive → State → Reply
told_to R P one s = said (step_of_to R P s).said
told_to R P (many n buffer) s = let b = budget_of_to R P s n buffer in gave b.answer b.steps (buffer_of b buffer)

-- the state after a list of them, each handed what the one before left
unfoldable pub last_to : ℕ → Program → List Drive → State → State
last_to R P [] s = s
last_to R P (d ∷ ds) s = last_to R P ds (left_to R P d s)

-- what they say, in order
unfoldable pub all_told_to : ℕ → Program → List Drive → State → List Reply
all_told_to R P [] s = []
all_told_to R P (d ∷ ds) s = told_to R P d s ∷ all_told_to R P ds (left_to R P d s)

-- steps and budgets none of which says UNDEF in a range say the same, and leave the same state, in every wider one, over a program that is alike but for offsets
unfoldable pub WiderDrives : Type 0
WiderDrives =
    (R S : ℕ) → R ≤ S → (P Q : Program) → AllAlike P Q → (ds : List Drive) (s : State) → AllDefined (all_told_to R P ds s)
    → (all_told_to S Q ds s ≡ all_told_to R P ds s) × (last_to S Q ds s ≡ last_to R P ds s)

-- A run of an image of the 32-bit form, by any steps and budgets none of which ended in UNDEF, is begun in the same state, says the same
-- and leaves the same state once each literal is kind 36, where the longer image is accepted
unfoldable pub SixtyFourWhole : Type 0
SixtyFourWhole =
    (image : List ℕ) → ((i : ℕ) → image ! i < 256) → (n m : ℕ) → verdict_in Form.Narrow image ≡ Ok n
    → let new = moved Form.Narrow (records image) in verdict_of new ≡ Ok m
    → (level f v : ℕ) (words buffer : List ℤ)
    → let P = program_by Form.Narrow (records image) in let b = begin_after (verdict_in Form.Narrow image) P level f v words buffer in
    (begin_of new level f v words buffer ≡ b)
    × ((ds : List Drive) → AllDefined (all_told_to NARROW-RANGE P ds b.state)
    → (all_told_to RANGE (program_of new) ds b.state ≡ all_told_to NARROW-RANGE P ds b.state) × (last_to RANGE (program_of new) ds b.state ≡ last_to NARROW-RANGE P ds b.state))
