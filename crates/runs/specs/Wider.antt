-- 02, 5: a run that in the old range ends otherwise than in UNDEF has the same result and steps in the new one, once each literal of its image is kind 36: the statements alone.
use Rattle.std.specs.Prelude.{◌≡◌, ◌≢◌, ◌⊎◌, List, [], ◌∷◌, ℕ, ◌≤◌, ◌<◌, ℤ, length, Ok}
use Rattle.layout.specs.Bounds.{IMAGE}
use Rattle.layout.specs.Records.{◌!◌, records}
use Rattle.layout.specs.Forms.{moved}
use Rattle.layout.specs.declared.Form.{Form}
use Rattle.program.specs.Program.{Program, program_by}
use Rattle.checker.specs.Verdicts.{verdict_in, verdict_of}
use Rattle.machine.specs.Values.{NARROW-RANGE}
use Rattle.machine.specs.Runs.{step_of_to, budget_of_to}
use Rattle.machine.specs.Begin.{begin_after, run_after_to, run_of}
use Rattle.machine.specs.Events.{Run, Event, Reply, said, gave, became, after_to, replies_to}
use Rattle.machine.specs.declared.Answer.{Answer}
use Rattle.machine.specs.declared.End.{End}
use Rattle.machine.specs.declared.Ran.{Ran}
use Rattle.machine.specs.declared.Said.{Said}
use Rattle.machine.specs.declared.State.{State}
use Rattle.runs.specs.Alike.{AllAlike}

-- ---- programs alike but for offsets, the second in a range that is no narrower

-- one step, from every state: the same, or UNDEF in the first range
unfoldable pub WiderStep : Type 0
WiderStep = (R S : ℕ) → R ≤ S → (P Q : Program) → AllAlike P Q → (s : State) → (step_of_to R P s ≡ step_of_to S Q s) ⊎ ((step_of_to R P s).said ≡ Said.Ended End.Undef)

-- a budget that in the first range does not answer UNDEF is the same in the second: state, answer and steps
unfoldable pub WiderBudget : Type 0
WiderBudget =
    (R S : ℕ) → R ≤ S → (P Q : Program) → AllAlike P Q → (s : State) (n : ℕ) (buffer : List ℤ)
    → (budget_of_to R P s n buffer).answer ≢ Answer.Ended End.Undef → budget_of_to S Q s n buffer ≡ budget_of_to R P s n buffer

-- ---- lists of events

-- a reply that does not say UNDEF
unfoldable pub Defined : Reply → Type 0
Defined (said d) = d ≢ Said.Ended End.Undef
Defined (gave a n buffer) = a ≢ Answer.Ended End.Undef
Defined (became c) = Unit {0}

-- none of them says it
unfoldable pub AllDefined : List Reply → Type 0
AllDefined [] = Unit {0}
AllDefined (r ∷ rs) = Defined r × AllDefined rs

-- steps, budgets and changes none of which says UNDEF in a range: the same replies and the same run in every wider one
unfoldable pub WiderEvents : Type 0
WiderEvents = (R S : ℕ) → R ≤ S → (es : List Event) (r : Run) → AllDefined (replies_to R es r) → (replies_to S es r ≡ replies_to R es r) × (after_to S es r ≡ after_to R es r)

-- ---- an image in both forms

-- a run from the start as it was before: an image of the 32-bit form, integers in the narrow range
unfoldable pub run_before : List ℕ → ℕ → ℕ → ℕ → List ℤ → ℕ → List ℤ → Ran
run_before image level f v words n buffer =
    let P = program_by Form.Narrow (records image) in
    let b = begin_after (verdict_in Form.Narrow image) P level f v words buffer in
    run_after_to NARROW-RANGE b.entry P b.state n buffer

-- its programs in both forms are the same but for offsets, so that `WiderStep` and `WiderBudget` speak of every later step and budget too
unfoldable pub FormsAlike : Type 0
FormsAlike =
    (image : List ℕ) → ((i : ℕ) → image ! i < 256) → (n : ℕ) → verdict_in Form.Narrow image ≡ Ok n
    → AllAlike (program_by Form.Narrow (records image)) (program_by Form.Wide (records (moved Form.Narrow (records image))))

-- A run that under the old range ended otherwise than in UNDEF, or did not end in its budget, has the same result and steps once each
-- literal of its image is kind 36, where the longer image is accepted.
unfoldable pub SixtyFour : Type 0
SixtyFour =
    (image : List ℕ) → ((i : ℕ) → image ! i < 256) → (n m : ℕ) → verdict_in Form.Narrow image ≡ Ok n
    → let new = moved Form.Narrow (records image) in verdict_of new ≡ Ok m
    → (level f v : ℕ) (words : List ℤ) (budget : ℕ) (buffer : List ℤ)
    → (run_before image level f v words budget buffer).answer ≢ Answer.Ended End.Undef
    → run_of new level f v words budget buffer ≡ run_before image level f v words budget buffer

-- It is accepted where it is not too long, with as many versions
unfoldable pub LongerAccepted : Type 0
LongerAccepted =
    (image : List ℕ) → ((i : ℕ) → image ! i < 256) → (n : ℕ) → verdict_in Form.Narrow image ≡ Ok n
    → let new = moved Form.Narrow (records image) in length new ≤ IMAGE → verdict_of new ≡ Ok n
