-- 02, 5, of a run in several parts: each step and budget is the same, so every list of them is.
use mathlib.Core.Path.{◌≡◌, refl, sym, ap, ap₂, ◌∙◌}
use mathlib.Core.Logic.{◌⊎◌, inl, inr}
use mathlib.Core.List.{List, [], ◌∷◌}
use Prim.Native.Nat.{ℕ, ◌≤◌}
use native.Mathlib.Omega.{arith}
use Rattle.layout.specs.Records.{records}
use Rattle.layout.specs.Forms.{moved}
use Rattle.layout.specs.declared.Form.{Form}
use Rattle.program.specs.Program.{Program, program_by}
use Rattle.checker.specs.Verdicts.{verdict_in}
use Rattle.machine.specs.Values.{NARROW-RANGE, RANGE}
use Rattle.machine.specs.Runs.{step_of_to, buffer_of}
use Rattle.machine.specs.Begin.{begin_after, begin_of, entered_of, program_of}
use Rattle.machine.specs.Events.{Reply, said, gave}
use Rattle.machine.specs.declared.End.{End}
use Rattle.machine.specs.declared.Ran.{Ran}
use Rattle.machine.specs.declared.Said.{Said}
use Rattle.machine.specs.declared.State.{State}
use Rattle.machine.specs.declared.Stepped.{Stepped}
use Rattle.runs.specs.Alike.{AllAlike}
use Rattle.runs.specs.Wider.{Defined, AllDefined, FormsAlike, WiderStep, WiderBudget}
use Rattle.runs.specs.Driven.{Drive, one, many, left_to, told_to, last_to, all_told_to, WiderDrives, SixtyFourWhole}
use Rattle.runs.proofs.Alike.{entered-alike}
use Rattle.runs.proofs.SixtyFour.{both-forms-alike}
use Rattle.runs.proofs.WiderRuns.{wider-step, wider-budget}

module _ (R S : ℕ) (wider : R ≤ S) (P Q : Program) (A : AllAlike P Q) where
  -- one of them: what it says and what it leaves
  drive-same : (d : Drive) (s : State) → Defined (told_to R P d s) → (told_to S Q d s ≡ told_to R P d s) × (left_to S Q d s ≡ left_to R P d s)
  unfolding told_to left_to Defined WiderStep WiderBudget
  drive-same one s u = go (wider-step R S wider P Q A s)
    where
      go : (step_of_to R P s ≡ step_of_to S Q s) ⊎ ((step_of_to R P s).said ≡ Said.Ended End.Undef) → (said (step_of_to S Q s).said ≡ said (step_of_to R P s).said) × ((step_of_to S Q s).state ≡ (step_of_to R P s).state)
      go (inl e) = (ap (λ (x : Stepped). said x.said) (sym e), ap (λ (x : Stepped). x.state) (sym e))
      go (inr e) = absurd (u e)
  drive-same (many n buffer) s u =
      let e = wider-budget R S wider P Q A s n buffer u in
      (ap (λ (x : Ran). gave x.answer x.steps (buffer_of x buffer)) e, ap (λ (x : Ran). x.state) e)

  drives-same : (ds : List Drive) (s : State) → AllDefined (all_told_to R P ds s) → (all_told_to S Q ds s ≡ all_told_to R P ds s) × (last_to S Q ds s ≡ last_to R P ds s)
  unfolding all_told_to last_to AllDefined
  drives-same [] s u = (refl, refl)
  drives-same (d ∷ ds) s u =
      let h = drive-same d s u.0 in
      let t = drives-same ds (left_to R P d s) u.1 in
      (ap₂ (λ (a : Reply) (x : State). a ∷ all_told_to S Q ds x) h.0 h.1 ∙ ap (λ (rs : List Reply). told_to R P d s ∷ rs) t.0, ap (last_to S Q ds) h.1 ∙ t.1)

-- THE LAW: a list of steps and budgets
pub wider-drives : WiderDrives
unfolding WiderDrives
wider-drives = drives-same

-- THE SENTENCE of 02, 5, for a run in any parts
pub sixty-four-whole : SixtyFourWhole
unfolding SixtyFourWhole FormsAlike begin_of begin_after
sixty-four-whole image bytes n m old new level f v words buffer = (begun, λ ds u. drives-same NARROW-RANGE RANGE (omega arith) P Q A ds _ u)
  where
    P : Program
    P = program_by Form.Narrow (records image)

    Q : Program
    Q = program_of (moved Form.Narrow (records image))

    A : AllAlike P Q
    A = both-forms-alike image bytes n old

    before : begin_after (verdict_in Form.Narrow image) P level f v words buffer ≡ entered_of P level f v words buffer
    before = rw old refl

    later : begin_of (moved Form.Narrow (records image)) level f v words buffer ≡ entered_of Q level f v words buffer
    later = rw new refl

    begun : begin_of (moved Form.Narrow (records image)) level f v words buffer ≡ begin_after (verdict_in Form.Narrow image) P level f v words buffer
    begun = later ∙ sym (entered-alike P Q A level f v words buffer) ∙ sym before
