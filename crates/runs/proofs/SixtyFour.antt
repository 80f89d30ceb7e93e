-- 02, 5: an accepted image and its bytes with each literal of 64 bits have the same runs but where the old range ends in UNDEF.
use Rattle.std.specs.Prelude.{Ok, Err}
use mathlib.Core.Path.{◌≡◌, refl, sym, ap, ◌∙◌, subst}
use mathlib.Core.Logic.{◌≢◌}
use mathlib.Core.List.{List}
use Prim.Native.Nat.{ℕ, ◌<◌}
use native.Mathlib.Omega.{arith}
use lib.IntN.{ℤ}
use lib.ListN.{length}
use Rattle.layout.specs.Records.{◌!◌, records}
use Rattle.layout.specs.Forms.{moved}
use Rattle.layout.specs.declared.Form.{Form}
use Rattle.program.specs.Program.{Program, program_by}
use Rattle.checker.specs.Verdicts.{verdict_in}
use Rattle.checker.proofs.Accepted.{passed}
use Rattle.machine.specs.Values.{NARROW-RANGE, RANGE}
use Rattle.machine.specs.Begin.{begin_after, begin_of, entered_of, program_of, run_after_to, run_of, run_of_to}
use Rattle.machine.specs.declared.Answer.{Answer}
use Rattle.machine.specs.declared.Begun.{Begun}
use Rattle.machine.specs.declared.End.{End}
use Rattle.machine.specs.declared.Ran.{Ran}
use Rattle.machine.specs.declared.State.{State}
use Rattle.runs.specs.Alike.{AllAlike}
use Rattle.runs.specs.Wider.{FormsAlike, WiderBudget, run_before, SixtyFour}
use Rattle.runs.proofs.Alike.{entered-alike}
use Rattle.runs.proofs.Moved.{all_known, records-wider}
use Rattle.runs.proofs.WiderRuns.{wider-budget}
use Rattle.runs.proofs.Widened.{Widened, forms-alike}
use Rattle.machine.specs.Denials.{Grant}

-- the records of an accepted image in both forms
pub new-records : (image : List ℕ) → ((i : ℕ) → image ! i < 256) → (n : ℕ) → verdict_in Form.Narrow image ≡ Ok n → Widened (records image) (records (moved Form.Narrow (records image)))
new-records image bytes n old = let a = passed image n old in records-wider (records image) (all_known Form.Narrow image bytes a.q2 a.q3)

-- ---- runs from the start

module _ (P Q : Program) (A : AllAlike P Q) (n : ℕ) (buffer : List ℤ) where
  started-same : (b : Begun) → (run_after_to NARROW-RANGE b.entry P b.state n buffer).answer ≢ Answer.Ended End.Undef → run_after_to RANGE b.entry Q b.state n buffer ≡ run_after_to NARROW-RANGE b.entry P b.state n buffer
  unfolding run_after_to WiderBudget
  started-same b = go b.entry b.state
    where
      go : (e : Grant) (s : State) → (run_after_to NARROW-RANGE e P s n buffer).answer ≢ Answer.Ended End.Undef → run_after_to RANGE e Q s n buffer ≡ run_after_to NARROW-RANGE e P s n buffer
      go (Err why) s u = refl
      go (Ok _) s u = wider-budget NARROW-RANGE RANGE (omega arith) P Q A s n buffer u

-- the programs of both forms
pub both-forms-alike : FormsAlike
unfolding FormsAlike
both-forms-alike image bytes n old = forms-alike (records image) (records (moved Form.Narrow (records image))) (new-records image bytes n old) (length image) (passed image n old).q4

-- THE SENTENCE of 02, 5
pub sixty-four : SixtyFour
unfolding SixtyFour FormsAlike run_before run_of_to begin_of begin_after
sixty-four image bytes n m old new level f v words budget buffer u =
    sym-run (started-same P Q A budget buffer (entered_of P level f v words buffer) (subst (λ (r : Ran). r.answer ≢ Answer.Ended End.Undef) before u))
  where
    P : Program
    P = program_by Form.Narrow (records image)

    Q : Program
    Q = program_of (moved Form.Narrow (records image))

    A : AllAlike P Q
    A = both-forms-alike image bytes n old

    first : ℕ → Program → Begun → Ran
    first R X b = run_after_to R b.entry X b.state budget buffer

    before : run_before image level f v words budget buffer ≡ first NARROW-RANGE P (entered_of P level f v words buffer)
    before = rw old refl

    after : run_of (moved Form.Narrow (records image)) level f v words budget buffer ≡ first RANGE Q (entered_of Q level f v words buffer)
    after = rw new refl

    sym-run : first RANGE Q (entered_of P level f v words buffer) ≡ first NARROW-RANGE P (entered_of P level f v words buffer) → run_of (moved Form.Narrow (records image)) level f v words budget buffer ≡ run_before image level f v words budget buffer
    sym-run e = after ∙ ap (first RANGE Q) (sym (entered-alike P Q A level f v words buffer)) ∙ e ∙ sym before
