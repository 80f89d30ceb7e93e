-- Lists of steps, budgets and changes: the image in force is accepted and the state has the invariant, after each event and wherever a step was tried.
use Rattle.std.specs.Prelude.{Err, Ok}
use mathlib.Core.Path.{◌≡◌, refl}
use mathlib.Core.List.{List}
use Prim.Native.Nat.{ℕ}
use lib.IntN.{ℤ}
use Rattle.checker.specs.Verdicts.{verdict_of, Verdict}
use Rattle.checker.proofs.Accepted.{checked}
use Rattle.machine.specs.Begin.{refused, begin_after, begin_of, program_of}
use Rattle.machine.specs.Changes.{change_of}
use Rattle.machine.specs.Events.{Run, Event, program_in, in_state, handle, after, history}
use Rattle.machine.specs.Runs.{step_of}
use Rattle.runs.proofs.Always.{All, handle-keeps, after-keeps, history-keeps}
use Rattle.runs.proofs.Lives.{refused-begun}
use Rattle.soundness.specs.Claim.{begun}
use Rattle.soundness.proofs.Invariant.{Sure, Inv}
use Rattle.soundness.proofs.Closing.{StepSafe, step_keeps}
use Rattle.soundness.proofs.Safety.{step-safe}
use Rattle.soundness.proofs.Start.{begun-inv}
use Rattle.soundness.proofs.Taken.{taken-passed, agrees}
use Rattle.soundness.proofs.Transfer.{transfer}

-- a run whose image is accepted, and whose state has the invariant
pub record Sound (r : Run) : Type 0 where
  pub versions : ℕ
  pub verdict : verdict_of r.image ≡ Ok versions
  pub inv : Inv (program_in r) r.state

pub sure-of : (r : Run) → Sound r → Sure (program_in r)
sure-of r o = checked r.image o.versions o.verdict

pub safe-of : (r : Run) → Sound r → StepSafe (program_in r)
safe-of r o = step-safe (program_in r) (sure-of r o)

-- ---- what an event keeps

-- a step
pub sound-step : (r : Run) → Sound r → Sound (in_state r (step_of (program_in r) r.state).state)
sound-step r o = record { versions = o.versions; verdict = o.verdict; inv = step_keeps (program_in r) (safe-of r o) r.state o.inv }

-- a change that is taken
pub sound-taken : (new : List ℕ) (r : Run) → Sound r → change_of r.image new r.state ≡ Ok tt → Sound (record { image = new; state = r.state })
sound-taken new r o e =
    let p = taken-passed r.image new r.state e in
    record {
      versions = p.versions;
      verdict = p.verdict;
      inv = transfer (program_in r) (program_of new) (sure-of r o) (checked new p.versions p.verdict) r.state (agrees r.image new o.versions o.verdict r.state p o.inv) o.inv;
    }

-- so does each event, and every list of them
pub handle-sound : (e : Event) (r : Run) → Sound r → Sound (handle e r).run
handle-sound = handle-keeps Sound sound-step sound-taken

pub after-sound : (es : List Event) (r : Run) → Sound r → Sound (after es r)
after-sound = after-keeps Sound sound-step sound-taken

-- also wherever a step was tried
pub history-sound : (es : List Event) (r : Run) → Sound r → All Sound (history es r)
history-sound = history-keeps Sound sound-step sound-taken

-- ---- at the start: an image whose run has begun is accepted

pub begun-sound : (image : List ℕ) (level f v : ℕ) (words buffer : List ℤ) → (begin_of image level f v words buffer).entry ≡ Ok tt → Sound (begun image level f v words buffer)
unfolding begin_of begin_after refused
begun-sound image level f v words buffer h = go (verdict_of image) refl h
  where
    go : (a : Verdict) → verdict_of image ≡ a → (begin_after a (program_of image) level f v words buffer).entry ≡ Ok tt → Sound (record { image = image; state = (begin_after a (program_of image) level f v words buffer).state })
    go (Err why) e g = absurd (refused-begun why.question why.at g)
    go (Ok n) e g = record { versions = n; verdict = e; inv = begun-inv (program_of image) (checked image n e) level f v words buffer g }
