-- Demand 3, that a change leaves each live call its version, and that DONE ends one call alone: for every list of events of every begun run.
use mathlib.Core.List.{List}
use Rattle.program.specs.Program.{Program}
use Rattle.machine.specs.Events.{Run, program_in, after, history}
use Rattle.machine.specs.declared.State.{State}
use Rattle.runs.proofs.Always.{All}
use Rattle.soundness.specs.Claim.{entered, Safe, begun, Demand3}
use Rattle.soundness.specs.LastCall.{LastCall}
use Rattle.soundness.specs.Stay.{Stay}
use Rattle.soundness.proofs.Invariant.{Sure, version_at}
use Rattle.soundness.proofs.Closing.{step-unstuck, live-known, register-typed, none_named, none-shared}
use Rattle.soundness.proofs.Quiet.{reflective-runs, none-quiet}
use Rattle.soundness.proofs.Safety.{one-call}
use Rattle.soundness.proofs.Taken.{taken-passed, live_alike}
use Rattle.soundness.proofs.Histories.{Sound, sure-of, safe-of, after-sound, history-sound, begun-sound}

-- what the claim says of a run that is sound, as every one in its history was
pub sound-safe : (h : List Run) (now : Run) → All Sound h → Sound now → Safe h now
sound-safe h now all last = record {
  known = λ k f l. (version_at P s.frames k, live-known P sure s last.inv k f l);
  typed = λ k i t f l d. register-typed P sure s last.inv k f l i t d;
  unstuck = λ b m. let x = all b m in step-unstuck (program_in b) (safe-of b x) b.state x.inv;
  unnamed = λ k i v w k' x f' l. none_named P sure s last.inv k i v w k' x f' l;
  owned = λ k i v w k' i' f' l e. none-shared P sure s last.inv k i v w k' i' f' l e;
  quiet = λ b m e k f l. let x = all b m in none-quiet (program_in b) (sure-of b x) b.state x.inv (reflective-runs (program_in b) b.state e) e k f l;
}
  where
    P : Program
    P = program_in now

    s : State
    s = now.state

    sure : Sure P
    sure = sure-of now last

-- DEMAND 3
pub demand3 : Demand3
unfolding Demand3
demand3 image level f v words buffer h events =
    let r = begun image level f v words buffer in
    let o = begun-sound image level f v words buffer h in
    sound-safe (history events r) (after events r) (history-sound events r o) (after-sound events r o)

-- THE LAW: a change that is taken leaves every live call the version that it entered
pub stay : Stay
unfolding Stay entered
stay image level f v words buffer h events new e k g l =
    let r = after events (begun image level f v words buffer) in
    let o = after-sound events (begun image level f v words buffer) (begun-sound image level f v words buffer h) in
    let W = version_at (program_in r) r.state.frames k in
    let y = live-known (program_in r) (sure-of r o) r.state o.inv k g l in
    let t = live_alike r.image new o.versions o.verdict r.state (taken-passed r.image new r.state e) k g W l y in
    (W, t.0, y, t.1, t.2)

-- THE LAW: in every state in which a step was tried, one activation means one call
pub last-call : LastCall
unfolding LastCall
last-call image level f v words buffer h events b m run d =
    one-call (program_in b) b.state (history-sound events (begun image level f v words buffer) (begun-sound image level f v words buffer h) b m).inv run d
