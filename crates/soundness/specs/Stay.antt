-- A change leaves each live call the version that it entered: the statement.
use Rattle.std.specs.Prelude.{◌≡◌, ℕ, ◌<◌, ℤ, Ok}
use mathlib.Core.List.{List, Memᴰ}
use Rattle.std.proofs.Math.Option.{some}
use Rattle.program.specs.Program.{Version, find_version}
use Rattle.machine.specs.Begin.{begin_of, program_of}
use Rattle.machine.specs.Changes.{change_of}
use Rattle.machine.specs.Events.{Run, Event, program_in, after, history}
use Rattle.machine.specs.declared.Frame.{Frame}
use Rattle.runs.specs.Alike.{Alike}
use Rattle.runs.specs.Lives.{call_at}
use Rattle.soundness.specs.Claim.{Live, entered, begun}

-- Where a change to the image `new` is taken, after any list of events of a begun run, each live call's version is in both images, and alike: all but the offsets of its records
unfoldable pub Stay : Type 0
Stay =
    (image : List ℕ) (level f v : ℕ) (words buffer : List ℤ) → (begin_of image level f v words buffer).entry ≡ Ok tt
    → (events : List Event) (new : List ℕ) → let r = after events (begun image level f v words buffer) in change_of r.image new r.state ≡ Ok tt
    → (k : ℕ) (g : Frame) → Live r.state k g → (U : Version) × (W : Version) × (entered (program_in r) g ≡ some U) × (entered (program_of new) g ≡ some W) × Alike U W

-- And so for any number of changes: a call that stays live through a list of events, in every state in which a step was tried and at
-- the end, keeps its numbers, and its version is alike under the image in force before and after them. So the mark that it is judged by
-- is that of the version entered
unfoldable pub StayLong : Type 0
StayLong =
    (image : List ℕ) (level f v : ℕ) (words buffer : List ℤ) → (begin_of image level f v words buffer).entry ≡ Ok tt
    → (before later : List Event) → let r = after before (begun image level f v words buffer) in let t = after later r in (k g w : ℕ) → call_at r.state k ≡ some (g, w)
    → ((b : Run) → Memᴰ b (history later r) → k < b.state.calls) → k < t.state.calls
    → (call_at t.state k ≡ some (g, w)) × (U : Version) × (W : Version) × (find_version (program_in r) g w ≡ some U) × (find_version (program_in t) g w ≡ some W) × Alike U W
