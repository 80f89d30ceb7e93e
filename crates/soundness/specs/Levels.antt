-- Request 7 of paper 02: levels of staff, the statements alone.
use Rattle.std.specs.Prelude.{◌≡◌, ℕ, ◌≤◌, ℤ, Ok}
use mathlib.Core.List.{List, Memᴰ}
use Rattle.machine.specs.Begin.{run_level, begin_of, run_of}
use Rattle.machine.specs.Events.{Run, Event, program_in, after, history, replies}
use Rattle.runs.specs.Levels.{NoneAbove}
use Rattle.soundness.specs.Claim.{begun}

-- every live call of a run is at the level that the run states or below it, under the image in force
abbrev pub AtOrBelow : ℕ → Run → Type 0
AtOrBelow level r = NoneAbove (program_in r) (run_level level) r.state

-- No version above the run's level is ever entered: by no list of steps, budgets and changes of a begun run, neither in the run after it
-- nor wherever a step was tried, each under the image in force then
unfoldable pub NeverAbove : Type 0
NeverAbove =
    (image : List ℕ) (level f v : ℕ) (words buffer : List ℤ) → (begin_of image level f v words buffer).entry ≡ Ok tt
    → (events : List Event) → let r = begun image level f v words buffer in AtOrBelow level (after events r) × ((b : Run) → Memᴰ b (history events r) → AtOrBelow level b)

-- A run begun at one level is begun at each higher one, in the same state; no step, budget or change looks at the run's level, so all that follows is the same too
unfoldable pub SameAbove : Type 0
SameAbove =
    (image : List ℕ) (l m f v : ℕ) (words buffer : List ℤ) → l ≤ m → (begin_of image l f v words buffer).entry ≡ Ok tt
    → begin_of image m f v words buffer ≡ begin_of image l f v words buffer

-- its result, steps and last state under a first budget,
unfoldable pub SameResult : Type 0
SameResult =
    (image : List ℕ) (l m f v : ℕ) (words buffer : List ℤ) (n : ℕ) → l ≤ m → (begin_of image l f v words buffer).entry ≡ Ok tt
    → run_of image m f v words n buffer ≡ run_of image l f v words n buffer

-- and the replies to every list of events
unfoldable pub SameReplies : Type 0
SameReplies =
    (image : List ℕ) (l m f v : ℕ) (words buffer : List ℤ) → l ≤ m → (begin_of image l f v words buffer).entry ≡ Ok tt
    → (events : List Event) → replies events (begun image m f v words buffer) ≡ replies events (begun image l f v words buffer)
