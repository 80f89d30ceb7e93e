-- 02, 12, how long at most: a run never takes more steps than a bound given for its entry; none exactly where a chain of dependence comes back. The statements alone.
use Rattle.std.specs.Prelude.{◌≡◌, Bool, true, false, cond, not, ℕ, suc, ◌+◌, ◌≤◌, ◌<◌, ℤ, Ok, Err}
use mathlib.Core.List.{List, [], ◌∷◌, Memᴰ}
use Rattle.std.proofs.Math.Option.{some}
use Rattle.program.specs.Program.{Version, Program, find_version}
use Rattle.checker.specs.Verdicts.{verdict_of}
use Rattle.machine.specs.Runs.{last_step, step_of, budget_of}
use Rattle.machine.specs.Begin.{begin_of, program_of}
use Rattle.machine.specs.Events.{Run, Event, single, budget, change, Reply, said, gave, became, program_in, handle, replies}
use Rattle.machine.specs.declared.Said.{Said}
use Rattle.machine.specs.declared.Status.{Status}
use Rattle.layout.specs.Tests.{all}
use Rattle.soundness.specs.Claim.{begun}
use Rattle.bounds.specs.Bounds.{dependencies, Row, same, is_listed, bounded, steps, unbounded, bound_of}

-- ---- steps taken

-- the steps that a single step takes, by the status before it and what it says: as a budget counts them, and 0 on an ended run
unfoldable pub taken : Status → Said → ℕ
taken (Status.Ended e) d = 0
taken Status.Running Said.GoesOn = 1
taken Status.Running (Said.Ended e) = last_step e
taken Status.Running Said.Stuck = 0

-- by one event; a change takes none
unfoldable pub taken_by : Event → Run → ℕ
taken_by single r = taken r.state.status (step_of (program_in r) r.state).said
taken_by (budget n buffer) r = (budget_of (program_in r) r.state n buffer).steps
taken_by (change new) r = 0

-- by a list of events, in all
unfoldable pub taken_in : List Event → Run → ℕ
taken_in [] r = 0
taken_in (e ∷ es) r = taken_by e r + taken_in es (handle e r).run

-- a change by 3) came: it was taken, and not refused
unfoldable pub is_taken : Reply → Bool
is_taken (said d) = false
is_taken (gave a n buffer) = false
is_taken (became (Ok _)) = true
is_taken (became (Err why)) = false

-- no change by 3) came between
unfoldable pub unchanged : List Event → Run → Bool
unchanged events r = all (λ (x : Reply). not (is_taken x)) (replies events r)

-- Shown for any arguments and budget, at any level, where no change by 3) came between: a run never takes more steps than a bound given for its entry
unfoldable pub AtMost : Type 0
AtMost =
    (image : List ℕ) (level f v : ℕ) (words buffer : List ℤ) → (begin_of image level f v words buffer).entry ≡ Ok tt
    → (W : Version) → find_version (program_of image) f v ≡ some W → (n : ℕ) → bound_of (program_of image) W ≡ steps n
    → (events : List Event) → let r = begun image level f v words buffer in unchanged events r ≡ true → taken_in events r ≤ n

-- ---- the order

-- how many rows stand before that of a version
unfoldable pub place_in : List Row → Version → ℕ
place_in [] v = 0
place_in (r ∷ rows) v = cond (same r.version v) 0 (suc (place_in rows v))

-- u depends on v
abbrev pub Depends : Program → Version → Version → Type 0
Depends P u v = Memᴰ v (dependencies P u)

-- Versions with a bound, or "large", are listed after those they depend on
unfoldable pub AfterThose : Type 0
AfterThose =
    (P : Program) (f w : ℕ) (u v : Version) → find_version P f w ≡ some u → is_listed (bounded P) u ≡ true → Depends P u v
    → (is_listed (bounded P) v ≡ true) × (place_in (bounded P) v < place_in (bounded P) u)

-- ---- none

-- a chain of dependence from u to v, with one link at least
pub data Chain (P : Program) : Version → Version → Type 0 where
  link : (u v : Version) → Depends P u v → Chain P u v
  more : (u v w : Version) → Depends P u v → Chain P v w → Chain P u w

-- a chain of dependence from v comes back to a version u on the chain: v itself, or one that it leads to
pub data Returns (P : Program) (v : Version) : Type 0 where
  itself : Chain P v v → Returns P v
  later : (u : Version) → Chain P v u → Chain P u u → Returns P v

-- None is given exactly then
pub record NoneExactly (P : Program) (v : Version) : Type 0 where
  pub returns : bound_of P v ≡ unbounded → Returns P v
  pub unbound : Returns P v → bound_of P v ≡ unbounded

-- for each version of an accepted image
unfoldable pub Exactly : Type 0
Exactly = (image : List ℕ) (k : ℕ) → verdict_of image ≡ Ok k → (f v : ℕ) (W : Version) → find_version (program_of image) f v ≡ some W → NoneExactly (program_of image) W
