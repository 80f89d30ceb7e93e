-- 02, 13: what is promised of a join that was written: the statements alone.
use Rattle.std.specs.Prelude.{◌≡◌, List, [], ◌∷◌, ℕ, ◌+◌, ◌≤◌, ◌<◌, ℤ, length, Ok, Err}
use Rattle.checker.specs.Verdicts.{verdict_of}
use Rattle.machine.specs.Runs.{buffer_of}
use Rattle.machine.specs.Events.{Run, Event, single, budget, change, after, replies}
use Rattle.machine.specs.Begin.{begin_of, run_of}
use Rattle.joins.specs.Joins.{functions_in, versions_in, joined, join_of}
use Rattle.joins.specs.Alongside.{Sim}
use Rattle.machine.specs.Denials.{denied}

-- single steps and budgets alone: the run stays under its image
unfoldable pub Stays : List Event → Type 0
Stays [] = Unit {0}
Stays (single ∷ es) = Stays es
Stays (budget n buffer ∷ es) = Stays es
Stays (change image ∷ es) = ⊥

-- a run of an image before its first step
abbrev pub begun : List ℕ → ℕ → ℕ → ℕ → List ℤ → List ℤ → Run
begun image level f v words buffer = record { image = image; state = (begin_of image level f v words buffer).state }

-- the function f of the image s, one of n, and g of the image t, which is f raised by k: every run of the one, at every level and of every version, is answered as the other's
pub record SameRuns (k n : ℕ) (s : List ℕ) (f : ℕ) (t : List ℕ) (g : ℕ) : Type 0 where
  -- begun, or refused by the same question
  pub entry : (level v : ℕ) (words buffer : List ℤ) → (begin_of t level g v words buffer).entry ≡ (begin_of s level f v words buffer).entry
  -- the same result and steps by one budget from the start, and the same buffer
  pub answer : (level v : ℕ) (words : List ℤ) (m : ℕ) (buffer : List ℤ) → (run_of t level g v words m buffer).answer ≡ (run_of s level f v words m buffer).answer
  pub steps : (level v : ℕ) (words : List ℤ) (m : ℕ) (buffer : List ℤ) → (run_of t level g v words m buffer).steps ≡ (run_of s level f v words m buffer).steps
  pub buffers : (level v : ℕ) (words : List ℤ) (m : ℕ) (buffer : List ℤ) → buffer_of (run_of t level g v words m buffer) buffer ≡ buffer_of (run_of s level f v words m buffer) buffer
  -- the same replies to every list of single steps and budgets,
  pub replied : (level v : ℕ) (words buffer : List ℤ) (events : List Event) → Stays events → replies events (begun t level g v words buffer) ≡ replies events (begun s level f v words buffer)
  -- which leaves the same state, but for the functions of its live calls, which are raised by k
  pub states : (level v : ℕ) (words buffer : List ℤ) (events : List Event) → Stays events
      → Sim k n (after events (begun s level f v words buffer)).state (after events (begun t level g v words buffer)).state

pub record Joins (a b : List ℕ) (n : ℕ) : Type 0 where
  pub size : length (joined a b) ≡ n
  -- the joined image is accepted, with the versions of both
  pub accepted : verdict_of (joined a b) ≡ Ok (versions_in a + versions_in b)
  -- each entry, under its new number, has the same results and steps as alone
  pub first : (f : ℕ) → f < functions_in a → SameRuns 0 (functions_in a) a f (joined a b) f
  pub second : (f : ℕ) → f < functions_in b → SameRuns (functions_in a) (functions_in b) b f (joined a b) (functions_in a + f)
  -- and there is no other: 11
  pub others : (level f v : ℕ) (words buffer : List ℤ) → functions_in a + functions_in b ≤ f → (begin_of (joined a b) level f v words buffer).entry ≡ Err (denied 11 0)

-- of any two images and any lent buffer
unfoldable pub JoinsWell : Type 0
JoinsWell = (a b : List ℕ) (room n : ℕ) → join_of a b room ≡ Ok n → Joins a b n
