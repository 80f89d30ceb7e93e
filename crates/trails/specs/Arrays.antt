-- 02, request 8: a trail as two arrays for its start, two numbers for what lies behind and two arrays for its state; and the trail that they stand for, whatever they hold.
use Rattle.std.specs.Prelude.{List, ◌≡◌, cond, ℕ, ◌+◌, ◌<◌, eqb, ℤ, Err, Ok}
use Rattle.program.specs.Program.{Program}
use Rattle.machine.specs.Changes.{change_of}
use Rattle.machine.specs.Runs.{step_of}
use Rattle.machine.specs.Trails.{REACH, back_of, behind_by, change_on, further, started, steps_by}
use Rattle.machine.specs.declared.Behind.{Behind}
use Rattle.machine.specs.declared.Trail.{Trail}
use Rattle.store.specs.Store.{state_in}
use Rattle.machine.specs.Denials.{Grant, denied}

-- what lies behind after so many steps; none any more where `past` is not 0
unfoldable pub behind_in : ℕ → ℕ → Behind
behind_in steps past = cond (eqb past 0) (behind_by steps) Behind.Past

-- the trail of a start, what lies behind and a state
abbrev pub trail_in : List ℕ → List ℤ → ℕ → ℕ → List ℕ → List ℤ → Trail
trail_in b₀ n₀ steps past b n = record { start = state_in b₀ n₀; behind = behind_in steps past; state = state_in b n }

-- a start: every byte of it is the state's, and no step lies behind
pub record Starts (b : List ℕ) (n : List ℤ) (b₀ : List ℕ) (n₀ : List ℤ) (steps past : ℕ) : Type 0 where
  pub trail : trail_in b₀ n₀ steps past b n ≡ started (state_in b n)
  pub bytes : b₀ ≡ b
  pub numbers : n₀ ≡ n

-- m steps more lie behind; where there are none, and where none is counted any more, both numbers are as they were; past what can be counted 1 is written
pub record Adds (steps past m steps' past' : ℕ) : Type 0 where
  pub behind : behind_in steps' past' ≡ further (behind_in steps past) m
  pub none : m ≡ 0 → (steps' ≡ steps) × (past' ≡ past)
  pub over : past ≡ 0 → REACH < steps + m → (steps' ≡ steps) × (past' ≡ 1)
  pub beyond : (past ≡ 0 → ⊥) → (steps' ≡ steps) × (past' ≡ past)

-- the steps that a single step takes from the state of these arrays
abbrev pub steps_from : Program → List ℕ → List ℤ → ℕ
steps_from P b n = steps_by (state_in b n).status (step_of P (state_in b n)).said

-- a change of the image that is taken is a new start; one that is refused leaves the trail as it was, byte for byte
pub record Renews (r : Grant) (old new b : List ℕ) (n : List ℤ) (b₀ : List ℕ) (n₀ : List ℤ) (steps past : ℕ) (b₀' : List ℕ) (n₀' : List ℤ) (steps' past' : ℕ) : Type 0 where
  pub changed : r ≡ change_of old new (state_in b n)
  pub trail : trail_in b₀' n₀' steps' past' b n ≡ change_on (trail_in b₀ n₀ steps past b n) r
  pub taken : r ≡ Ok tt → Starts b n b₀' n₀' steps' past'
  pub refused : (q p : ℕ) → r ≡ Err (denied q p) → (b₀' ≡ b₀) × (n₀' ≡ n₀) × (steps' ≡ steps) × (past' ≡ past)

-- a step back; one that is refused leaves the state and what lies behind as they were, byte for byte
pub record Returns (r : Grant) (P : Program) (b₀ : List ℕ) (n₀ : List ℤ) (steps past : ℕ) (b : List ℕ) (n : List ℤ) (steps' : ℕ) (b' : List ℕ) (n' : List ℤ) : Type 0 where
  pub back : back_of P (trail_in b₀ n₀ steps past b n) ≡ record { trail = trail_in b₀ n₀ steps' past b' n'; back = r }
  pub refused : (q p : ℕ) → r ≡ Err (denied q p) → (steps' ≡ steps) × (b' ≡ b) × (n' ≡ n)
