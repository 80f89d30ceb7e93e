-- 02, 10, the machine's part: steps and budgets of a run that may have so many vectors; the machine's own are those of 64.
use Rattle.std.specs.Prelude.{List, [], ◌∷◌, Bool, true, false, cond, ℕ, zero, suc, ◌+◌, ℤ, leb}
use Rattle.layout.specs.Tests.{◌and◌}
use Rattle.program.specs.Program.{Instr, LIT, MOVE, USE, DUP, VEC, LEN, GET, SET, ARITH, SELECT, CAST, NAMED, STORE, PROM, FORCE, PEEK, POKE, CALL, DISPATCH, SKIP, Version, Program}
use Rattle.machine.specs.Try.{Try, got, stuck, stop, ◌>>=◌, at, each}
use Rattle.machine.specs.States.{VECTORS, vector_counts, integer, vector, free_vector}
use Rattle.machine.specs.Calls.{passed}
use Rattle.machine.specs.Steps.{execute, Here, here, Position, instruction, block_end, outside, position_of, proceed}
use Rattle.machine.specs.Runs.{settled, continued, long_enough}
use Rattle.machine.specs.Events.{onward}
use Rattle.machine.specs.declared.Answer.{Answer}
use Rattle.machine.specs.declared.End.{End}
use Rattle.machine.specs.declared.Frame.{Frame}
use Rattle.machine.specs.declared.Ran.{Ran}
use Rattle.machine.specs.declared.Said.{Said}
use Rattle.machine.specs.declared.State.{State}
use Rattle.machine.specs.declared.Status.{Status}
use Rattle.machine.specs.declared.Stepped.{Stepped}
use Rattle.machine.specs.declared.Vector.{Vector}

-- how many of n places from i on count
unfoldable pub counting : (ℕ → Bool) → ℕ → ℕ → ℕ
counting counts zero i = 0
counting counts (suc n) i = cond (counts i) 1 0 + counting counts n (suc i)

-- Steps: how many vectors count
unfoldable pub vectors_in : State → ℕ
vectors_in s = counting (vector_counts s) VECTORS 0

-- has it a result?
unfoldable pub is_got : {A : Type 0} → Try A → Bool
is_got (got a) = true
is_got stuck = false
is_got (stop e) = false

-- a vector is needed: by VEC and DUP, whose operands are there, among these vectors
unfoldable pub needs_vector : List Vector → Frame → Instr → Bool
needs_vector vs f (LIT d i) = false
needs_vector vs f (MOVE d a) = false
needs_vector vs f (USE d a) = false
needs_vector vs f (DUP d a) = is_got (vector f a >>= λ (v : ℕ). at vs v)
needs_vector vs f (VEC d rs) = is_got (each (integer f) rs)
needs_vector vs f (LEN d a) = false
needs_vector vs f (GET d a i) = false
needs_vector vs f (SET a i e) = false
needs_vector vs f (ARITH d op a b) = false
needs_vector vs f (SELECT d c a b) = false
needs_vector vs f (CAST d a) = false
needs_vector vs f (NAMED d x) = false
needs_vector vs f (STORE x a) = false
needs_vector vs f (PROM d block) = false
needs_vector vs f (FORCE d a) = false
needs_vector vs f (PEEK d a x) = false
needs_vector vs f (POKE a x e) = false
needs_vector vs f (CALL d g w rs) = false
needs_vector vs f (DISPATCH d g mark ret pairs) = false
needs_vector vs f (SKIP a n) = false

-- a place for a vector of a run that may have `most`, as the code looks for it
unfoldable pub free_within : ℕ → State → Try ℕ
free_within most s = elim (leb most (vectors_in s)) [ true ↦ stop End.Vectors | false ↦ free_vector s ]

-- VECTORS: one more is needed while the run has as many as it may have
unfoldable pub execute_with : ℕ → Program → State → ℕ → Frame → Version → Instr → Try State
execute_with most P s k f W i = elim (needs_vector s.vectors f i and leb most (vectors_in s)) [ true ↦ stop End.Vectors | false ↦ execute P s k f W i ]

-- one instruction or one block end
unfoldable pub proceed_with : ℕ → Program → State → Here → Position → Try State
proceed_with most P s h (instruction i) = execute_with most P (passed s h.activation) h.activation.frame h.frame h.version i
proceed_with most P s h block_end = proceed P s h block_end
proceed_with most P s h outside = proceed P s h outside

-- what one step of a run that may have `most` vectors comes to
unfoldable pub advance_with : ℕ → Program → State → Try State
advance_with most P s = do
  h ← here P s
  proceed_with most P s h (position_of h)

-- ---- the single step and the budget, as in Runs

unfoldable pub step_in_with : ℕ → Program → State → Status → Stepped
step_in_with most P s Status.Running = settled s (advance_with most P s)
step_in_with most P s (Status.Ended e) = record { state = s; said = Said.Ended e }

unfoldable pub step_with : ℕ → Program → State → Stepped
step_with most P s = step_in_with most P s s.status

unfoldable pub run_with : ℕ → Program → ℕ → State → ℕ → Ran
run_with most P zero s n = record { state = s; answer = Answer.Steps; steps = n }
run_with most P (suc m) s n = let r = step_with most P s in continued r.state r.said n (λ t. run_with most P m t (n + 1))

unfoldable pub budget_in_with : ℕ → Program → State → ℕ → Status → Ran
budget_in_with most P s n Status.Running = run_with most P n s 0
budget_in_with most P s n (Status.Ended e) = record { state = s; answer = Answer.Ended e; steps = 0 }

unfoldable pub budget_with : ℕ → Program → State → ℕ → List ℤ → Ran
budget_with most P s n buffer = elim (long_enough buffer) [ true ↦ budget_in_with most P s n s.status | false ↦ record { state = s; answer = Answer.Refused 13 0; steps = 0 } ]

-- ---- the states in which a step was tried, as in Events

unfoldable pub tried_under_with : ℕ → Program → ℕ → State → List State
tried_under_with most P zero s = []
tried_under_with most P (suc m) s = let r = step_with most P s in s ∷ onward r.state r.said (λ t. tried_under_with most P m t)

unfoldable pub tried_in_with : ℕ → Program → State → ℕ → Status → List State
tried_in_with most P s n Status.Running = tried_under_with most P n s
tried_in_with most P s n (Status.Ended e) = []

unfoldable pub tried_by_with : ℕ → Program → State → ℕ → List ℤ → List State
tried_by_with most P s n buffer = elim (long_enough buffer) [ true ↦ tried_in_with most P s n s.status | false ↦ [] ]
