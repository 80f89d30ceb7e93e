-- 02, request 10: what the calls that are lent a pool answer and leave, of the state and of the pool.
use Rattle.std.specs.Prelude.{true, List, ◌≡◌, ℕ, ◌≤◌, ◌<◌, ℤ, Err, Ok}
use Rattle.program.specs.Program.{Program}
use Rattle.machine.specs.Allowed.{vectors_in}
use Rattle.machine.specs.Pools.{allowed, make_of, pool_back, pool_begun_by, pool_budget, pool_change, pool_run_by, pool_step, refuses21}
use Rattle.machine.specs.declared.End.{End}
use Rattle.machine.specs.declared.Pool.{Pool}
use Rattle.machine.specs.declared.PoolSaid.{PoolSaid}
use Rattle.machine.specs.declared.Status.{Status}
use Rattle.begin.specs.Arguments.{arguments_in}
use Rattle.begin.specs.Arrays.{first_bytes, first_numbers}
use Rattle.begin.specs.Asking.{entered_at}
use Rattle.begin.specs.declared.Entrance.{Entrance}
use Rattle.ending.specs.Ends.{closed_bytes}
use Rattle.abi.specs.Answers.{grant_numbers, turn_numbers}
use Rattle.abi.specs.Exits.{Answers, Rests}
use Rattle.abi.specs.Held.{held}
use Rattle.abi.specs.declared.answers.FirAnswer.{FirAnswer}
use Rattle.abi.specs.declared.answers.FirEntry.{FirEntry}
use Rattle.abi.specs.declared.answers.FirTurn.{FirTurn}
use Rattle.abi.specs.declared.state.FirState.{FirState}
use Rattle.machine.specs.Denials.{Grant, denied}

-- a pool is made of the given reserves, or left as it was
abbrev pub MakesIn : FirEntry → List ℕ → Pool → Pool → Type 0
MakesIn r given p p' = (r ≡ grant_numbers (make_of given p).made) × (p' ≡ (make_of given p).pool)

-- a single step: 21, a stuck step and one of an ended run leave the state as it was, byte for byte
pub record StepsIn (r : FirTurn) (P : Program) (p : Pool) (i : ℕ) (S S' : FirState) (p' : Pool) : Type 0 where
  pub numbers : r ≡ turn_numbers (pool_step P p i (held S)).turn
  pub state : held S' ≡ (pool_step P p i (held S)).state
  pub pool : p' ≡ (pool_step P p i (held S)).pool
  pub refused : refuses21 p i ≡ true → S' ≡ S
  pub stuck : (pool_step P p i (held S)).turn ≡ PoolSaid.Stuck → S' ≡ S
  pub ended : (e : End) → (held S).status ≡ Status.Ended e → S' ≡ S

-- a budget and its lent buffer
pub record AnswersIn (r : FirAnswer) (P : Program) (n : ℕ) (p : Pool) (i : ℕ) (S S' : FirState) (p' : Pool) (buffer last : List ℤ) : Type 0 where
  pub budget : Answers r (pool_budget P p i (held S) n buffer).ran S S' buffer last
  pub rests : Rests n (pool_budget P p i (held S) n buffer).ran S S'
  pub pool : p' ≡ (pool_budget P p i (held S) n buffer).pool

-- a start: a refusal leaves the state as it was; else every byte and number of it is told, of one that needs more than it may have too
pub record EntersIn (r : Grant) (P : Program) (e : Entrance) (words buffer : List ℤ) (p : Pool) (i : ℕ) (S S' : FirState) (p' : Pool) : Type 0 where
  pub entry : r ≡ (pool_begun_by p i (entered_at P e words buffer)).begun.entry
  pub pool : p' ≡ (pool_begun_by p i (entered_at P e words buffer)).pool
  pub refused : (q o : ℕ) → r ≡ Err (denied q o) → S' ≡ S
  pub state : r ≡ Ok tt → held S' ≡ (pool_begun_by p i (entered_at P e words buffer)).begun.state
  pub values : r ≡ Ok tt → S'.numbers ≡ first_numbers (arguments_in P e.function e.version words)
  pub fits : r ≡ Ok tt → vectors_in (entered_at P e words buffer).state ≤ allowed p i → S'.bytes ≡ first_bytes e.function e.version (arguments_in P e.function e.version words)
  pub over : r ≡ Ok tt → allowed p i < vectors_in (entered_at P e words buffer).state
      → S'.bytes ≡ closed_bytes (first_bytes e.function e.version (arguments_in P e.function e.version words)) 5 0

-- in numbers
abbrev pub BeginsIn : FirEntry → Program → Entrance → List ℤ → List ℤ → Pool → ℕ → FirState → FirState → Pool → Type 0
BeginsIn r P e words buffer p i S S' p' =
    let x = (pool_begun_by p i (entered_at P e words buffer)).begun.entry in
    (r ≡ grant_numbers x) × EntersIn x P e words buffer p i S S' p'

-- a start and its first budget
abbrev pub RunsIn : FirAnswer → Program → Entrance → List ℤ → ℕ → Pool → ℕ → FirState → FirState → Pool → List ℤ → List ℤ → Type 0
RunsIn r P e words n p i S S' p' buffer last =
    let x = pool_run_by P p i (entered_at P e words buffer) n buffer in
    Answers r x.ran S S' buffer last × (p' ≡ x.pool)
