-- 02, request 8: the trail that the caller's memory stands for, and what the calls leave that are lent one.
use Rattle.std.specs.Prelude.{List, ◌≡◌, ℕ, ℤ, Err, Ok}
use Rattle.program.specs.Program.{Program}
use Rattle.machine.specs.Changes.{change_of}
use Rattle.machine.specs.Runs.{budget_of, step_of}
use Rattle.machine.specs.Trails.{back_of, budget_on, change_on, step_on, steps_by}
use Rattle.machine.specs.declared.Trail.{Trail}
use Rattle.trails.specs.Arrays.{Starts, trail_in}
use Rattle.abi.specs.Answers.{grant_numbers}
use Rattle.abi.specs.Exits.{Answers, Rests, Steps}
use Rattle.abi.specs.Held.{held}
use Rattle.abi.specs.declared.answers.FirAnswer.{FirAnswer}
use Rattle.abi.specs.declared.answers.FirEntry.{FirEntry}
use Rattle.abi.specs.declared.answers.FirSaid.{FirSaid}
use Rattle.abi.specs.declared.state.FirState.{FirState}
use Rattle.abi.specs.declared.state.FirTrail.{FirTrail}
use Rattle.machine.specs.Denials.{denied}

-- the trail of a caller's trail and state, whatever their bytes and numbers are
abbrev pub trail_of : FirTrail → FirState → Trail
trail_of T S = trail_in T.bytes T.numbers T.steps T.past S.bytes S.numbers

-- the memory of a trail with this start
abbrev pub kept : List ℕ → List ℤ → ℕ → ℕ → FirTrail
kept b n s p = record { numbers = n; bytes = b; steps = s; past = p }

-- the trail starts at the state, byte for byte
abbrev pub Started : FirState → FirTrail → Type 0
Started S T = Starts S.bytes S.numbers T.bytes T.numbers T.steps T.past

-- the start is as it was
abbrev pub SameStart : FirTrail → FirTrail → Type 0
SameStart T T' = (T'.bytes ≡ T.bytes) × (T'.numbers ≡ T.numbers)

-- a single step: what it says and leaves without a trail, and the trail behind it; where no step counts the trail is as it was, byte for byte
pub record StepsOn (r : FirSaid) (P : Program) (S : FirState) (T : FirTrail) (S' : FirState) (T' : FirTrail) : Type 0 where
  pub step : Steps r (step_of P (held S)) S S'
  pub trail : trail_of T' S' ≡ step_on P (trail_of T S)
  pub start : SameStart T T'
  pub none : steps_by (held S).status (step_of P (held S)).said ≡ 0 → T' ≡ T

-- a budget, likewise
pub record AnswersOn (r : FirAnswer) (P : Program) (n : ℕ) (S : FirState) (T : FirTrail) (S' : FirState) (T' : FirTrail) (buffer last : List ℤ) : Type 0 where
  pub budget : Answers r (budget_of P (held S) n buffer) S S' buffer last
  pub rests : Rests n (budget_of P (held S) n buffer) S S'
  pub trail : trail_of T' S' ≡ budget_on P (trail_of T S) n buffer
  pub start : SameStart T T'
  pub none : (budget_of P (held S) n buffer).steps ≡ 0 → T' ≡ T

-- a change of the image: one that is taken is a new start, one that is refused leaves the trail as it was, byte for byte
pub record ChangesOn (r : FirEntry) (old new : List ℕ) (S : FirState) (T T' : FirTrail) : Type 0 where
  pub numbers : r ≡ grant_numbers (change_of old new (held S))
  pub trail : trail_of T' S ≡ change_on (trail_of T S) (change_of old new (held S))
  pub taken : change_of old new (held S) ≡ Ok tt → Started S T'
  pub refused : (q p : ℕ) → change_of old new (held S) ≡ Err (denied q p) → T' ≡ T

-- a step back: one that is refused leaves state and trail as they were, byte for byte
pub record BacksOn (r : FirEntry) (P : Program) (S : FirState) (T : FirTrail) (S' : FirState) (T' : FirTrail) : Type 0 where
  pub numbers : r ≡ grant_numbers (back_of P (trail_of T S)).back
  pub trail : trail_of T' S' ≡ (back_of P (trail_of T S)).trail
  pub start : SameStart T T'
  pub refused : (q p : ℕ) → (back_of P (trail_of T S)).back ≡ Err (denied q p) → (S' ≡ S) × (T' ≡ T)
