-- What a caller lends as include/fir.h asks: a loaded image, and a state that fir_begin or fir_run wrote.
use Rattle.std.specs.Prelude.{◌≡◌, ◌≢◌, List, [], ◌∷◌, ℕ, ℤ}
use Rattle.machine.specs.Events.{Run, Event, budget}
use Rattle.abi.specs.Calls.{BeginCall, Loads, RunCall}
use Rattle.abi.specs.Held.{held}
use Rattle.abi.specs.declared.answers.FirAnswer.{FirAnswer}
use Rattle.abi.specs.declared.answers.FirEntry.{FirEntry}
use Rattle.abi.specs.declared.answers.FirLoaded.{FirLoaded}
use Rattle.abi.specs.declared.state.FirState.{FirState}

-- a table that fir_load filled from the image, with the answer 0, and that was not written since
pub record TableOf (image table : List ℕ) : Type 0 where
  pub before : List ℕ
  pub answer : FirLoaded
  pub load : Loads image answer before table
  pub ready : answer.code ≡ 0

-- the run that a state stands for under an image
abbrev pub run_in : List ℕ → FirState → Run
run_in image S = record { image = image; state = held S }

-- a start that was not refused, from memory of any bytes: fir_begin with the answer 0, or fir_run, whose first budget is an event
pub data Starts (image : List ℕ) (level f v : ℕ) (words buffer : List ℤ) (S : FirState) : List Event → Type 0 where
  by_begin : (table : List ℕ) (before : FirState) (r : FirEntry) → TableOf image table → BeginCall image table level f v words buffer r before S → r.question ≡ 0
      → Starts image level f v words buffer S []
  by_run : (table : List ℕ) (before : FirState) (n : ℕ) (last : List ℤ) (r : FirAnswer) → TableOf image table
      → RunCall image table level f v words n r before S buffer last → r.code ≢ 8
      → Starts image level f v words buffer S (budget n buffer ∷ [])
