-- A list of calls of fir_trail_step, fir_trail_budget, fir_trail_change and fir_trail_back on one state and its trail is a list of moves, steps back among them: the statements alone.
use Rattle.std.specs.Prelude.{◌≡◌, List, [], ◌∷◌, ◌++◌, map, cond, ℕ, eqb, ℤ}
use Rattle.machine.specs.Events.{Event, single, budget, change, after, history}
use Rattle.machine.specs.Trails.{Visit, Move, event, step_back, MoveReply, replied, returned, move_replies, visit_after, visit_history, visit_of}
use Rattle.soundness.specs.Claim.{Safe, begun}
use Rattle.abi.specs.Answers.{grant_numbers}
use Rattle.abi.specs.Calls.{TrailBackCall, TrailBudgetCall, TrailStepCall}
use Rattle.abi.specs.Trails.{ChangesOn, Started, trail_of}
use Rattle.abi.specs.declared.answers.FirAnswer.{FirAnswer}
use Rattle.abi.specs.declared.answers.FirEntry.{FirEntry}
use Rattle.abi.specs.declared.answers.FirSaid.{FirSaid}
use Rattle.abi.specs.declared.state.FirState.{FirState}
use Rattle.abi.specs.declared.state.FirTrail.{FirTrail}
use Rattle.sessions.specs.Lent.{Starts, TableOf, run_in}
use Rattle.sessions.specs.Lists.{Call, Session, events_of, Told, by_steps, by_budget, by_change, in_numbers}

-- ---- calls

-- a call with what it is lent beside state and trail and what it answers
pub data TrailCall : Type 0 where
  step : (table : List ℕ) (r : FirSaid) → TrailCall
  steps : (table : List ℕ) (n : ℕ) (buffer last : List ℤ) (r : FirAnswer) → TrailCall
  update : (new : List ℕ) (r : FirEntry) → TrailCall
  back : (table : List ℕ) (r : FirEntry) → TrailCall

-- made under the image in force, with a table that it was loaded into: the contract of its function, of state and trail before and after; fir_trail_change only reads the state
unfoldable pub MeetsOn : List ℕ → TrailCall → FirState → FirTrail → FirState → FirTrail → Type 0
MeetsOn image (step table r) S T S' T' = TableOf image table × TrailStepCall image table r S T S' T'
MeetsOn image (steps table n buffer last r) S T S' T' = TableOf image table × TrailBudgetCall image table n r S T S' T' buffer last
MeetsOn image (update new r) S T S' T' = ChangesOn r image new S T T' × (S' ≡ S)
MeetsOn image (back table r) S T S' T' = TableOf image table × TrailBackCall image table r S T S' T'

-- the image in force behind it: the new one where fir_trail_change answers 0
unfoldable pub lent_on : List ℕ → TrailCall → List ℕ
lent_on image (step table r) = image
lent_on image (steps table n buffer last r) = image
lent_on image (update new r) = cond (eqb r.question 0) new image
lent_on image (back table r) = image

-- calls one after the other
pub data TrailSession : List ℕ → FirState → FirTrail → List TrailCall → List ℕ → FirState → FirTrail → Type 0 where
  empty : (image : List ℕ) (S : FirState) (T : FirTrail) → TrailSession image S T [] image S T
  next : (image : List ℕ) (S S' : FirState) (T T' : FirTrail) (c : TrailCall) (cs : List TrailCall) (end : List ℕ) (U : FirState) (W : FirTrail)
      → MeetsOn image c S T S' T' → TrailSession (lent_on image c) S' T' cs end U W → TrailSession image S T (c ∷ cs) end U W

-- ---- moves

-- the move that a call is
unfoldable pub move_of : TrailCall → Move
move_of (step table r) = event single
move_of (steps table n buffer last r) = event (budget n buffer)
move_of (update new r) = event (change new)
move_of (back table r) = step_back

-- those of a list, in order
abbrev pub moves_of : List TrailCall → List Move
moves_of cs = map move_of cs

-- what a call tells: as without a trail, or the answer of a step back
pub data TrailTold : Type 0 where
  onward : Told → TrailTold
  by_back : FirEntry → TrailTold

-- by a call
unfoldable pub told_on : TrailCall → TrailTold
told_on (step table r) = onward (by_steps r)
told_on (steps table n buffer last r) = onward (by_budget r last)
told_on (update new r) = onward (by_change r)
told_on (back table r) = by_back r

-- a reply in numbers
unfoldable pub move_in_numbers : MoveReply → TrailTold
move_in_numbers (replied r) = onward (in_numbers r)
move_in_numbers (returned b) = by_back (grant_numbers b)

-- the visit that state and trail stand for under an image
abbrev pub visit_in : List ℕ → FirState → FirTrail → Visit
visit_in image S T = record { image = image; trail = trail_of T S }

-- ---- the statements

-- Every list of calls leaves the visit that its moves leave, and tells their replies, whatever the bytes of state and trail
unfoldable pub CallsAreMoves : Type 0
CallsAreMoves =
    (image : List ℕ) (S : FirState) (T : FirTrail) (cs : List TrailCall) (end : List ℕ) (U : FirState) (W : FirTrail) → TrailSession image S T cs end U W
    → (visit_in end U W ≡ visit_after (moves_of cs) (visit_in image S T)) × (map told_on cs ≡ map move_in_numbers (move_replies (moves_of cs) (visit_in image S T)))

-- Demand 3 of them: after a start, any list of calls without a trail, fir_trail_start, and any list of calls with it
unfoldable pub Demand3BackInC : Type 0
Demand3BackInC =
    (image : List ℕ) (level f v : ℕ) (words buffer : List ℤ) (S : FirState) (first : List Event) → Starts image level f v words buffer S first
    → (cs : List Call) (now : List ℕ) (S' : FirState) → Session image S cs now S'
    → (T : FirTrail) → Started S' T → (ds : List TrailCall) (end : List ℕ) (U : FirState) (T' : FirTrail) → TrailSession now S' T ds end U T'
    → let r = begun image level f v words buffer in let es = first ++ events_of cs in
    Safe (history es r ++ visit_history (moves_of ds) (visit_of (after es r))) (run_in end U)
