-- 02, request 8: demand 3, the listed replies and the levels, with steps back among the events. The statements alone.
use Rattle.std.specs.Prelude.{◌≡◌, ℕ, ℤ, Err, Ok}
use mathlib.Core.List.{List, [], ◌∷◌, Memᴰ}
use Rattle.machine.specs.Begin.{begin_of}
use Rattle.machine.specs.Events.{Run, Event, Reply}
use Rattle.machine.specs.Trails.{run_now, visit_of, Move, event, step_back, MoveReply, replied, returned, visit_after, visit_history, move_replies}
use Rattle.soundness.specs.Claim.{Safe, begun}
use Rattle.soundness.specs.Levels.{AtOrBelow}
use Rattle.soundness.specs.Results.{Listed}
use Rattle.machine.specs.Denials.{denied}

-- After every list of steps, budgets, changes and steps back from the state of every begun run whose start is kept; the steps that a step back takes again are tried too
unfoldable pub Demand3Back : Type 0
Demand3Back =
    (image : List ℕ) (level f v : ℕ) (words buffer : List ℤ) → (begin_of image level f v words buffer).entry ≡ Ok tt
    → (moves : List Move)
    → let w = visit_of (begun image level f v words buffer) in Safe (visit_history moves w) (run_now (visit_after moves w))

-- No version above the run's level is ever entered, steps back or not
unfoldable pub NeverAboveBack : Type 0
NeverAboveBack =
    (image : List ℕ) (level f v : ℕ) (words buffer : List ℤ) → (begin_of image level f v words buffer).entry ≡ Ok tt
    → (moves : List Move)
    → let w = visit_of (begun image level f v words buffer) in AtOrBelow level (run_now (visit_after moves w)) × ((b : Run) → Memᴰ b (visit_history moves w) → AtOrBelow level b)

-- a step back is taken, or refused by 20 at 0; an event has a reply listed for it
pub data ListedMove : Move → MoveReply → Type 0 where
  of_event : (e : Event) (r : Reply) → Listed e r → ListedMove (event e) (replied r)
  is_taken : ListedMove step_back (returned (Ok tt))
  is_refused20 : ListedMove step_back (returned (Err (denied 20 0)))

-- each reply to the move at its place
pub data AllListedMoves : List Move → List MoveReply → Type 0 where
  end : AllListedMoves [] []
  next : (m : Move) (r : MoveReply) (ms : List Move) (rs : List MoveReply) → ListedMove m r → AllListedMoves ms rs → AllListedMoves (m ∷ ms) (r ∷ rs)

-- Every move of every list, on every begun run whose start is kept, has such a reply
unfoldable pub MoveReplies : Type 0
MoveReplies =
    (image : List ℕ) (level f v : ℕ) (words buffer : List ℤ) → (begin_of image level f v words buffer).entry ≡ Ok tt
    → (moves : List Move) → AllListedMoves moves (move_replies moves (visit_of (begun image level f v words buffer)))
