-- Demand 3, the levels and the listed replies with steps back among the events: a step back leads to a state of the run.
use mathlib.Core.Path.{◌≡◌, refl, sym, subst}
use mathlib.Core.List.{List, [], ◌∷◌}
use Prim.Native.Nat.{zero, suc}
use Rattle.program.specs.Program.{Program}
use Rattle.machine.specs.Events.{Event, single, budget, change, handle, handle_to}
use Rattle.machine.specs.Trails.{back_by, back_of, Visit, visit_program, run_now, visit_of, Move, event, step_back, replied, returned, move, visit_after, visit_history, move_replies}
use Rattle.machine.specs.declared.Behind.{Behind}
use Rattle.machine.specs.declared.Trail.{Trail}
use Rattle.runs.proofs.Visits.{Both, move-both, visit-after-keeps, visit-history-keeps}
use Rattle.soundness.specs.Claim.{begun}
use Rattle.soundness.specs.Backs.{Demand3Back, NeverAboveBack, ListedMove, of_event, is_taken, is_refused20, AllListedMoves, end, next, MoveReplies}
use Rattle.soundness.proofs.Demand.{sound-safe}
use Rattle.soundness.proofs.Histories.{Sound, sound-step, sound-taken, begun-sound}
use Rattle.soundness.proofs.Levels.{Low, low_step, low-taken, begun-low}
use Rattle.soundness.proofs.Results.{listed}

-- DEMAND 3, with steps back
pub demand3-back : Demand3Back
unfolding Demand3Back
demand3-back image level f v words buffer h moves =
    let r = begun image level f v words buffer in
    let o = begun-sound image level f v words buffer h in
    sound-safe (visit_history moves (visit_of r)) (run_now (visit_after moves (visit_of r))) (visit-history-keeps Sound sound-step sound-taken moves r o) (visit-after-keeps Sound sound-step sound-taken moves r o)

-- THE LAW: levels
pub never-above-back : NeverAboveBack
unfolding NeverAboveBack
never-above-back image level f v words buffer e moves =
    let r = begun image level f v words buffer in
    let o : Low level r = record { sound = begun-sound image level f v words buffer e; low = begun-low image level f v words buffer e } in
    ((visit-after-keeps (Low level) (low_step level) (low-taken level) moves r o).low, λ b m. (visit-history-keeps (Low level) (low_step level) (low-taken level) moves r o b m).low)

-- ---- replies

-- an event says what it says without a trail
same-reply : (e : Event) (v : Visit) → (move (event e) v).reply ≡ replied (handle e (run_now v)).reply
unfolding move handle_to
same-reply single v = refl
same-reply (budget n buffer) v = refl
same-reply (change new) v = refl

back-listed : (P : Program) (t : Trail) (b : Behind) → ListedMove step_back (returned (back_by P t b).back)
unfolding back_by
back-listed P t Behind.Past = is_refused20
back-listed P t (Behind.Steps zero) = is_refused20
back-listed P t (Behind.Steps (suc m)) = is_taken

move-listed : (m : Move) (v : Visit) → Sound (run_now v) → ListedMove m (move m v).reply
unfolding move back_of
move-listed (event e) v o = subst (ListedMove (event e)) (sym (same-reply e v)) (of_event e (handle e (run_now v)).reply (listed e (run_now v) o))
move-listed step_back v o = back-listed (visit_program v) v.trail v.trail.behind

moves-listed : (ms : List Move) (v : Visit) → Both Sound v → AllListedMoves ms (move_replies ms v)
unfolding move_replies
moves-listed [] v o = end
moves-listed (m ∷ ms) v o = next m _ ms _ (move-listed m v o.0) (moves-listed ms (move m v).visit (move-both Sound sound-step sound-taken m v o))

-- THE LAW: every move of every list has a listed reply
pub move-replies : MoveReplies
unfolding MoveReplies
move-replies image level f v words buffer h moves = let o = begun-sound image level f v words buffer h in moves-listed moves (visit_of (begun image level f v words buffer)) (o, o)
