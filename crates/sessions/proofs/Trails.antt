-- A list of calls on a state and its trail is the list of its moves: by induction, one call at a time.
use mathlib.Core.Path.{◌≡◌, refl, sym, ap, ap₂, ◌∙◌, subst}
use mathlib.Core.List.{List, ◌∷◌, ◌++◌, map}
use mathlib.Core.Bool.{cond}
use Prim.Native.Nat.{ℕ}
use lib.Dec.{eqb}
use lib.IntN.{ℤ}
use Rattle.machine.specs.Begin.{program_of}
use Rattle.machine.specs.Changes.{change_of}
use Rattle.machine.specs.Events.{Run, Event, after, history}
use Rattle.machine.specs.Runs.{budget_of}
use Rattle.machine.specs.Trails.{Visit, Move, move, move_replies, run_now, visit_after, visit_history, visit_of}
use Rattle.machine.specs.Values.{RANGE}
use Rattle.machine.specs.declared.Ran.{Ran}
use Rattle.machine.specs.declared.Returned.{Returned}
use Rattle.machine.specs.declared.Stepped.{Stepped}
use Rattle.machine.specs.declared.Trail.{Trail}
use Rattle.loaded.proofs.Runs.{loaded-back, loaded-budget, loaded-budget-on, loaded-step, loaded-step-on}
use Rattle.runs.proofs.Always.{All, all_append}
use Rattle.runs.proofs.Visits.{visit-after-keeps, visit-history-keeps}
use Rattle.soundness.specs.Claim.{begun}
use Rattle.soundness.proofs.Demand.{sound-safe}
use Rattle.soundness.proofs.Histories.{Sound, sound-step, sound-taken, after-sound, begun-sound, history-sound}
use Rattle.abi.specs.Answers.{grant_numbers, said_numbers}
use Rattle.abi.specs.Exits.{Answers}
use Rattle.abi.specs.Held.{held}
use Rattle.abi.specs.Trails.{Started, trail_of}
use Rattle.abi.specs.declared.answers.FirEntry.{FirEntry}
use Rattle.abi.specs.declared.state.FirState.{FirState}
use Rattle.abi.specs.declared.state.FirTrail.{FirTrail}
use Rattle.sessions.specs.Lent.{Starts, run_in}
use Rattle.sessions.specs.Lists.{Call, Session, events_of, by_steps, by_budget, by_change, in_numbers}
use Rattle.sessions.specs.Trails.{TrailCall, step, steps, update, back, MeetsOn, lent_on, TrailSession, empty, next, move_of, moves_of, onward, by_back, told_on, move_in_numbers, visit_in, CallsAreMoves, Demand3BackInC}
use Rattle.sessions.proofs.Numbers.{change-numbered}
use Rattle.sessions.proofs.Lent.{filled, started}
use Rattle.sessions.proofs.Lists.{in-force, session-run}

-- ---- one call

-- it leaves the visit that its move leaves, and tells its reply
record Does (image : List ℕ) (c : TrailCall) (S : FirState) (T : FirTrail) (S' : FirState) (T' : FirTrail) : Type 0 where
  visit : visit_in (lent_on image c) S' T' ≡ (move (move_of c) (visit_in image S T)).visit
  told : told_on c ≡ move_in_numbers (move (move_of c) (visit_in image S T)).reply

does : (image : List ℕ) (c : TrailCall) (S : FirState) (T : FirTrail) (S' : FirState) (T' : FirTrail) → MeetsOn image c S T S' T' → Does image c S T S' T'
unfolding MeetsOn lent_on move_of move told_on move_in_numbers in_numbers
does image (step table r) S T S' T' (t, h) =
    let k = filled image table t in
    record {
      visit = ap (λ (x : Trail). record { image = image; trail = x }) (h.trail ∙ loaded-step-on image table k.count k.stands (trail_of T S));
      told = ap (λ r'. onward (by_steps r')) (h.step.numbers ∙ ap (λ (x : Stepped). said_numbers x.said) (loaded-step image table k.count k.stands RANGE (held S)));
    }
does image (steps table n buffer last r) S T S' T' (t, h) =
    let k = filled image table t in
    let b = budget_of (program_of image) (held S) n buffer in
    let a : Answers r b S S' buffer last = subst (λ (x : Ran). Answers r x S S' buffer last) (loaded-budget image table k.count k.stands RANGE (held S) n buffer) h.budget in
    record {
      visit = ap (λ (x : Trail). record { image = image; trail = x }) (h.trail ∙ loaded-budget-on image table k.count k.stands (trail_of T S) n buffer);
      told = ap onward (ap₂ by_budget a.numbers a.written);
    }
does image (update new r) S T S' T' (h, same) =
    let c = change_of image new (held S) in
    record {
      visit = ap₂ (λ (i : List ℕ) (x : Trail). record { image = i; trail = x })
          (ap (λ (q : FirEntry). cond (eqb q.question 0) new image) h.numbers ∙ in-force image new c (change-numbered image new (held S)))
          (ap (trail_of T') same ∙ h.trail);
      told = ap (λ r'. onward (by_change r')) h.numbers;
    }
does image (back table r) S T S' T' (t, h) =
    let k = filled image table t in
    let e = loaded-back image table k.count k.stands (trail_of T S) in
    record {
      visit = ap (λ (x : Trail). record { image = image; trail = x }) (h.trail ∙ ap (λ (x : Returned). x.trail) e);
      told = ap by_back (h.numbers ∙ ap (λ (x : Returned). grant_numbers x.back) e);
    }

-- ---- lists

list_of : (image : List ℕ) (S : FirState) (T : FirTrail) (cs : List TrailCall) (last : List ℕ) (U : FirState) (W : FirTrail) → TrailSession image S T cs last U W
    → (visit_in last U W ≡ visit_after (moves_of cs) (visit_in image S T)) × (map told_on cs ≡ map move_in_numbers (move_replies (moves_of cs) (visit_in image S T)))
unfolding visit_after move_replies
list_of _ _ _ _ _ _ _ (empty image S T) = (refl, refl)
list_of _ _ _ _ _ _ _ (next image S S' T T' c cs last U W m more) =
    let d = does image c S T S' T' m in
    let i = list_of (lent_on image c) S' T' cs last U W more in
    (i.0 ∙ ap (visit_after (moves_of cs)) d.visit, ap₂ ◌∷◌ d.told (i.1 ∙ ap (λ (v : Visit). map move_in_numbers (move_replies (moves_of cs) v)) d.visit))

-- THE LAW: a list of calls with a trail is the list of its moves
pub calls-are-moves : CallsAreMoves
unfolding CallsAreMoves
calls-are-moves = list_of

-- ---- behind a start, a list without a trail and a start of a trail

-- the run that the trail starts at
pub record Kept (es : List Event) (r : Run) (ds : List Move) (end : List ℕ) (U : FirState) : Type 0 where
  pub run : run_in end U ≡ run_now (visit_after ds (visit_of (after es r)))
  pub sound : Sound r

pub trail-run : (image : List ℕ) (level f v : ℕ) (words buffer : List ℤ) (S : FirState) (first : List Event) → Starts image level f v words buffer S first
    → (cs : List Call) (now : List ℕ) (S' : FirState) → Session image S cs now S'
    → (T : FirTrail) → Started S' T → (ds : List TrailCall) (end : List ℕ) (U : FirState) (W : FirTrail) → TrailSession now S' T ds end U W
    → Kept (first ++ events_of cs) (begun image level f v words buffer) (moves_of ds) end U
unfolding CallsAreMoves
trail-run image level f v words buffer S first b cs now S' h T k ds end U W g =
    let r = session-run image level f v words buffer S first b cs now S' h in
    let from : visit_in now S' T ≡ visit_of (run_in now S') = ap (λ (x : Trail). record { image = now; trail = x }) k.trail in
    record {
      run = ap run_now ((calls-are-moves now S' T ds end U W g).0 ∙ ap (visit_after (moves_of ds)) (from ∙ ap visit_of r));
      sound = begun-sound image level f v words buffer (started image level f v words buffer S first b).entry;
    }

-- the run is sound
pub trail-sound : (es : List Event) (r : Run) (ds : List Move) (end : List ℕ) (U : FirState) → Kept es r ds end U → Sound (run_in end U)
trail-sound es r ds end U k = subst Sound (sym k.run) (visit-after-keeps Sound sound-step sound-taken ds (after es r) (after-sound es r k.sound))

-- DEMAND 3 with steps back
pub demand3-back-in-c : Demand3BackInC
unfolding Demand3BackInC
demand3-back-in-c image level f v words buffer S first b cs now S' h T k ds end U W g =
    let r = begun image level f v words buffer in
    let es = first ++ events_of cs in
    let x = trail-run image level f v words buffer S first b cs now S' h T k ds end U W g in
    let past : All Sound (history es r ++ visit_history (moves_of ds) (visit_of (after es r))) = all_append Sound (history es r) (visit_history (moves_of ds) (visit_of (after es r)))
    (history-sound es r x.sound) (visit-history-keeps Sound sound-step sound-taken (moves_of ds) (after es r) (after-sound es r x.sound)) in
    sound-safe _ (run_in end U) past (trail-sound es r (moves_of ds) end U x)
