-- What fir_watch shows after every list of calls: the records of the image's own program, in a run that is sound.
use mathlib.Core.Path.{◌≡◌, refl, sym, ap, ◌∙◌}
use mathlib.Core.List.{List, ◌++◌}
use mathlib.Core.Option.{some}
use Prim.Native.Nat.{ℕ}
use lib.ListN.{length}
use Rattle.machine.specs.Houses.{House}
use Rattle.loaded.proofs.Runs.{loaded-rows, loaded-watched}
use Rattle.runs.specs.Watches.{Watching}
use Rattle.runs.proofs.Watches.{watching}
use Rattle.soundness.specs.Claim.{begun}
use Rattle.soundness.specs.Watches.{ShowsRun}
use Rattle.soundness.proofs.Histories.{after-sound, begun-sound}
use Rattle.soundness.proofs.Pools.{house-sound}
use Rattle.soundness.proofs.Watches.{shows-run}
use Rattle.abi.specs.Answers.{watched_numbers}
use Rattle.abi.specs.Held.{held}
use Rattle.abi.specs.declared.state.FirState.{FirState}
use Rattle.sessions.specs.Lent.{run_in}
use Rattle.sessions.specs.Lists.{events_of}
use Rattle.sessions.specs.Trails.{moves_of}
use Rattle.sessions.specs.Pools.{asks_of, run_of}
use Rattle.sessions.specs.Watches.{WatchesAll, WatchedInC, WatchedBackInC, WatchedPoolInC}
use Rattle.sessions.proofs.Lent.{filled, started}
use Rattle.sessions.proofs.Lists.{session-run}
use Rattle.sessions.proofs.Trails.{trail-run, trail-sound}
use Rattle.sessions.proofs.Pools.{pool-house}

-- a state whose run shows its call
watches : (image : List ℕ) (S : FirState) → ShowsRun (run_in image S) → WatchesAll image S
unfolding Watching
watches image S shown table w rows last t (e, l) =
    let k = filled image table t in
    record {
      numbers = e ∙ ap watched_numbers (loaded-watched image table k.count k.stands (held S) (length rows));
      list = l ∙ loaded-rows image table k.count k.stands (held S) rows;
      fills = watching _ (held S) rows;
      shows = shown;
    }

-- THE LAW: after every list of calls
pub watched-in-c : WatchedInC
unfolding WatchedInC
watched-in-c image level f v words buffer S first b cs end U h =
    let r = begun image level f v words buffer in
    let o = begun-sound image level f v words buffer (started image level f v words buffer S first b).entry in
    watches end U (shows-run (run_in end U) (rw (session-run image level f v words buffer S first b cs end U h) (after-sound (first ++ events_of cs) r o)))

-- THE LAW: with a trail
pub watched-back-in-c : WatchedBackInC
unfolding WatchedBackInC
watched-back-in-c image level f v words buffer S first b cs now S' h T k ds end U W g =
    let x = trail-run image level f v words buffer S first b cs now S' h T k ds end U W g in
    watches end U (shows-run (run_in end U) (trail-sound (first ++ events_of cs) (begun image level f v words buffer) (moves_of ds) end U x))

-- THE LAW: in a pool
pub watched-pool-in-c : WatchedPoolInC
unfolding WatchedPoolInC run_of
watched-pool-in-c reserves before p r n m z states cs end h i image e =
    let k = pool-house reserves before p r m z states cs end h in
    let here : run_of (end.images i) (end.states i) ≡ some (run_in image (end.states i)) = rw e refl in
    watches image (end.states i) (shows-run (run_in image (end.states i)) (house-sound reserves (asks_of cs) i _ (ap (λ (w : House). w.runs i) (sym k.1) ∙ here)))
