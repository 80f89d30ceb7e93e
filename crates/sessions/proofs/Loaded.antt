-- A loaded image runs as its own program: by the laws of `loaded`, one for each definition.
use Rattle.machine.specs.Values.{RANGE}
use Rattle.loaded.proofs.Runs.{loaded-back, loaded-begin, loaded-budget, loaded-budget-on, loaded-here, loaded-pool-begin, loaded-pool-budget, loaded-pool-run, loaded-pool-step, loaded-rows, loaded-run, loaded-search}
use Rattle.loaded.proofs.Runs.{loaded-step, loaded-step-on, loaded-watch, loaded-watched}
use Rattle.sessions.specs.Loaded.{LoadedRuns}
use Rattle.sessions.proofs.Lent.{filled}

-- THE LAW: behind a load that answered 0
pub loaded-runs : LoadedRuns
unfolding LoadedRuns
loaded-runs image table t =
    let k = filled image table t in
    let n = k.count in
    let h = k.stands in
    record {
      begin = loaded-begin image table k.size n k.ready h;
      step = loaded-step image table n h RANGE;
      budget = loaded-budget image table n h RANGE;
      run = loaded-run image table k.size n k.ready h RANGE;
      place = loaded-here image table n h;
      search = loaded-search image table n h;
      step_with_trail = loaded-step-on image table n h;
      budget_with_trail = loaded-budget-on image table n h;
      back = loaded-back image table n h;
      watch = loaded-watch image table n h;
      watched = loaded-watched image table n h;
      rows = loaded-rows image table n h;
      pool_start = loaded-pool-begin image table k.size n k.ready h;
      pool_steps = loaded-pool-step image table n h;
      pool_budgets = loaded-pool-budget image table n h;
      pool_runs = λ level f v words buffer p i m. loaded-pool-run image table k.size n k.ready h level f v words buffer p i m;
    }
