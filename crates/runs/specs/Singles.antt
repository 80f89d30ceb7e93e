-- A budget is so many single steps: in the history that demand 3 speaks of, and in the run that it leaves. The statement alone.
use Rattle.std.specs.Prelude.{◌≡◌, List, ℕ, ℤ, length, replicate}
use Rattle.machine.specs.Events.{Run, Event, single, budget, handle, after, tried, history}

-- so many single steps
abbrev pub singles : ℕ → List Event
singles k = replicate k single

-- A budget tries its steps where as many single steps are tried, and leaves the run that they leave; one that is refused, or on an ended run, tries none
unfoldable pub BudgetIsSteps : Type 0
BudgetIsSteps =
    (n : ℕ) (buffer : List ℤ) (r : Run) → let k = length (tried (budget n buffer) r) in (tried (budget n buffer) r ≡ history (singles k) r) × ((handle (budget n buffer) r).run ≡ after (singles k) r)
