-- DONE ends one call alone: the statement.
use Rattle.std.specs.Prelude.{◌≡◌, ℕ, ℤ, Ok}
use mathlib.Core.List.{List, Memᴰ}
use Rattle.machine.specs.Begin.{begin_of}
use Rattle.machine.specs.Events.{Run, Event, history}
use Rattle.machine.specs.declared.Status.{Status}
use Rattle.soundness.specs.Claim.{begun}

-- Where the lowest activation of a begun run stands on top, no call but the first is live: DONE ends that one alone.
unfoldable pub LastCall : Type 0
LastCall =
    (image : List ℕ) (level f v : ℕ) (words buffer : List ℤ) → (begin_of image level f v words buffer).entry ≡ Ok tt
    → (events : List Event) (b : Run) → Memᴰ b (history events (begun image level f v words buffer)) → b.state.status ≡ Status.Running → b.state.depth ≡ 1 → b.state.calls ≡ 1
