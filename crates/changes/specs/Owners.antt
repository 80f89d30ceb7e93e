-- What a change sees of a state: the functions and versions of its live calls.
use Rattle.std.specs.Prelude.{cond, List, [], ℕ, ltb}
use Rattle.layout.specs.Records.{◌!◌}
use Rattle.machine.specs.States.{ACTIVATIONS}
use Rattle.machine.specs.declared.State.{State}
use Rattle.store.specs.Store.{CALLS, state_in}

-- how many frames are those of live calls
unfoldable pub live_calls : List ℕ → ℕ
live_calls b = cond (ltb (b ! CALLS) ACTIVATIONS) (b ! CALLS) ACTIVATIONS

-- the state of these bytes, with no number
unfoldable pub owned_by : List ℕ → State
owned_by b = state_in b []
