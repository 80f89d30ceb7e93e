-- The state that the caller's memory stands for.
use Rattle.std.specs.Prelude.{List, ℕ, ℤ}
use Rattle.machine.specs.declared.State.{State}
use Rattle.store.specs.Store.{state_in}
use Rattle.abi.specs.declared.state.FirState.{FirState}

-- whatever its bytes and its numbers are
abbrev pub held : FirState → State
held S = state_in S.bytes S.numbers

-- the memory of these bytes and numbers
abbrev pub stored : List ℕ → List ℤ → FirState
stored b n = record { numbers = n; bytes = b }
