-- What the operations on integers answer.
use Rattle.std.specs.Prelude.{Bool, true, false, ℕ, zero, suc, ◌-◌, ℤ, pos, negsuc, None, Option, Some, Result, Ok, Err}
use Rattle.machine.specs.Values.{RANGE}
use Rattle.machine.specs.Try.{Try, got, stuck, stop}
use Rattle.integers.specs.declared.Fault.{Fault}

-- the result of an operation; integers end a run by UNDEF alone
unfoldable pub computed_of : Try ℤ → Result ℤ Fault
computed_of (got z) = Ok z
computed_of stuck = Err Fault.Stuck
computed_of (stop e) = Err Fault.Undef

-- the place of an item; no index is stuck
unfoldable pub indexed_of : Try ℕ → Option ℕ
indexed_of (got i) = Some i
indexed_of stuck = None
indexed_of (stop e) = None

-- is it −1? By −1 the least integer has no quotient in range
unfoldable pub is_minus_one : ℤ → Bool
is_minus_one (pos n) = false
is_minus_one (negsuc zero) = true
is_minus_one (negsuc (suc n)) = false

-- the greatest distance from 0 of a product in range: that of the least integer where the signs differ, else one less
unfoldable pub limit_of : ℤ → ℤ → ℕ
limit_of (pos a) (pos b) = RANGE - 1
limit_of (pos a) (negsuc b) = RANGE
limit_of (negsuc a) (pos b) = RANGE
limit_of (negsuc a) (negsuc b) = RANGE - 1
