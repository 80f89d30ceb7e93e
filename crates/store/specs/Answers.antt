-- What the parts of a step answer, as the machine's definitions say it.
use Rattle.std.specs.Prelude.{ℕ, ℤ, None, Some, Option}
use Rattle.layout.specs.Found.{Found}
use Rattle.machine.specs.Try.{Try, got, stuck}
use Rattle.machine.specs.declared.End.{End}
use Rattle.store.specs.declared.Halt.{Halt}

-- an integer, or stuck
unfoldable pub whole_of : Option ℤ → Try ℤ
whole_of (Some z) = got z
whole_of None = stuck

-- a place, or stuck
unfoldable pub found_of : Found → Try ℕ
found_of (Some i) = got i
found_of None = stuck

-- the end of a run that a step stopped
unfoldable pub end_of : Halt → End
end_of Halt.Undef = End.Undef
end_of Halt.Deep = End.Deep
end_of Halt.Vectors = End.Vectors
end_of Halt.Promises = End.Promises
