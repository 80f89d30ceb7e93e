-- What a place of a live call holds, as numbers: 0 nothing, 1 an integer, 2 a vector, 3 a promise, 4 no such place.
use Rattle.std.specs.Prelude.{pos, None, Option, Some}
use Rattle.machine.specs.declared.Value.{Value}
use Rattle.abi.specs.declared.answers.FirValue.{FirValue}

-- a value as numbers: vectors and promises by their places
unfoldable pub value_numbers : Value → FirValue
value_numbers Value.Empty = record { number = pos 0; kind = 0; place = 0 }
value_numbers (Value.Integer z) = record { number = z; kind = 1; place = 0 }
value_numbers (Value.Vector v) = record { number = pos 0; kind = 2; place = v }
value_numbers (Value.Promise p) = record { number = pos 0; kind = 3; place = p }

-- no such place
unfoldable pub no_place : FirValue
no_place = record { number = pos 0; kind = 4; place = 0 }

-- what was looked up, as numbers
unfoldable pub read_numbers : Option Value → FirValue
read_numbers None = no_place
read_numbers (Some v) = value_numbers v
