-- What the methods of a frame answer.
use Rattle.std.specs.Prelude.{List, Bool, true, false, ℕ, ℤ, Err, None, Ok, Option, Result, Some}
use Rattle.std.specs.Ordering.{int_eq}
use Rattle.layout.specs.Tests.{any}
use Rattle.machine.specs.Try.{Try, got, stuck, stop, ◌>>=◌, at}
use Rattle.machine.specs.States.{is_vector, is_promise}
use Rattle.machine.specs.declared.Frame.{Frame}
use Rattle.machine.specs.declared.Place.{Place}
use Rattle.machine.specs.declared.Value.{Value}

-- what a place of a list of them holds; stuck where there is none
abbrev pub read_at : List Place → ℕ → Try Value
read_at places i = do
  c ← at places i
  got c.value

-- a look-up as a reader answers it: no reading ends a run
unfoldable pub read_of : Try Value → Option Value
read_of (got v) = Some v
read_of stuck = None
read_of (stop e) = None

-- a write to the frame f as a writer answers it: the frame as it was where it has no such place; no write ends a run
unfoldable pub written_of : Frame → Try Frame → Result Frame Frame
written_of f (got g) = Ok g
written_of f stuck = Err f
written_of f (stop e) = Err f

-- the value is none
unfoldable pub is_empty : Value → Bool
is_empty Value.Empty = true
is_empty (Value.Integer z) = false
is_empty (Value.Vector v) = false
is_empty (Value.Promise p) = false

-- the value is this integer
unfoldable pub is_integer : ℤ → Value → Bool
is_integer z Value.Empty = false
is_integer z (Value.Integer y) = int_eq y z
is_integer z (Value.Vector v) = false
is_integer z (Value.Promise p) = false

-- the value is this one
abbrev pub is_it : Value → Value → Bool
is_it Value.Empty = is_empty
is_it (Value.Integer z) = is_integer z
is_it (Value.Vector v) = is_vector v
is_it (Value.Promise p) = is_promise p

-- one of the places holds such a value
abbrev pub holds : (Value → Bool) → List Place → Bool
holds is places = any (λ (c : Place). is c.value) places
